-- The place of a kind's word among the kinds' words; the place after the last of none.
use Rattle.std.specs.Prelude.{ℕ, Option, Some, None}
use Rattle.file.specs.declared.vocabulary.Kind.{Kind}
use Rattle.file.specs.declared.vocabulary.Kind.TheVariants.{Members, Labels, Entry, Policy, Effect, Edge, Form, Table, Event, Mark}

-- The place of a kind's word among the kinds' words.
abbrev pub kind_number : Kind → ℕ
kind_number Members = 0
kind_number Labels = 1
kind_number Entry = 2
kind_number Policy = 3
kind_number Effect = 4
kind_number Edge = 5
kind_number Form = 6
kind_number Table = 7
kind_number Event = 8
kind_number Mark = 9

-- The same of what a field names; the place after the last where it is no such word.
abbrev pub kind_told : Option Kind → ℕ
kind_told (Some k) = kind_number k
kind_told None = 10
