-- Refusal 11, by the words that the lines have filled.
use Rattle.std.specs.Prelude.{ℕ, ◌≡◌, Bool, false, cond, not, ◌&&◌, List, eqb, ltb, get_or}
use Rattle.theory.specs.Terms.{past_entry}
use Rattle.theory.specs.Limits.{max_members, max_tables}
use Rattle.memory.specs.Layout.{terms_of, table_at}
use Rattle.fields.specs.Split.{lines}
use Rattle.file.specs.File.{File}
use Rattle.file.specs.Reading.{partly_at}
use Rattle.file.specs.Reading.Reading.{accepted}
use Rattle.reader.specs.private.Storing.{all_read, Holds}
use Rattle.file.specs.declared.line.Line.{Line}
use Rattle.file.specs.declared.line.Line.TheVariants.{Members, Labels, Entry, Policy, Effect, Edge, Form, TableBit, PairBit, EventEdge, Mark, Malformed}

-- Word a of table t; 0 where there is none.
abbrev pub table_word : (state : List ℕ) → (t a : ℕ) → ℕ
table_word state t a = cond (ltb t max_tables && ltb a max_members) (get_or state (table_at t a) 0) 0

-- A line is a T line of a word that is not full, in a table without a free variable. masks has the sets of free
-- variables, full has all bits of a word.
unfoldable pub partly_in : (terms state masks : List ℕ) → (full : ℕ) → Line → Bool
partly_in terms state masks full (Members n) = false
partly_in terms state masks full (Labels r e) = false
partly_in terms state masks full (Entry n o a b c) = false
partly_in terms state masks full (Policy j n) = false
partly_in terms state masks full (Effect j c k d) = false
partly_in terms state masks full (Edge k a b) = false
partly_in terms state masks full (Form n) = false
partly_in terms state masks full (TableBit t a b) = eqb (get_or masks (past_entry (terms_of terms) t) 0) 0 && not (eqb (table_word state t a) full)
partly_in terms state masks full (PairBit t a b c) = false
partly_in terms state masks full (EventEdge j u v) = false
partly_in terms state masks full (Mark j) = false
partly_in terms state masks full Malformed = false

-- r is the line of refusal 11, or 0, whatever file the lines of the text say, where the words hold it.
abbrev pub Found : (text terms state masks : List ℕ) → (r : ℕ) → Type 0
Found text terms state masks r = (f : File) → all_read text ≡ accepted f → Holds f terms state masks → r ≡ partly_at f 1 (lines text)
