-- An entry as one number, its key, so that two entries are the same exactly if their keys are; and a table of marks by
-- which most keys that are not there are told at once.
use Rattle.std.specs.Prelude.{ℕ, ◌+◌, ◌*◌, ◌/◌, ◌%◌, ◌<◌, ◌≡◌, Bool, true, List, get_or}
use Rattle.sets.specs.Sets.{bit}
use Rattle.theory.specs.Formula.{Entry, Operand, first_operand, second_operand, third_operand}
use Rattle.theory.specs.Formula.Operand.{unused, variable, binder, label, entry, count}

-- What an operand counts for when entries are compared: nothing where it is not used, the class of an
-- entry, else the number itself.
unfoldable pub normal : Operand → (class : ℕ → ℕ) → ℕ → ℕ
normal unused c x = 0
normal variable c x = x
normal binder c x = x
normal label c x = x
normal entry c x = c x
normal count c x = x

-- Four numbers in one, 16 bits each.
abbrev pub packed : (a b c d : ℕ) → ℕ
packed a b c d = ((a * 65536 + b) * 65536 + c) * 65536 + d

unfoldable pub key_of : (class : ℕ → ℕ) → Entry → ℕ
key_of c e =
    packed e.op (normal (first_operand e.op) c e.a) (normal (second_operand e.op) c e.b) (normal (third_operand e.op) c e.c)

-- Marks are the bits of 64 words; the mark of a key is that of its remainder by a prime below 4,096.
abbrev pub bucket : ℕ → ℕ
bucket key = key % 4093

unfoldable pub marked : List ℕ → ℕ → Bool
marked marks key = bit (get_or marks (bucket key / 64) 0) (bucket key % 64)

-- The first n keys are marked.
pub record Marked (keys marks : List ℕ) (n : ℕ) : Type 0 where
  pub here : (j : ℕ) → j < n → marked marks (get_or keys j 0) ≡ true
