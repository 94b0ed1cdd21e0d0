-- How the program finds the first old entry with the same fully spelled-out formula, without spelling out: entries are
-- compared by operator, by operands that are numbers, and by the classes of operands that are entries. The class of an
-- entry is the first old entry with its formula, or the number of old entries where there is none.
use Rattle.std.specs.Prelude.{ℕ, ◌<◌, ◌≡◌, List, get_or, Bool, true, ◌&&◌, eqb}
use Rattle.theory.specs.Formula.{Entry, Operand, first_operand, second_operand, third_operand}
use Rattle.theory.specs.Terms.{Terms, formula, first_same}
use Rattle.theory.specs.Formula.Operand.{unused, variable, binder, label, entry, count}

-- Operand x of an old entry and y of a new one, where c and d are the classes of old and new entries.
unfoldable pub same_operand : Operand → (c d : ℕ → ℕ) → (x y : ℕ) → Bool
same_operand unused c d x y = true
same_operand variable c d x y = eqb x y
same_operand binder c d x y = eqb x y
same_operand label c d x y = eqb x y
same_operand entry c d x y = eqb (c x) (d y)
same_operand count c d x y = eqb x y

unfoldable pub same_entry : (c d : ℕ → ℕ) → Entry → Entry → Bool
same_entry c d e f =
    eqb e.op f.op
    && (same_operand (first_operand f.op) c d e.a f.a && (same_operand (second_operand f.op) c d e.b f.b && same_operand (third_operand f.op) c d e.c f.c))

-- The first n words are classes: of each entry of U the first entry of T with the same fully spelled-out
-- formula, or the number of T's entries.
pub record Classed (T U : Terms) (n : ℕ) (w : List ℕ) : Type 0 where
  pub here : (k : ℕ) → k < n → get_or w k 0 ≡ first_same T (formula U k)
