-- The first entry with the same fully spelled-out formula; the starts of new terms, and that an entry that is
-- taken over means what it meant.
use Prim.Native.Nat.{ℕ, ◌≤◌, ◌<◌}
use native.Mathlib.Omega.{arith}
use mathlib.Core.Path.{◌≡◌, refl, sym, ap, ◌∙◌}
use mathlib.Core.Bool.{Bool, true, cond}
use lib.Dec.{ltb}
use borrow.Author.Tests.{lt-ltb}
use Rattle.sets.proofs.Finite.{bool_iff}
use Rattle.theory.specs.Formula.{Formula, number, is_past, bare, same}
use Rattle.theory.specs.Meaning.{Record, Assignment, holds}
use Rattle.theory.specs.Terms.{Terms, formula, past_entry, first_same}
use Rattle.theory.specs.Keeper.{Book, last, revised_start}
use Rattle.theory.proofs.Unfolding.{table_of, number_lt, number_apart, table_spelled}
use Rattle.theory.proofs.Past.{PastEntry, past-entry}
use Rattle.theory.proofs.Lowest.{lowest_has, lowest_first, lowest_cong}
use Rattle.theory.proofs.Renumbered.{same_bare, bare_same, renumbered_twice, past_same, everywhere_spelled, same_meaning}
use Rattle.theory.proofs.RunInvariant.{Together}

-- ---- the first entry with the same formula

-- It depends on the fully spelled-out formula alone.
pub first_cong : (T : Terms) (f h : Formula) → bare f ≡ bare h → first_same T f ≡ first_same T h
unfolding first_same
first_cong T f h e =
    lowest_cong T.entries (λ k. same (formula T k) f) (λ k. same (formula T k) h)
    (λ k _. bool_iff _ _
    (λ q. bare_same (formula T k) h (same_bare (formula T k) f q ∙ e))
    (λ q. bare_same (formula T k) f (same_bare (formula T k) h q ∙ sym e)))

pub first_bare : (T : Terms) (f : Formula) → first_same T (bare f) ≡ first_same T f
first_bare T f = first_cong T (bare f) f (renumbered_twice (λ t. 0) (λ t. 0) f)

-- Where there is one, it has that formula.
pub first_has : (T : Terms) (f : Formula) → first_same T f < T.entries → bare (formula T (first_same T f)) ≡ bare f
unfolding first_same
first_has T f l = same_bare (formula T (first_same T f)) f (lowest_has (λ k. same (formula T k) f) T.entries l)

-- And it is no later than any that has it.
pub first_le : (T : Terms) (f : Formula) (k : ℕ) → k < T.entries → bare (formula T k) ≡ bare f → first_same T f ≤ k
unfolding first_same
first_le T f k l e = lowest_first (λ k. same (formula T k) f) T.entries k l (bare_same (formula T k) f e)

-- Past-time entry number t, from an entry's side.
past_number : (T : Terms) (n : ℕ) → n < T.entries → is_past (T.entry n).op ≡ true → past_entry T (number T.entry n) ≡ n
past_number T n l p =
    let e : PastEntry T (number T.entry n) = past-entry T (number T.entry n) (number_lt T.entry n T.entries l p) in
    number_apart T.entry (past_entry T (number T.entry n)) n e.past p e.numbered

-- ---- starts

module _ (B : Book) where
  abbrev T : Terms
  T = B.terms

  -- When a formula starts under new terms: with the first old entry that has it, or now.
  abbrev pub start_of : Formula → ℕ
  start_of φ = cond (ltb (first_same T φ) T.entries) (B.start (number T.entry (first_same T φ))) (last B.moments)

  start_bare : (φ : Formula) → start_of (bare φ) ≡ start_of φ
  start_bare φ =
      ap (λ (k : ℕ). cond (ltb k T.entries) (B.start (number T.entry k)) (last B.moments)) (first_bare T φ)

  -- A new entry.
  pub start_new : (U : Terms) (n : ℕ) → n < U.entries → is_past (U.entry n).op ≡ true →
      revised_start B U (number U.entry n) ≡ start_of (formula U n)
  start_new U n l p = ap (λ (k : ℕ). start_of (formula U k)) (past_number U n l p)

  -- An old entry: the first with its formula started with it.
  pub start_old : Together T B.start → (k : ℕ) → k < T.entries → is_past (T.entry k).op ≡ true →
      B.start (number T.entry k) ≡ start_of (formula T k)
  start_old together k l p =
      let j : ℕ = first_same T (formula T k) in
      let le : j ≤ k = first_le T (formula T k) k l refl in
      let has : bare (formula T j) ≡ bare (formula T k) = first_has T (formula T k) (omega arith) in
      together k j l (omega arith) p (past_same T.entry T.entry j k has ∙ p) (sym has)
      ∙ sym (ap (λ (c : Bool). cond c (B.start (number T.entry j)) (last B.moments)) (lt-ltb j T.entries (omega arith)))

  -- An entry of the new terms means, from its new start, what an old entry with the same formula meant from its own:
  -- whichever old entry that is, and the past-time entries inside included.
  module _ (U : Terms) (N : ℕ) (γ : Record) (together : Together T B.start) where
    pub taken_meaning : (n k : ℕ) → n < U.entries → k < T.entries → bare (formula U n) ≡ bare (formula T k) →
        (i : ℕ) (g : Assignment) (m : ℕ) → holds N (revised_start B U) γ (formula U n) i g m ≡ holds N B.start γ (formula T k) i g m
    taken_meaning n k nl kl e =
        same_meaning N γ start_of (revised_start B U) B.start (formula U n) (formula T k) e
        (everywhere_spelled U.entry (λ φ. revised_start B U (table_of φ) ≡ start_of (bare φ)) n (λ j l p.
        ap (revised_start B U) (table_spelled U.entry j p) ∙ start_new U j (omega arith) p ∙ sym (start_bare (formula U j))))
        (everywhere_spelled T.entry (λ φ. B.start (table_of φ) ≡ start_of (bare φ)) k (λ j l p.
        ap B.start (table_spelled T.entry j p) ∙ start_old together j (omega arith) p ∙ sym (start_bare (formula T j))))
