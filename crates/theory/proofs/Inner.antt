-- Of several old entries with the same formula, any may be the one that is taken over; and terms revised to themselves
-- leave every table as it is.
use Prim.Native.Nat.{ℕ, ◌<◌}
use native.Mathlib.Omega.{arith}
use mathlib.Core.Path.{◌≡◌, refl, sym, ap, ◌∙◌}
use mathlib.Core.List.{List}
use mathlib.Core.Bool.{true, cond}
use lib.Dec.{ltb}
use Rattle.theory.specs.Formula.{Formula, number, is_past, bare, columns}
use Rattle.theory.specs.Meaning.{holds}
use Rattle.theory.specs.Columns.{inside, member_at, standing_at, standing, member}
use Rattle.theory.specs.Terms.{Terms, formula}
use Rattle.theory.specs.Keeper.{Book, record_of, last, revised_start}
use Rattle.theory.specs.Tables.{State, revised}
use Rattle.theory.specs.Fit.{Good}
use Rattle.theory.proofs.Unfolding.{table_of, table_spelled}
use Rattle.theory.proofs.MeaningNow.{SameAt}
use Rattle.theory.proofs.Renumbered.{Everywhere, everywhere_spelled, same_meaning, columns_bare, past_same}
use Rattle.theory.proofs.RunInvariant.{Together, Kept}
use Rattle.theory.proofs.CarriedOver.{first_cong, first_bare, start_of, start_new, start_old, taken_meaning}
use Rattle.theory.proofs.Revised.{revised_kept}

-- ---- each past-time formula inside an entry starts when the first entry with its formula does

module _ (B : Book) where
  start_bared : (φ : Formula) → start_of B (bare φ) ≡ start_of B φ
  start_bared φ =
      ap (λ (i : ℕ). cond (ltb i B.terms.entries) (B.start (number B.terms.entry i)) (last B.moments)) (first_bare B.terms φ)

  started_old : Together B.terms B.start → (k : ℕ) → k < B.terms.entries →
      Everywhere (λ φ. B.start (table_of φ) ≡ start_of B (bare φ)) (formula B.terms k)
  started_old together k kl = everywhere_spelled B.terms.entry (λ φ. B.start (table_of φ) ≡ start_of B (bare φ)) k (λ j l p.
      ap B.start (table_spelled B.terms.entry j p) ∙ start_old B together j (omega arith) p ∙ sym (start_bared (formula B.terms j)))

-- ---- which of several old entries with the same formula it is does not matter

module _ (B : Book) (S : State) (kept : Kept B.terms B.start S B.moments) where
  abbrev T : Terms
  T = B.terms

  -- Two old entries with the same formula have the same start, by the invariant, and so the same table.
  pub same_tables : (k n : ℕ) → k < T.entries → n < T.entries → is_past (T.entry k).op ≡ true → is_past (T.entry n).op ≡ true →
      bare (formula T k) ≡ bare (formula T n) → SameAt T.members (columns (formula T k)) (S.table (number T.entry k)) (S.table (number T.entry n))
  same_tables k n kl nl p q e a b z =
      let cs : columns (formula T k) ≡ columns (formula T n) = columns_bare (formula T k) (formula T n) e in
      kept.tables k kl p a b z
      ∙ same_meaning T.members (record_of T B.moments) (start_of B) B.start B.start (formula T k) (formula T n) e
      (started_old B kept.together k kl) (started_old B kept.together n nl) (last B.moments) (standing (formula T k) a b) (member (formula T k) a)
      ∙ ap (λ (xs : List ℕ). holds T.members B.start (record_of T B.moments) (formula T n) (last B.moments) (standing_at xs a b) (member_at xs a)) cs
      ∙ sym (kept.tables n nl q a b (ap (λ (xs : List ℕ). inside T.members xs a b) (sym cs) ∙ z))

  -- An entry of new terms starts with any old entry that has its formula, not only the first.
  pub starts_with : (U : Terms) (n k : ℕ) → n < U.entries → is_past (U.entry n).op ≡ true → k < T.entries → bare (formula T k) ≡ bare (formula U n) →
      revised_start B U (number U.entry n) ≡ B.start (number T.entry k)
  starts_with U n k nl p kl e =
      start_new B U n nl p
      ∙ ap (λ (i : ℕ). cond (ltb i T.entries) (B.start (number T.entry i)) (last B.moments)) (first_cong T (formula U n) (formula T k) (sym e))
      ∙ sym (start_old B kept.together k kl (past_same T.entry U.entry k n e ∙ p))

-- ---- the terms that were there already

-- New terms that are the old ones leave every table as it is, in a run; (in a state that no run leaves, two entries
-- with the same formula may have two tables, and then both take the first's).
pub revised_same : (B : Book) (S : State) → (kept : Kept B.terms B.start S B.moments) → Good B.terms → (n : ℕ) → n < B.terms.entries → is_past (B.terms.entry n).op ≡ true →
    SameAt B.terms.members (columns (formula B.terms n)) ((revised B.terms S B.terms).table (number B.terms.entry n)) (S.table (number B.terms.entry n))
revised_same B S kept good n l p a b z =
    (revised_kept B S kept B.terms good refl refl refl).tables n l p a b z
    ∙ taken_meaning B B.terms B.terms.members (record_of B.terms B.moments) kept.together n n l l refl (last B.moments) (standing (formula B.terms n) a b) (member (formula B.terms n) a)
    ∙ sym (kept.tables n l p a b z)
