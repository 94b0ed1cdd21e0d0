-- What settling a not or an or comes to, from what its operands are settled to.
use Prim.Native.Nat.{ℕ, ◌<◌}
use native.Mathlib.Omega.{arith}
use mathlib.Core.Path.{◌≡◌, sym, ap, ◌∙◌}
use mathlib.Core.Bool.{Bool, true, false, not, ◌||◌}
use mathlib.Core.List.{List}
use Rattle.sets.proofs.Finite.{or_left}
use Rattle.theory.specs.Meaning.{assign}
use Rattle.theory.specs.Terms.{Terms}
use Rattle.theory.specs.Fit.{GoodEntry}
use Rattle.memory.specs.Layout.{terms_of}
use Rattle.memory.specs.Checks.{good_memory}
use Rattle.deciding.specs.private.Rows.{now_at}
use Rattle.theory.proofs.Good.{first_lower, second_lower}
use Rattle.memory.proofs.Accepted.{good}
use Rattle.deciding.proofs.Unfolded.{now_neg, now_or}

module _ (terms : List ℕ) (fine : good_memory terms ≡ true) (i : ℕ) (il : i < (terms_of terms).entries) where
  abbrev T : Terms
  T = terms_of terms

  entry : GoodEntry T i
  entry = (good terms fine).entry i il

  -- An operand is an entry, and lower than the measure t, which is i.
  pub record Lower (t k : ℕ) : Type 0 where
    pub falls : k < t
    pub exists : k < T.entries

  lower : {t k : ℕ} → i ≡ t → k < i → Lower t k
  lower m l = record { falls = omega arith; exists = omega arith }

  module _ {t o k : ℕ} (m : i ≡ t) (op : o ≡ (T.entry i).op) where
    pub neg_lower : k ≡ (T.entry i).a → o ≡ 2 → Lower t k
    neg_lower a e = lower m (rw a (first_lower entry (rw (sym op ∙ e))))

    pub or_first_lower : k ≡ (T.entry i).a → o ≡ 3 → Lower t k
    or_first_lower a e = lower m (rw a (first_lower entry (rw (sym op ∙ e))))

    pub or_second_lower : k ≡ (T.entry i).b → o ≡ 3 → Lower t k
    or_second_lower b e = lower m (rw b (second_lower entry (rw (sym op ∙ e))))

  module _ (rel past : List ℕ) (u v : ℕ) where
    -- Entry k holds now at u, with variable 0 standing for v.
    abbrev H : ℕ → Bool
    H k = now_at T rel past (assign (λ x. 0) 0 v) k u

    pub neg_settled : {o k : ℕ} {r : Bool} → o ≡ (T.entry i).op → k ≡ (T.entry i).a → o ≡ 2 → r ≡ H k → not r ≡ H i
    neg_settled op a e h = ap not (h ∙ ap H a) ∙ sym (now_neg T rel past (assign (λ x. 0) 0 v) i u entry (sym op ∙ e))

    or_split : {o : ℕ} → o ≡ (T.entry i).op → o ≡ 3 → (H (T.entry i).a || H (T.entry i).b) ≡ H i
    or_split op e = sym (now_or T rel past (assign (λ x. 0) 0 v) i u entry (sym op ∙ e))

    pub or_first : {o k : ℕ} {r : Bool} → o ≡ (T.entry i).op → k ≡ (T.entry i).a → o ≡ 3 → r ≡ H k → r ≡ true → true ≡ H i
    or_first op a e h t = sym (or_left (H (T.entry i).a) (H (T.entry i).b) (ap H (sym a) ∙ sym h ∙ t)) ∙ or_split op e

    pub or_second : {o k l : ℕ} {r q : Bool} → o ≡ (T.entry i).op → k ≡ (T.entry i).a → l ≡ (T.entry i).b → o ≡ 3 → r ≡ H k → r ≡ false → q ≡ H l → q ≡ H i
    or_second op a b e h f k = k ∙ ap H b ∙ ap (λ (z : Bool). z || H (T.entry i).b) (sym f ∙ h ∙ ap H a) ∙ or_split op e
