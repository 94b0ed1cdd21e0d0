-- A list of new numbers that passes check 15 is a renumbering, and it can be undone.
use Prim.Native.Nat.{ℕ, zero, suc, ◌≤◌, ◌<◌}
use native.Mathlib.Omega.{arith}
use mathlib.Core.Path.{◌≡◌, refl, sym, ap, ◌∙◌}
use mathlib.Core.Bool.{Bool, true, false, cond, ◌||◌, false≢true}
use mathlib.Core.List.{List, [], ◌∷◌}
use lib.Dec.{eqb, ltb}
use lib.ListN.{length, get_or, get_or-eq_default}
use borrow.Author.Tests.{le-ltb, lt-ltb, ltb-true, ltb-false, eq-eqb, eqb-true}
use Rattle.sets.specs.Sets.{any_below}
use Rattle.sets.proofs.Finite.{and_left, and_right, and_both, all_out, all_true, any_intro}
use Rattle.theory.specs.Formula.{highest}
use Rattle.memory.proofs.Row.{length_tabulate, get_d_tabulate}
use Rattle.theory.specs.NewNumbers.{new_number, old_number, renumbers}
use Rattle.theory.specs.MembersRenumbered.{Renumbering}
use Rattle.calls.specs.Renumbering.{undo}
use Rattle.theory.proofs.Permuted.{Permutes, onto_permutes}

highest_found : (n : ℕ) (P : ℕ → Bool) → any_below n P ≡ true → (highest n P < n) × (P (highest n P) ≡ true)
unfolding any_below highest
highest_found zero P e = absurd (false≢true e)
highest_found (suc n) P e = go (P n) refl e (highest_found n P)
  where
    go : (c : Bool) → P n ≡ c → c || any_below n P ≡ true → (any_below n P ≡ true → (highest n P < n) × (P (highest n P) ≡ true)) →
        (cond c n (highest n P) < suc n) × (P (cond c n (highest n P)) ≡ true)
    go true z _ ih = (omega arith, z)
    go false z f ih = let w = ih f in (omega (arith, w.0), w.1)

-- At an index of the list the default does not count.
pub get_d_any : (l : List ℕ) (i a b : ℕ) → i < length l → get_or l i a ≡ get_or l i b
get_d_any [] i a b h = absurd (omega arith)
get_d_any (x ∷ l) zero a b h = refl
get_d_any (x ∷ l) (suc i) a b h = get_d_any l i a b (omega arith)

-- By cases on whether m is a member.
member_or_not : {A : Type 0} (N m : ℕ) → (m < N → A) → (N ≤ m → A) → A
member_or_not {A} N m f h = go (ltb m N) refl
  where
    go : (c : Bool) → ltb m N ≡ c → A
    go true e = f (ltb-true m N e)
    go false e = h (ltb-false m N e)

module _ (N : ℕ) (p : List ℕ) (ok : renumbers N p ≡ true) where
  long : length p ≡ N
  unfolding renumbers
  long = eqb-true (length p) N (and_left (eqb (length p) N) _ ok)

  found : (m : ℕ) → m < N → any_below N (λ k. eqb (get_or p k k) m) ≡ true
  unfolding renumbers
  found m l = all_out N (λ m. any_below N (λ k. eqb (get_or p k k) m)) (and_right (eqb (length p) N) _ ok) m l

  new_stranger : (m : ℕ) → N ≤ m → new_number p m ≡ m
  new_stranger m h = get_or-eq_default p m (omega (arith, long))

  old_stranger : (m : ℕ) → N ≤ m → old_number N p m ≡ m
  old_stranger m h = rw (le-ltb m N h)

  old_member : (m : ℕ) → m < N → (old_number N p m < N) × (new_number p (old_number N p m) ≡ m)
  old_member m l =
      let w = highest_found N (λ k. eqb (get_or p k k) m) (found m l) in
      rw (lt-ltb m N l) (w.0, eqb-true _ m w.1)

  permuted : Permutes N (new_number p) (old_number N p)
  permuted = onto_permutes N (new_number p) (old_number N p) (λ k l. (old_member k l).0) (λ k l. (old_member k l).1)

  -- Check 15 is right.
  pub renumbering : Renumbering N (new_number p) (old_number N p)
  renumbering = record {
    new = permuted.new;
    old = permuted.old;
    back = λ m. member_or_not N m (permuted.back m) (λ h. ap (old_number N p) (new_stranger m h) ∙ old_stranger m h);
    forth = λ m. member_or_not N m (permuted.forth m) (λ h. ap (new_number p) (old_stranger m h) ∙ new_stranger m h);
  }

module _ (N : ℕ) (p : List ℕ) (ok : renumbers N p ≡ true) where
  pub undo_new : (m : ℕ) → new_number (undo N p) m ≡ old_number N p m
  undo_new m =
      member_or_not N m (λ l. get_d_any (undo N p) m m 0 (omega (arith, length_tabulate N (old_number N p))) ∙ get_d_tabulate N (old_number N p) m l)
      (λ h. get_or-eq_default (undo N p) m (omega (arith, length_tabulate N (old_number N p))) ∙ sym (old_stranger N p ok m h))

  -- The numbers that undo it pass check 15.
  pub undo_renumbers : renumbers N (undo N p) ≡ true
  unfolding renumbers
  undo_renumbers =
      and_both _ _ (eq-eqb _ N (length_tabulate N (old_number N p)))
      (all_true N (λ m l. any_intro N (λ k. eqb (get_or (undo N p) k k) m) (new_number p m) ((renumbering N p ok).new m l)
      (eq-eqb _ m (undo_new (new_number p m) ∙ (renumbering N p ok).back m))))

  pub undo_old : (m : ℕ) → old_number N (undo N p) m ≡ new_number p m
  undo_old m =
      let x : ℕ = old_number N (undo N p) m in
      sym ((renumbering N p ok).forth x)
      ∙ ap (new_number p) (sym (undo_new x) ∙ (renumbering N (undo N p) undo_renumbers).forth m)
