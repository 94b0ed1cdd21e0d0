-- Check 15 by the set of the numbers in the list: no number below n is missing.
use Prim.Native.Nat.{ℕ, ◌+◌, ◌≤◌, ◌<◌}
use native.Mathlib.Omega.{arith}
use mathlib.Core.Path.{◌≡◌, refl, sym, ap, subst, fun_ext, ◌∙◌}
use mathlib.Core.Logic.{⊎_elim}
use mathlib.Core.Bool.{Bool, true, false, not, ◌&&◌, ◌||◌}
use mathlib.Core.List.{List}
use lib.Dec.{eqb, ltb}
use lib.Bits.{bit_and, bit_xor}
use lib.ListN.{length, get_or, get_or-eq_default}
use borrow.Author.Tests.{eqb-true, eq-eqb, ne_eqb, ltb-true, ltb-false, lt-ltb}
use Rattle.sets.specs.Sets.{any_below, all_below, bit}
use Rattle.sets.proofs.Finite.{bool_iff, is_false, not_both, and_left, and_right, and_both, or_left, or_right, or_cases, any_intro, any_elim, all_true, all_out, last_or_below}
use Rattle.sets.proofs.Bits.{bit_zero, bit_without, same_bits}
use Rattle.theory.specs.NewNumbers.{new_number, renumbers}
use Rattle.calls.proofs.MembersNumbers.{get_d_any}

-- The set of the first i numbers of the list.
abbrev pub Seen : List ℕ → ℕ → ℕ → Type 0
Seen p i seen = (m : ℕ) → bit seen m ≡ any_below i (λ k. ltb m 64 && eqb m (get_or p k 0))

pub seen_none : (p : List ℕ) → Seen p 0 0
unfolding any_below
seen_none p m = bit_zero m

pub seen_more : (p : List ℕ) (i seen x seen' : ℕ) → Seen p i seen → x ≡ get_or p i 0 → ((m : ℕ) → bit seen' m ≡ (bit seen m || (ltb m 64 && eqb m x))) → Seen p (i + 1) seen'
seen_more p i seen x seen' h e w m =
    w m ∙ bool_iff _ _
    (λ q. ⊎_elim
    (λ s. let a = any_elim i (λ k. ltb m 64 && eqb m (get_or p k 0)) (sym (h m) ∙ s) in
    any_intro (i + 1) (λ k. ltb m 64 && eqb m (get_or p k 0)) a.0 (let z = a.1 in omega arith) a.2)
    (λ s. any_intro (i + 1) (λ k. ltb m 64 && eqb m (get_or p k 0)) i (omega arith) (ap (λ (y : ℕ). ltb m 64 && eqb m y) (sym e) ∙ s))
    (or_cases (bit seen m) (ltb m 64 && eqb m x) q))
    (λ q. let a = any_elim (i + 1) (λ k. ltb m 64 && eqb m (get_or p k 0)) q in by a.0 a.1 a.2)
  where
    by : (k : ℕ) → k < i + 1 → (ltb m 64 && eqb m (get_or p k 0)) ≡ true → (bit seen m || (ltb m 64 && eqb m x)) ≡ true
    by k l t = ⊎_elim
        (λ b. or_left (bit seen m) _ (h m ∙ any_intro i (λ k. ltb m 64 && eqb m (get_or p k 0)) k b t))
        (λ b. or_right (bit seen m) _ (ap (λ (y : ℕ). ltb m 64 && eqb m y) (e ∙ ap (λ (j : ℕ). get_or p j 0) (sym b)) ∙ t))
        (last_or_below k i (omega arith))

pub all_seen : (p : List ℕ) (n all seen : ℕ) → n < 65 → length p ≡ n → ((m : ℕ) → bit all m ≡ (ltb m 64 && ltb m n)) → Seen p n seen →
    eqb (bit_xor all (bit_and all seen)) 0 ≡ renumbers n p
unfolding renumbers
all_seen p n all seen small long mask s =
    bool_iff _ _
    (λ e. and_both (eqb (length p) n) _ (eq-eqb (length p) n long) (all_true n (λ m l. there m l (eqb-true missing 0 e))))
    (λ e. eq-eqb missing 0 (same_bits missing 0 (λ m. is_false (bit missing m) (none (and_right (eqb (length p) n) _ e) m) ∙ sym (bit_zero m))))
  where
    missing : ℕ
    missing = bit_xor all (bit_and all seen)

    is_in : (m : ℕ) → m < n → bit all m ≡ true
    is_in m l = mask m ∙ and_both (ltb m 64) (ltb m n) (lt-ltb m 64 (omega arith)) (lt-ltb m n l)

    named : (m : ℕ) → m < n → bit seen m ≡ true → any_below n (λ k. eqb (get_or p k k) m) ≡ true
    named m l b =
        let a = any_elim n (λ k. ltb m 64 && eqb m (get_or p k 0)) (sym (s m) ∙ b) in
        any_intro n (λ k. eqb (get_or p k k) m) a.0 a.1
        (eq-eqb _ m (get_d_any p a.0 a.0 0 (subst (λ (x : ℕ). a.0 < x) (sym long) a.1) ∙ sym (eqb-true m _ (and_right (ltb m 64) _ a.2))))

    there : (m : ℕ) → m < n → missing ≡ 0 → any_below n (λ k. eqb (get_or p k k) m) ≡ true
    there m l z = named m l (seen_it (bit seen m) refl)
      where
        seen_it : (b : Bool) → bit seen m ≡ b → bit seen m ≡ true
        seen_it true e = e
        seen_it false e =
            absurd (not_both (bit missing m) (bit_without all seen m ∙ and_both (bit all m) (not (bit seen m)) (is_in m l) (ap not e)) (ap (λ (x : ℕ). bit x m) z ∙ bit_zero m))

    none : all_below n (λ m. any_below n (λ k. eqb (get_or p k k) m)) ≡ true → (m : ℕ) → bit missing m ≡ true → ⊥
    none every m q =
        let two : (bit all m && not (bit seen m)) ≡ true = sym (bit_without all seen m) ∙ q in
        let there : (ltb m 64 && ltb m n) ≡ true = sym (mask m) ∙ and_left (bit all m) (not (bit seen m)) two in
        let b = any_elim n (λ k. eqb (get_or p k k) m) (all_out n (λ m. any_below n (λ k. eqb (get_or p k k) m)) every m (ltb-true m n (and_right (ltb m 64) (ltb m n) there))) in
        let seen_it : bit seen m ≡ true = s m ∙ any_intro n (λ k. ltb m 64 && eqb m (get_or p k 0)) b.0 b.1
        (and_both (ltb m 64) (eqb m (get_or p b.0 0)) (and_left (ltb m 64) (ltb m n) there) (eq-eqb m (get_or p b.0 0)
        (sym (eqb-true (get_or p b.0 b.0) m b.2) ∙ get_d_any p b.0 b.0 0 (subst (λ (x : ℕ). b.0 < x) (sym long) b.1)))) in
        not_both (not (bit seen m)) (and_right (bit all m) (not (bit seen m)) two) (ap not seen_it)

-- A list of another length.
pub short : (p : List ℕ) (n : ℕ) → (length p ≡ n → ⊥) → renumbers n p ≡ false
unfolding renumbers
short p n h = rw (ne_eqb (length p) n h)

-- The list of all 64 new numbers says the same of every number.
pub same_numbers : (numbers all : List ℕ) → length numbers ≤ 64 → length all ≡ 64 → ((m : ℕ) → m < 64 → get_or all m 0 ≡ new_number numbers m) →
    new_number all ≡ new_number numbers
same_numbers numbers all few long h = fun_ext (λ m. by m (ltb m 64) refl)
  where
    by : (m : ℕ) (c : Bool) → ltb m 64 ≡ c → new_number all m ≡ new_number numbers m
    by m true e = get_d_any all m m 0 (omega (arith, long, ltb-true m 64 e)) ∙ h m (ltb-true m 64 e)
    by m false e =
        let l : 64 ≤ m = ltb-false m 64 e in
        get_or-eq_default all m (omega (arith, long)) ∙ sym (get_or-eq_default numbers m (omega arith))
