-- Two entries have the same fully spelled-out formula exactly when their operators agree and their operands do; so the
-- classes of entries follow from those of their operands.
use Prim.Native.Nat.{ℕ, zero, suc, ◌≤◌, ◌<◌}
use native.Mathlib.Omega.{arith}
use mathlib.Core.Path.{◌≡◌, refl, sym, ap, ap₂, ◌∙◌}
use mathlib.Core.Bool.{true, ◌&&◌}
use lib.Dec.{eqb}
use borrow.Author.Tests.{eqb-true, eq-eqb}
use Rattle.sets.proofs.Finite.{bool_iff, and_left, and_right, and_both}
use Rattle.theory.specs.Formula.{Formula, Operand, node, first_operand, second_operand, third_operand, number, renumbered, bare, same, lowest}
use Rattle.theory.specs.Formula.Formula.{top, var, neg, or, out, into, prev, since, bind, at, reach, many}
use Rattle.theory.specs.Formula.Operand.{unused, variable, binder, label, entry, count}
use Rattle.theory.specs.Terms.{Terms, formula, first_same}
use Rattle.theory.specs.private.Classes.{same_operand, same_entry}
use Rattle.theory.specs.Fit.{GoodEntry}
use Rattle.theory.proofs.Good.{formula_node, first_lower, second_lower, third_lower}
use Rattle.theory.proofs.Lowest.{lowest_first, lowest_cong, lowest_more}
use Rattle.theory.proofs.Renumbered.{same_bare, bare_same}
use Rattle.theory.proofs.CarriedOver.{first_cong, first_has, first_le}

-- ---- what can be read off a formula

operator : Formula → ℕ
operator top = 0
operator (var x) = 1
operator (neg f) = 2
operator (or f h) = 3
operator (out l f) = 4
operator (into l f) = 5
operator (prev t f) = 6
operator (since t f h) = 7
operator (bind x f) = 8
operator (at x f) = 9
operator (reach x f h) = 10
operator (many l f k) = 11

-- The operand that is a number; the first and the second that is a formula.
plain : Formula → ℕ
plain top = 0
plain (var x) = x
plain (neg f) = 0
plain (or f h) = 0
plain (out l f) = l
plain (into l f) = l
plain (prev t f) = 0
plain (since t f h) = 0
plain (bind x f) = x
plain (at x f) = x
plain (reach x f h) = x
plain (many l f k) = l

left : Formula → Formula
left top = top
left (var x) = top
left (neg f) = f
left (or f h) = f
left (out l f) = top
left (into l f) = top
left (prev t f) = f
left (since t f h) = f
left (bind x f) = top
left (at x f) = top
left (reach x f h) = f
left (many l f k) = f

right : Formula → Formula
right top = top
right (var x) = top
right (neg f) = top
right (or f h) = h
right (out l f) = f
right (into l f) = f
right (prev t f) = top
right (since t f h) = h
right (bind x f) = f
right (at x f) = f
right (reach x f h) = h
right (many l f k) = top

counted : Formula → ℕ
counted top = 0
counted (var x) = 0
counted (neg f) = 0
counted (or f h) = 0
counted (out l f) = 0
counted (into l f) = 0
counted (prev t f) = 0
counted (since t f h) = 0
counted (bind x f) = 0
counted (at x f) = 0
counted (reach x f h) = 0
counted (many l f k) = k

operator_node : (t : ℕ) (f : ℕ → Formula) (op a b c : ℕ) → op < 12 → operator (bare (node t f op a b c)) ≡ op
unfolding operator renumbered node
operator_node t f zero a b c h = refl
operator_node t f (suc zero) a b c h = refl
operator_node t f (suc (suc zero)) a b c h = refl
operator_node t f (suc (suc (suc zero))) a b c h = refl
operator_node t f (suc (suc (suc (suc zero)))) a b c h = refl
operator_node t f (suc (suc (suc (suc (suc zero))))) a b c h = refl
operator_node t f (suc (suc (suc (suc (suc (suc zero)))))) a b c h = refl
operator_node t f (suc (suc (suc (suc (suc (suc (suc zero))))))) a b c h = refl
operator_node t f (suc (suc (suc (suc (suc (suc (suc (suc zero)))))))) a b c h = refl
operator_node t f (suc (suc (suc (suc (suc (suc (suc (suc (suc zero))))))))) a b c h = refl
operator_node t f (suc (suc (suc (suc (suc (suc (suc (suc (suc (suc zero)))))))))) a b c h = refl
operator_node t f (suc (suc (suc (suc (suc (suc (suc (suc (suc (suc (suc zero))))))))))) a b c h = refl
operator_node t f (suc (suc (suc (suc (suc (suc (suc (suc (suc (suc (suc (suc n)))))))))))) a b c h = absurd (omega arith)

-- Two operands agree: as formulas, or as numbers.
abbrev SameOperand : (f h : ℕ → Formula) → Operand → (x y : ℕ) → Type 0
SameOperand f h unused x y = Unit {0}
SameOperand f h variable x y = x ≡ y
SameOperand f h binder x y = x ≡ y
SameOperand f h label x y = x ≡ y
SameOperand f h entry x y = bare (f x) ≡ bare (h y)
SameOperand f h count x y = x ≡ y

module _ (t t' : ℕ) (f h : ℕ → Formula) where
  node_apart : (op a b c a' b' c' : ℕ) → bare (node t f op a b c) ≡ bare (node t' h op a' b' c') →
      SameOperand f h (first_operand op) a a' × SameOperand f h (second_operand op) b b' × SameOperand f h (third_operand op) c c'
  unfolding node renumbered plain left right counted
  node_apart zero a b c a' b' c' e = (tt, tt, tt)
  node_apart (suc zero) a b c a' b' c' e = (ap plain e, tt, tt)
  node_apart (suc (suc zero)) a b c a' b' c' e = (ap left e, tt, tt)
  node_apart (suc (suc (suc zero))) a b c a' b' c' e = (ap left e, ap right e, tt)
  node_apart (suc (suc (suc (suc zero)))) a b c a' b' c' e = (ap plain e, ap right e, tt)
  node_apart (suc (suc (suc (suc (suc zero))))) a b c a' b' c' e = (ap plain e, ap right e, tt)
  node_apart (suc (suc (suc (suc (suc (suc zero)))))) a b c a' b' c' e = (ap left e, tt, tt)
  node_apart (suc (suc (suc (suc (suc (suc (suc zero))))))) a b c a' b' c' e = (ap left e, ap right e, tt)
  node_apart (suc (suc (suc (suc (suc (suc (suc (suc zero)))))))) a b c a' b' c' e = (ap plain e, ap right e, tt)
  node_apart (suc (suc (suc (suc (suc (suc (suc (suc (suc zero))))))))) a b c a' b' c' e = (ap plain e, ap right e, tt)
  node_apart (suc (suc (suc (suc (suc (suc (suc (suc (suc (suc zero)))))))))) a b c a' b' c' e = (ap plain e, ap left e, ap right e)
  node_apart (suc (suc (suc (suc (suc (suc (suc (suc (suc (suc (suc zero))))))))))) a b c a' b' c' e = (ap plain e, ap left e, ap counted e)
  node_apart (suc (suc (suc (suc (suc (suc (suc (suc (suc (suc (suc (suc n)))))))))))) a b c a' b' c' e = (tt, tt, tt)

  node_alike : (op a b c a' b' c' : ℕ) → SameOperand f h (first_operand op) a a' → SameOperand f h (second_operand op) b b' → SameOperand f h (third_operand op) c c' →
      bare (node t f op a b c) ≡ bare (node t' h op a' b' c')
  unfolding node renumbered
  node_alike zero a b c a' b' c' p q r = refl
  node_alike (suc zero) a b c a' b' c' p q r = ap var p
  node_alike (suc (suc zero)) a b c a' b' c' p q r = ap neg p
  node_alike (suc (suc (suc zero))) a b c a' b' c' p q r = ap₂ or p q
  node_alike (suc (suc (suc (suc zero)))) a b c a' b' c' p q r = ap₂ out p q
  node_alike (suc (suc (suc (suc (suc zero))))) a b c a' b' c' p q r = ap₂ into p q
  node_alike (suc (suc (suc (suc (suc (suc zero)))))) a b c a' b' c' p q r = ap (prev 0) p
  node_alike (suc (suc (suc (suc (suc (suc (suc zero))))))) a b c a' b' c' p q r = ap₂ (since 0) p q
  node_alike (suc (suc (suc (suc (suc (suc (suc (suc zero)))))))) a b c a' b' c' p q r = ap₂ bind p q
  node_alike (suc (suc (suc (suc (suc (suc (suc (suc (suc zero))))))))) a b c a' b' c' p q r = ap₂ at p q
  node_alike (suc (suc (suc (suc (suc (suc (suc (suc (suc (suc zero)))))))))) a b c a' b' c' p q r = ap₂ (λ (x : ℕ) (φ : Formula). reach x φ (bare (f c))) p q ∙ ap (reach a' (bare (h b'))) r
  node_alike (suc (suc (suc (suc (suc (suc (suc (suc (suc (suc (suc zero))))))))))) a b c a' b' c' p q r = ap₂ (λ (x : ℕ) (φ : Formula). many x φ c) p q ∙ ap (many a' (bare (h b'))) r
  node_alike (suc (suc (suc (suc (suc (suc (suc (suc (suc (suc (suc (suc n)))))))))))) a b c a' b' c' p q r = refl

-- Two entries with the same formula: their operands agree.
record AlikeEntries (T U : Terms) (k n : ℕ) : Type 0 where
  pub op : (T.entry k).op ≡ (U.entry n).op
  pub first : SameOperand (formula T) (formula U) (first_operand (U.entry n).op) (T.entry k).a (U.entry n).a
  pub second : SameOperand (formula T) (formula U) (second_operand (U.entry n).op) (T.entry k).b (U.entry n).b
  pub third : SameOperand (formula T) (formula U) (third_operand (U.entry n).op) (T.entry k).c (U.entry n).c

module _ (T U : Terms) (k n : ℕ) (old : GoodEntry T k) (new : GoodEntry U n) where
  alike : bare (formula T k) ≡ bare (formula U n) → AlikeEntries T U k n
  alike e =
      let q : bare (node (number T.entry k) (formula T) (T.entry k).op (T.entry k).a (T.entry k).b (T.entry k).c)
      ≡ bare (node (number U.entry n) (formula U) (U.entry n).op (U.entry n).a (U.entry n).b (U.entry n).c) =
      ap bare (sym (formula_node T k old)) ∙ e ∙ ap bare (formula_node U n new) in
      let o : (T.entry k).op ≡ (U.entry n).op =
      sym (operator_node _ (formula T) (T.entry k).op _ _ _ old.known) ∙ ap operator q
      ∙ operator_node _ (formula U) (U.entry n).op _ _ _ new.known in
      let r = node_apart (number T.entry k) (number U.entry n) (formula T) (formula U) (U.entry n).op (T.entry k).a (T.entry k).b (T.entry k).c (U.entry n).a (U.entry n).b (U.entry n).c
      (ap (λ (x : ℕ). bare (node (number T.entry k) (formula T) x (T.entry k).a (T.entry k).b (T.entry k).c)) (sym o) ∙ q) in
      record { op = o; first = r.0; second = r.1; third = r.2 }

  alike_same : AlikeEntries T U k n → bare (formula T k) ≡ bare (formula U n)
  alike_same s =
      ap bare (formula_node T k old)
      ∙ ap (λ (x : ℕ). bare (node (number T.entry k) (formula T) x (T.entry k).a (T.entry k).b (T.entry k).c)) s.op
      ∙ node_alike (number T.entry k) (number U.entry n) (formula T) (formula U) (U.entry n).op (T.entry k).a (T.entry k).b (T.entry k).c (U.entry n).a (U.entry n).b (U.entry n).c
      s.first s.second s.third
      ∙ sym (ap bare (formula_node U n new))

-- ---- classes

-- The class of old entry k, and of new entry n.
abbrev pub old_class : Terms → ℕ → ℕ
old_class T k = first_same T (formula T k)

abbrev pub new_class : Terms → Terms → ℕ → ℕ
new_class T U n = first_same T (formula U n)

-- Classes are equal exactly when the formulas are, where one of the two is old.
class_same : (T U : Terms) (x y : ℕ) → x < T.entries → old_class T x ≡ new_class T U y → bare (formula T x) ≡ bare (formula U y)
class_same T U x y l e =
    let le : old_class T x ≤ x = first_le T (formula T x) x l refl in
    sym (first_has T (formula T x) (omega arith)) ∙ ap (λ (c : ℕ). bare (formula T c)) e ∙ first_has T (formula U y) (omega arith)

module _ (T U : Terms) (olds : (k : ℕ) → k < T.entries → GoodEntry T k) (news : (n : ℕ) → n < U.entries → GoodEntry U n) where
  -- Operands that agree, and the test of it by classes c and d that are right below k and n.
  module _ (k n : ℕ) (kl : k < T.entries) (nl : n < U.entries) (c d : ℕ → ℕ)
      (cs : (x : ℕ) → x < k → c x ≡ old_class T x) (ds : (y : ℕ) → y < n → d y ≡ new_class T U y)
    where
      operand_in : (o : Operand) (x y : ℕ) → (o ≡ entry → x < k) → (o ≡ entry → y < n) → SameOperand (formula T) (formula U) o x y → same_operand o c d x y ≡ true
      unfolding same_operand
      operand_in unused x y xl yl s = refl
      operand_in variable x y xl yl s = eq-eqb x y s
      operand_in binder x y xl yl s = eq-eqb x y s
      operand_in count x y xl yl s = eq-eqb x y s
      operand_in label x y xl yl s = eq-eqb x y s
      operand_in entry x y xl yl s = eq-eqb (c x) (d y) (cs x (xl refl) ∙ first_cong T (formula T x) (formula U y) s ∙ sym (ds y (yl refl)))

      operand_out : (o : Operand) (x y : ℕ) → (o ≡ entry → x < k) → (o ≡ entry → y < n) → same_operand o c d x y ≡ true → SameOperand (formula T) (formula U) o x y
      unfolding same_operand
      operand_out unused x y xl yl s = tt
      operand_out variable x y xl yl s = eqb-true x y s
      operand_out binder x y xl yl s = eqb-true x y s
      operand_out count x y xl yl s = eqb-true x y s
      operand_out label x y xl yl s = eqb-true x y s
      operand_out entry x y xl yl s =
          let xk : x < k = xl refl in
          class_same T U x y (omega arith) (sym (cs x xk) ∙ eqb-true (c x) (d y) s ∙ ds y (yl refl))

      -- The test of two entries is that of their formulas.
      entry_law : same (formula T k) (formula U n) ≡ same_entry c d (T.entry k) (U.entry n)
      unfolding same_entry
      entry_law = bool_iff _ _ into_test out_of_test
        where
          E : ℕ
          E = (U.entry n).op

          first_old : (T.entry k).op ≡ E → first_operand E ≡ entry → (T.entry k).a < k
          first_old o p = first_lower (olds k kl) (ap first_operand o ∙ p)

          third_old : (T.entry k).op ≡ E → third_operand E ≡ entry → (T.entry k).c < k
          third_old o p = third_lower (olds k kl) (ap third_operand o ∙ p)

          second_old : (T.entry k).op ≡ E → second_operand E ≡ entry → (T.entry k).b < k
          second_old o p = second_lower (olds k kl) (ap second_operand o ∙ p)

          into_test : same (formula T k) (formula U n) ≡ true → eqb (T.entry k).op E
              && (same_operand (first_operand E) c d (T.entry k).a (U.entry n).a && (same_operand (second_operand E) c d (T.entry k).b (U.entry n).b && same_operand (third_operand E) c d (T.entry k).c (U.entry n).c)) ≡ true
          into_test e =
              let s : AlikeEntries T U k n = alike T U k n (olds k kl) (news n nl) (same_bare (formula T k) (formula U n) e) in
              and_both _ _ (eq-eqb (T.entry k).op E s.op) (and_both _ _
              (operand_in (first_operand E) (T.entry k).a (U.entry n).a (first_old s.op) (first_lower (news n nl)) s.first)
              (and_both _ _ (operand_in (second_operand E) (T.entry k).b (U.entry n).b (second_old s.op) (second_lower (news n nl)) s.second)
              (operand_in (third_operand E) (T.entry k).c (U.entry n).c (third_old s.op) (third_lower (news n nl)) s.third)))

          out_of_test : eqb (T.entry k).op E
              && (same_operand (first_operand E) c d (T.entry k).a (U.entry n).a && (same_operand (second_operand E) c d (T.entry k).b (U.entry n).b && same_operand (third_operand E) c d (T.entry k).c (U.entry n).c)) ≡ true
              → same (formula T k) (formula U n) ≡ true
          out_of_test e =
              let o : (T.entry k).op ≡ E = eqb-true (T.entry k).op E (and_left (eqb (T.entry k).op E) _ e) in
              let r = and_right (eqb (T.entry k).op E) _ e in
              let q = and_right (same_operand (first_operand E) c d (T.entry k).a (U.entry n).a) _ r in
              bare_same (formula T k) (formula U n) (alike_same T U k n (olds k kl) (news n nl) (record {
                op = o;
                first = operand_out (first_operand E) (T.entry k).a (U.entry n).a (first_old o) (first_lower (news n nl)) (and_left (same_operand (first_operand E) c d (T.entry k).a (U.entry n).a) _ r);
                second = operand_out (second_operand E) (T.entry k).b (U.entry n).b (second_old o) (second_lower (news n nl)) (and_left (same_operand (second_operand E) c d (T.entry k).b (U.entry n).b) _ q);
                third = operand_out (third_operand E) (T.entry k).c (U.entry n).c (third_old o) (third_lower (news n nl)) (and_right (same_operand (second_operand E) c d (T.entry k).b (U.entry n).b) _ q);
              }))

  -- The recursion law: the class of a new entry, from the classes of all old entries and of the new ones below it.
  pub new-class : (n : ℕ) → n < U.entries → (c d : ℕ → ℕ) → ((x : ℕ) → x < T.entries → c x ≡ old_class T x) →
      ((y : ℕ) → y < n → d y ≡ new_class T U y) → new_class T U n ≡ lowest T.entries (λ k. same_entry c d (T.entry k) (U.entry n))
  unfolding first_same
  new-class n nl c d cs ds =
      lowest_cong T.entries (λ k. same (formula T k) (formula U n)) (λ k. same_entry c d (T.entry k) (U.entry n))
      (λ k kl. entry_law k n kl nl c d (λ x l. cs x (omega arith)) ds)

-- The same for the old entries among themselves: entry n is found at n at the latest, so that
-- only those up to it are looked at.
pub old-class : (T : Terms) → ((k : ℕ) → k < T.entries → GoodEntry T k) → (n : ℕ) → n < T.entries → (c : ℕ → ℕ) →
    ((x : ℕ) → x < n → c x ≡ old_class T x) → old_class T n ≡ lowest (suc n) (λ k. same_entry c c (T.entry k) (T.entry n))
unfolding first_same
old-class T goods n nl c cs =
    lowest_more (λ k. same (formula T k) (formula T n)) (suc n) T.entries
    (let le : lowest (suc n) (λ k. same (formula T k) (formula T n)) ≤ n =
    lowest_first (λ k. same (formula T k) (formula T n)) (suc n) n (omega arith) (bare_same (formula T n) (formula T n) refl) in omega arith) nl
    ∙ lowest_cong (suc n) (λ k. same (formula T k) (formula T n)) (λ k. same_entry c c (T.entry k) (T.entry n))
    (λ k kl. entry_law T T goods goods k n (omega arith) nl c c (λ x l. cs x (omega arith)) cs)
