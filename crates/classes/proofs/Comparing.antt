-- Two good entries have the same key exactly if they are the same by the classes of their operands.
use Prim.Native.Nat.{ℕ, ◌+◌, ◌*◌, ◌<◌}
use native.Mathlib.Omega.{arith}
use mathlib.Core.Path.{◌≡◌, refl, sym, ap, ap₂, ◌∙◌}
use mathlib.Core.Bool.{true}
use lib.Dec.{eqb}
use borrow.Author.Tests.{eq-eqb, eqb-true}
use Rattle.sets.proofs.Finite.{and_left, and_right, and_both, bool_iff}
use Rattle.theory.specs.Formula.{Entry, Operand, first_operand, second_operand, third_operand}
use Rattle.theory.specs.Formula.Operand.{unused, variable, binder, label, entry, count}
use Rattle.theory.specs.Terms.{Terms, labels}
use Rattle.theory.specs.Fit.{operand_fits, GoodEntry}
use Rattle.theory.specs.private.Classes.{same_operand, same_entry}
use Rattle.theory.proofs.Good.{fits_variable, fits_binder, fits_label, fits_entry, fits_count}
use Rattle.classes.specs.private.Keys.{normal, packed, key_of}

-- The test of an operand is that of what it counts for.
operand_same : (k : Operand) (c d : ℕ → ℕ) (x y : ℕ) → same_operand k c d x y ≡ eqb (normal k c x) (normal k d y)
unfolding same_operand normal
operand_same unused c d x y = refl
operand_same variable c d x y = refl
operand_same binder c d x y = refl
operand_same label c d x y = refl
operand_same entry c d x y = refl
operand_same count c d x y = refl

-- What an operand counts for is small where it fits and classes are.
operand_small : (k : Operand) (c : ℕ → ℕ) (l n v : ℕ) → l < 65536 → operand_fits k l n v ≡ true → ((x : ℕ) → x < n → c x < 65536) → normal k c v < 65536
unfolding normal
operand_small unused c l n v ll f s = omega arith
operand_small variable c l n v ll f s = omega (arith, fits_variable l n v variable f refl)
operand_small binder c l n v ll f s = omega (arith, (fits_binder l n v binder f refl).1)
operand_small label c l n v ll f s = omega (arith, fits_label l n v label f refl)
operand_small entry c l n v ll f s = s v (fits_entry l n v entry f refl)
operand_small count c l n v ll f s = omega (arith, (fits_count l n v count f refl).1)

-- Only the classes of lower entries count.
operand_cong : (k : Operand) (c d : ℕ → ℕ) (l n v : ℕ) → operand_fits k l n v ≡ true → ((x : ℕ) → x < n → c x ≡ d x) → normal k c v ≡ normal k d v
unfolding normal
operand_cong unused c d l n v f s = refl
operand_cong variable c d l n v f s = refl
operand_cong binder c d l n v f s = refl
operand_cong label c d l n v f s = refl
operand_cong entry c d l n v f s = s v (fits_entry l n v entry f refl)
operand_cong count c d l n v f s = refl

pub key_cong : (T : Terms) (n : ℕ) → GoodEntry T n → (c d : ℕ → ℕ) → ((x : ℕ) → x < n → c x ≡ d x) → key_of c (T.entry n) ≡ key_of d (T.entry n)
unfolding key_of
key_cong T n g c d s =
    ap₂ (λ (x y : ℕ). packed (T.entry n).op x y (normal (third_operand (T.entry n).op) c (T.entry n).c))
    (operand_cong (first_operand (T.entry n).op) c d (labels T) n (T.entry n).a g.first s)
    (operand_cong (second_operand (T.entry n).op) c d (labels T) n (T.entry n).b g.second s)
    ∙ ap (λ (z : ℕ). packed (T.entry n).op (normal (first_operand (T.entry n).op) d (T.entry n).a) (normal (second_operand (T.entry n).op) d (T.entry n).b) z)
    (operand_cong (third_operand (T.entry n).op) c d (labels T) n (T.entry n).c g.third s)

-- ---- four numbers in one

upper : (a b x y : ℕ) → b < 65536 → y < 65536 → a * 65536 + b ≡ x * 65536 + y → a ≡ x
upper a b x y bl yl e = omega arith

lower : (a b x y : ℕ) → b < 65536 → y < 65536 → a * 65536 + b ≡ x * 65536 + y → b ≡ y
lower a b x y bl yl e = omega (arith, upper a b x y bl yl e)

module _ (a b c d x y z w : ℕ) (bl : b < 65536) (cl : c < 65536) (dl : d < 65536) (yl : y < 65536) (zl : z < 65536) (wl : w < 65536) where
  apart : packed a b c d ≡ packed x y z w → (a ≡ x) × (b ≡ y) × (c ≡ z) × (d ≡ w)
  apart e =
      let e₁ : (a * 65536 + b) * 65536 + c ≡ (x * 65536 + y) * 65536 + z = upper ((a * 65536 + b) * 65536 + c) d ((x * 65536 + y) * 65536 + z) w dl wl e in
      let e₂ : a * 65536 + b ≡ x * 65536 + y = upper (a * 65536 + b) c (x * 65536 + y) z cl zl e₁ in (
        upper a b x y bl yl e₂,
        lower a b x y bl yl e₂,
        lower (a * 65536 + b) c (x * 65536 + y) z cl zl e₁,
        lower ((a * 65536 + b) * 65536 + c) d ((x * 65536 + y) * 65536 + z) w dl wl e,
      )

-- ---- keys

module _ (T U : Terms) (k n : ℕ) (old : GoodEntry T k) (new : GoodEntry U n) (tl : labels T < 65536) (ul : labels U < 65536)
    (c d : ℕ → ℕ) (cs : (x : ℕ) → x < k → c x < 65536) (ds : (y : ℕ) → y < n → d y < 65536)
  where
    abbrev e : Entry
    e = T.entry k

    abbrev f : Entry
    f = U.entry n

    abbrev N : (ℕ → Operand) → (ℕ → ℕ) → (op v : ℕ) → ℕ
    N kind g op v = normal (kind op) g v

    into : key_of c e ≡ key_of d f → same_entry c d e f ≡ true
    unfolding key_of same_entry
    into p =
        let q = apart e.op (N first_operand c e.op e.a) (N second_operand c e.op e.b) (N third_operand c e.op e.c)
        f.op (N first_operand d f.op f.a) (N second_operand d f.op f.b) (N third_operand d f.op f.c)
        (operand_small (first_operand e.op) c (labels T) k e.a tl old.first cs)
        (operand_small (second_operand e.op) c (labels T) k e.b tl old.second cs)
        (operand_small (third_operand e.op) c (labels T) k e.c tl old.third cs)
        (operand_small (first_operand f.op) d (labels U) n f.a ul new.first ds)
        (operand_small (second_operand f.op) d (labels U) n f.b ul new.second ds)
        (operand_small (third_operand f.op) d (labels U) n f.c ul new.third ds) p in
        and_both _ _ (eq-eqb e.op f.op q.0)
        (and_both _ _ (alike first_operand e.a f.a q.0 q.1) (and_both _ _ (alike second_operand e.b f.b q.0 q.2) (alike third_operand e.c f.c q.0 q.3)))
      where
        alike : (kind : ℕ → Operand) (x y : ℕ) → e.op ≡ f.op → N kind c e.op x ≡ N kind d f.op y → same_operand (kind f.op) c d x y ≡ true
        alike kind x y o r =
            operand_same (kind f.op) c d x y
            ∙ eq-eqb (normal (kind f.op) c x) (normal (kind f.op) d y) (ap (λ (i : ℕ). normal (kind i) c x) (sym o) ∙ r)

    out_of : same_entry c d e f ≡ true → key_of c e ≡ key_of d f
    unfolding key_of same_entry
    out_of p =
        let o : e.op ≡ f.op = eqb-true e.op f.op (and_left (eqb e.op f.op) _ p) in
        let r = and_right (eqb e.op f.op) _ p in
        let q = and_right (same_operand (first_operand f.op) c d e.a f.a) _ r in
        let s₁ = one first_operand e.a f.a o (and_left (same_operand (first_operand f.op) c d e.a f.a) _ r) in
        let s₂ = one second_operand e.b f.b o (and_left (same_operand (second_operand f.op) c d e.b f.b) _ q) in
        let s₃ = one third_operand e.c f.c o (and_right (same_operand (second_operand f.op) c d e.b f.b) _ q) in
        ap₂ (λ (x y : ℕ). packed x y (N second_operand c e.op e.b) (N third_operand c e.op e.c)) o s₁
        ∙ ap₂ (λ (x y : ℕ). packed f.op (N first_operand d f.op f.a) x y) s₂ s₃
      where
        one : (kind : ℕ → Operand) (x y : ℕ) → e.op ≡ f.op → same_operand (kind f.op) c d x y ≡ true → N kind c e.op x ≡ N kind d f.op y
        one kind x y o t =
            ap (λ (i : ℕ). normal (kind i) c x) o
            ∙ eqb-true (normal (kind f.op) c x) (normal (kind f.op) d y) (sym (operand_same (kind f.op) c d x y) ∙ t)

    pub key_same : eqb (key_of c e) (key_of d f) ≡ same_entry c d e f
    key_same =
        bool_iff _ _ (λ p. into (eqb-true (key_of c e) (key_of d f) p)) (λ p. eq-eqb (key_of c e) (key_of d f) (out_of p))
