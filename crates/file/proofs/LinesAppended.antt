-- Laws of lists of lines put one after the other: one place changed, with nothing after it, adds its lines at the end.
use Prim.Native.Nat.{ℕ, zero, suc, ◌+◌, ◌<◌}
use mathlib.Core.Path.{◌≡◌, refl, sym, ap, ap₂, subst, ◌∙◌}
use mathlib.Core.Logic.{⊎_elim}
use mathlib.Core.List.{List, [], ◌++◌, append-nil, append_assoc}
use native.Mathlib.Omega.{arith}
use native.Mathlib.Numerals.{add-one}
use Rattle.sets.proofs.Finite.{last_or_below}
use Rattle.file.specs.Writing.{listed}
use Rattle.file.specs.declared.line.Line.{Line}

pub listed_agree : (n : ℕ) (g h : ℕ → List Line) → ((i : ℕ) → i < n → h i ≡ g i) → listed n h ≡ listed n g
unfolding listed
listed_agree zero g h e = refl
listed_agree (suc n) g h e = ap₂ ◌++◌ (listed_agree n g h (λ i l. e i (omega arith))) (e n (omega arith))

pub listed_none : (n : ℕ) (g : ℕ → List Line) → ((i : ℕ) → i < n → g i ≡ []) → listed n g ≡ []
unfolding listed
listed_none zero g e = refl
listed_none (suc n) g e = ap₂ ◌++◌ (listed_none n g (λ i l. e i (omega arith))) (e n (omega arith))

-- One list more.
pub listed_more : (n : ℕ) (g h : ℕ → List Line) → ((i : ℕ) → i < n → h i ≡ g i) → listed (n + 1) h ≡ listed n g ++ h n
unfolding listed
listed_more n g h e = rw (add-one n) (ap (λ (ls : List Line). ls ++ h n) (listed_agree n g h e))

pub listed_changed : (n p : ℕ) (g h : ℕ → List Line) (x : List Line) → p < n → h p ≡ g p ++ x → ((i : ℕ) → (i ≡ p → ⊥) → h i ≡ g i)
    → ((i : ℕ) → p < i → g i ≡ []) → listed n h ≡ listed n g ++ x
unfolding listed
listed_changed zero p g h x l e o z = absurd (omega arith)
listed_changed (suc n) p g h x l e o z =
    let ih = listed_changed n p g h x in
    ⊎_elim
    (λ m. let y = z n m in
    rw (o n (λ q. omega arith), y, append-nil (listed n h), append-nil (listed n g)) (ih m e o z))
    (λ m. ap₂ ◌++◌ (listed_agree n g h (λ i k. o i (λ q. omega arith))) (subst (λ (k : ℕ). h k ≡ g k ++ x) m e)
    ∙ sym (append_assoc (listed n g) (g n) x))
    (last_or_below p n l)

-- ---- parts of a list of lines

pub empty : {c z : List Line} → c ≡ [] → z ≡ [] → c ++ z ≡ []
empty p q = ap₂ ◌++◌ p q

-- Lines added to a part with nothing after it.
pub here : (b c y z x : List Line) → c ≡ b ++ x → y ≡ [] → z ≡ [] → c ++ z ≡ (b ++ y) ++ x
here b c y z x p q r = rw (p, q, r, append-nil b) (append-nil (b ++ x))

-- Lines added further on.
pub later : (a b y z x : List Line) → b ≡ a → z ≡ y ++ x → b ++ z ≡ (a ++ y) ++ x
later a b y z x q p = rw (p, q) (sym (append_assoc a y x))
