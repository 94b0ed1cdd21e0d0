-- Laws of putting bytes: puts one after the other are one put.
use Prim.Native.Nat.{ℕ, suc, ◌+◌, ◌≤◌, ◌<◌}
use mathlib.Core.Path.{◌≡◌, refl, sym, ap, ◌∙◌}
use mathlib.Core.List.{List, [], ◌∷◌, ◌++◌}
use native.Mathlib.Omega.{arith}
use native.Mathlib.Nat.{add-zero, add-suc, suc-add}
use native.Mathlib.Numerals.{add-one}
use lib.ListN.{length, get_or, take, set, length-append}
use lib.Seq.{sets, length-sets, set_out, take-suc}
use Rattle.fields.specs.private.Put.{Put}

sets_append : (o : List ℕ) (i : ℕ) (bs cs : List ℕ) → sets o i (bs ++ cs) ≡ sets (sets o i bs) (i + length bs) cs
sets_append o i [] cs = rw (add-zero i) refl
sets_append o i (b ∷ bs) cs = rw (add-suc i (length bs), ← suc-add i (length bs)) (sets_append (set o i b) (suc i) bs cs)

pub put_none : (o : List ℕ) (at : ℕ) → Put o o at at []
put_none o at = record { next = omega arith; left = refl }

pub put_then : {o p q : List ℕ} {i j k : ℕ} {bs cs : List ℕ} → Put o p i j bs → Put p q j k cs → Put o q i k (bs ++ cs)
put_then {o} {p} {q} {i} {j} {k} {bs} {cs} f g =
    let e = f.next in
    let h = g.next in
    record {
      next = omega (arith, length-append bs cs);
      left = g.left ∙ (λ t. sets (f.left t) (f.next t) cs) ∙ sym (sets_append o i bs cs);
    }

-- An output keeps its length.
pub put_long : {o p : List ℕ} {i j : ℕ} {bs : List ℕ} → Put o p i j bs → length p ≡ length o
put_long {o} {p} {i} {j} {bs} f = ap length f.left ∙ length-sets o i bs

-- Past the end nothing is stored.
sets_out : (o : List ℕ) (at : ℕ) (bs : List ℕ) → length o ≤ at → sets o at bs ≡ o
sets_out o at [] h = refl
sets_out o at (b ∷ bs) h = rw (set_out o at b h) (sets_out o (suc at) bs (omega arith))

pub put_out : (o : List ℕ) (at m : ℕ) (bs : List ℕ) → length o ≤ at → m ≡ at + length bs → Put o o at m bs
put_out o at m bs h e = record { next = e; left = sym (sets_out o at bs h) }

-- One byte more of a word.
pub put_more : {o p q : List ℕ} {at j k : ℕ} (w : List ℕ) (i : ℕ) → i < length w
    → Put o p at j (take i w) → Put p q j k (get_or w i 0 ∷ []) → Put o q at k (take (i + 1) w)
put_more w i h f g = rw (add-one i, take-suc w i 0 h) (put_then f g)
