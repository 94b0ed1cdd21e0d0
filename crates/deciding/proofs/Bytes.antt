-- A word made of eight bytes, the highest first.
use Prim.Native.Nat.{ℕ, zero, suc, ◌+◌, ◌-◌, ◌*◌, ◌/◌, ◌%◌, ◌^◌, ◌<◌, ◌≤◌}
use native.Mathlib.Omega.{arith}
use native.Mathlib.Nat.{lt_of_lt_of_le}
use mathlib.Core.Path.{◌≡◌, sym, ap, ◌∙◌, subst}
use lib.Pow.{pow-add, pow_mono, pow_pos, shr-shr, high}
use Rattle.deciding.specs.private.Memo.{byte_of}

byte_here : (w v : ℕ) → v < 256 → byte_of (w * 256 + v) 0 ≡ v
byte_here w v l = omega arith

byte_next : (w v i : ℕ) → v < 256 → byte_of (w * 256 + v) (suc i) ≡ byte_of w i
byte_next w v i l =
    ap (λ (n : ℕ). n % 256)
    (ap (λ (k : ℕ). (w * 256 + v) / 2 ^ k) (let e : 8 * suc i ≡ 8 + 8 * i = omega arith in e)
    ∙ sym (shr-shr (w * 256 + v) 8 (8 * i)) ∙ ap (λ (n : ℕ). n / 2 ^ (8 * i)) (high w 8 l))

-- w has those from i on.
pub record Packed (f : ℕ → ℕ) (i w : ℕ) : Type 0 where
  pub few : i ≤ 8
  pub low : w < 2 ^ (8 * (8 - i))
  pub bytes : (j : ℕ) → j < 8 - i → byte_of w j ≡ f (i + j)

pub packed : (f : ℕ → ℕ) → Packed f 8 0
packed f = record { few = omega arith; low = pow_pos 0; bytes = λ j l. absurd (let z : ⊥ = omega arith in z) }

module _ {f : ℕ → ℕ} {i w : ℕ} (h : Packed f i w) where
  pub packed_more : (v : ℕ) → (i ≡ 0 → ⊥) → v ≡ f (i - 1) → v < 256 → Packed f (i - 1) (w * 256 + v)
  packed_more v n e l = record { few = let p = h.few in omega arith; low = low; bytes = bytes }
    where
      low : w * 256 + v < 2 ^ (8 * (8 - (i - 1)))
      low =
          let p = h.few in
          let q : 8 * (8 - (i - 1)) ≡ 8 * (8 - i) + 8 = omega arith in
          subst (λ (k : ℕ). w * 256 + v < 2 ^ k) (sym q)
          (subst (λ (p : ℕ). w * 256 + v < p) (sym (pow-add 2 (8 * (8 - i)) 8)) (let b = h.low in omega arith))

      bytes : (j : ℕ) → j < 8 - (i - 1) → byte_of (w * 256 + v) j ≡ f (i - 1 + j)
      bytes zero m = byte_here w v l ∙ e ∙ ap f (let z : i - 1 ≡ i - 1 + 0 = omega arith in z)
      bytes (suc j) m =
          byte_next w v j l ∙ h.bytes j (let p = h.few in omega arith) ∙ ap f (let z : i + j ≡ i - 1 + suc j = omega arith in z)

  pub packed_fits : (i ≡ 0 → ⊥) → w < 2 ^ 56
  packed_fits n = lt_of_lt_of_le h.low (pow_mono (let p : 8 * (8 - i) ≤ 56 = omega arith in p))

  pub packed_all : i ≡ 0 → (j : ℕ) → j < 8 → byte_of w j ≡ f j
  packed_all e j l = h.bytes j (omega arith) ∙ ap f (let z : i + j ≡ j = omega arith in z)
