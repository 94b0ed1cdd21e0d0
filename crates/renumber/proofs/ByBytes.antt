-- The words of all bytes, filled eight members at a time, and a set spread byte by byte.
use Prim.Native.Nat.{ℕ, ◌+◌, ◌-◌, ◌*◌, ◌/◌, ◌≤◌, ◌<◌}
use native.Mathlib.Omega.{arith}
use mathlib.Core.Path.{◌≡◌, refl, sym, ap, ap₂, ◌∙◌}
use mathlib.Core.Logic.{◌⊎◌, inl, inr}
use mathlib.Core.Bool.{Bool, true, false, ◌||◌}
use mathlib.Core.List.{List}
use lib.Bits.{bit_and, bit_or, and_le_r}
use lib.ListN.{length, get_or}
use borrow.Rule.Slice.PartMut.{put_mid}
use Rattle.sets.specs.Sets.{bit}
use Rattle.sets.proofs.Finite.{last_or_below}
use Rattle.sets.proofs.Bits.{bit-or, bit_zero}
use Rattle.deciding.specs.private.Moving.{put}
use Rattle.deciding.proofs.Stored.{put_in, put_other, put_length, put_back}
use Rattle.renumber.specs.private.Spread.{spread, ByteOf, Bytes}
use Rattle.renumber.proofs.Spreading.{spread_zero, spread_byte, spread_half, spread_low, spread_cong}

-- ---- filling

-- The words of the first n eights are there.
abbrev pub FilledTo : (p : ℕ → ℕ) → List ℕ → ℕ → Type 0
FilledTo p bytes n = (length bytes ≡ 2048) × ((i v m : ℕ) → i < n → v < 256 → bit (get_or bytes (256 * i + v) 0) m ≡ spread 8 (λ k. p (8 * i + k)) v m)

pub filled_more : (p : ℕ → ℕ) (bytes ys : List ℕ) (i : ℕ) → i < 8 → length ys ≡ 256 → ByteOf p (8 * i) ys 256 → FilledTo p bytes i →
    FilledTo p (put_mid (256 * i) (256 * i + 256 - 256 * i) bytes ys) (i + 1)
filled_more p bytes ys i il long h f =
    rw (put_back (256 * i) (256 * i + 256) bytes ys ys refl (omega arith))
    (put_length (256 * i) ys bytes fits ∙ f.0, λ j v m jl vl. by j v m vl (last_or_below j i (omega arith)))
  where
    fits : 256 * i + length ys ≤ length bytes
    fits = omega (arith, f.0)

    by : (j v m : ℕ) → v < 256 → (j < i) ⊎ (j ≡ i) → bit (get_or (put (256 * i) ys bytes) (256 * j + v) 0) m ≡ spread 8 (λ k. p (8 * j + k)) v m
    by j v m vl (inl l) = ap (λ (x : ℕ). bit x m) (put_other (256 * i) ys bytes fits (256 * j + v) (λ lo hi. omega arith)) ∙ f.1 j v m l vl
    by j v m vl (inr e) = rw e (ap (λ (x : ℕ). bit x m) (put_in (256 * i) ys bytes fits v (omega arith)) ∙ h v m vl)

-- ---- spreading

-- 16 members, by two bytes.
pub part_spread : (bytes : List ℕ) (i w : ℕ) → i < 4 → (p : ℕ → ℕ) → Bytes p bytes → (m : ℕ) →
    bit (bit_or (get_or bytes (512 * i + bit_and w 255) 0) (get_or bytes (512 * i + 256 + bit_and (w / 256) 255) 0)) m ≡ spread 16 (λ k. p (16 * i + k)) w m
part_spread bytes i w il p b m =
    let low : 512 * i + bit_and w 255 ≡ 256 * (2 * i) + bit_and w 255 = omega arith in
    let high : 512 * i + 256 + bit_and (w / 256) 255 ≡ 256 * (2 * i + 1) + bit_and (w / 256) 255 = omega arith in
    bit-or (get_or bytes (512 * i + bit_and w 255) 0) (get_or bytes (512 * i + 256 + bit_and (w / 256) 255) 0) m
    ∙ ap₂ ◌||◌
    (ap (λ (x : ℕ). bit (get_or bytes x 0) m) low ∙ b.words (2 * i) (bit_and w 255) m (omega arith) (omega (arith, and_le_r w 255))
    ∙ spread_cong 8 (λ k. p (8 * (2 * i) + k)) (λ k. p (16 * i + k)) (bit_and w 255) m (λ k _. let z : 8 * (2 * i) + k ≡ 16 * i + k = omega arith in ap p z))
    (ap (λ (x : ℕ). bit (get_or bytes x 0) m) high ∙ b.words (2 * i + 1) (bit_and (w / 256) 255) m (omega arith) (omega (arith, and_le_r (w / 256) 255))
    ∙ spread_low (λ k. p (8 * (2 * i + 1) + k)) m (w / 256)
    ∙ spread_cong 8 (λ k. p (8 * (2 * i + 1) + k)) (λ k. p (16 * i + (8 + k))) (w / 256) m
    (λ k _. let z : 8 * (2 * i + 1) + k ≡ 16 * i + (8 + k) = omega arith in ap p z))
    ∙ sym (spread_byte (λ k. p (16 * i + k)) m 8 w)

-- 64 members, by four parts.
module _ (p : ℕ → ℕ) (m w a b c d : ℕ) where
  abbrev Part : (r i v : ℕ) → Type 0
  Part r i v = bit r m ≡ spread 16 (λ k. p (16 * i + k)) v m

  or_three : (x y z : Bool) → (x || (y || z)) ≡ ((x || y) || z)
  or_three true y z = refl
  or_three false y z = refl

  -- The parts from i on.
  more : (i j n v r : ℕ) → j ≡ i + 1 → Part r i v → spread (16 + n) (λ k. p (16 * i + k)) v m ≡ (bit r m || spread n (λ k. p (16 * j + k)) (v / 65536) m)
  more i j n v r e h =
      spread_half (λ k. p (16 * i + k)) m n v
      ∙ ap₂ ◌||◌ (sym h) (spread_cong n (λ k. p (16 * i + (16 + k))) (λ k. p (16 * j + k)) (v / 65536) m
      (λ k _. let z : 16 * i + (16 + k) ≡ 16 * j + k = omega arith in ap p z))

  pub whole_spread : Part a 0 w → Part b 1 (w / 65536) → Part c 2 (w / 65536 / 65536) → Part d 3 (w / 65536 / 65536 / 65536) →
      bit (bit_or (bit_or (bit_or a b) c) d) m ≡ spread 64 p w m
  whole_spread ha hb hc hd =
      bit-or (bit_or (bit_or a b) c) d m
      ∙ ap (λ (x : Bool). x || bit d m) (bit-or (bit_or a b) c m ∙ ap (λ (x : Bool). x || bit c m) (bit-or a b m))
      ∙ sym (spread_cong 64 p (λ k. p (16 * 0 + k)) w m (λ k _. let z : k ≡ 16 * 0 + k = omega arith in ap p z)
      ∙ more 0 1 48 w a refl ha
      ∙ ap (λ (x : Bool). bit a m || x)
      (more 1 2 32 (w / 65536) b refl hb ∙ ap (λ (x : Bool). bit b m || x) (more 2 3 16 (w / 65536 / 65536) c refl hc ∙ ap (λ (x : Bool). bit c m || x) (sym hd)))
      ∙ ap (λ (x : Bool). bit a m || x) (or_three (bit b m) (bit c m) (bit d m))
      ∙ or_three (bit a m) (bit b m || bit c m) (bit d m)
      ∙ ap (λ (x : Bool). x || bit d m) (or_three (bit a m) (bit b m) (bit c m)))

-- No member.
pub none_spread : (p : ℕ → ℕ) (w m : ℕ) → w ≡ 0 → bit 0 m ≡ spread 64 p w m
none_spread p w m e = bit_zero m ∙ sym (ap (λ (x : ℕ). spread 64 p x m) e ∙ spread_zero p m 64)
