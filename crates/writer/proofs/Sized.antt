-- The size that is told is the room that is needed: an output of so many bytes is written, a shorter one refused; what
-- refuses the size refuses the writing.
use Prim.Native.Nat.{ℕ, ◌≤◌, ◌<◌}
use mathlib.Core.Path.{◌≡◌, refl}
use mathlib.Core.Bool.{Bool, true, false}
use mathlib.Core.List.{List}
use native.Mathlib.Omega.{arith}
use lib.ListN.{length}
use lib.Dec.{ltb}
use borrow.Author.Tests.{lt-ltb, le-ltb}
use Rattle.memory.specs.Outcome.{Outcome, checks}
use Rattle.memory.specs.Outcome.Outcome.{passed, refused as refusedOutcome}
use Rattle.writer.specs.Write.{Writing, fitted, written_text, stored_text, is_fresh, if_fresh, size_gives, write_gives}
use Rattle.writer.specs.Write.{old_size_gives, old_write_gives, store_size_gives, store_gives}
use Rattle.writer.specs.Write.Writing.{bytes, refused as refusedWriting}
use Rattle.writer.proofs.Fitting.{gives}

-- What passes has the size of the text.
whole : (o : Outcome) (m n : ℕ) → fitted false m o ≡ bytes n → (o ≡ passed) × (m ≡ n)
whole passed m n e = (refl, cc)
whole (refusedOutcome k l) m n e = let z : ◌≡◌ {A = ℕ} 0 1 = cc in absurd (omega arith)

-- A refusal does not depend on the output.
same_refusal : (o : Outcome) (s : Bool) (m k l : ℕ) → fitted false m o ≡ refusedWriting k l → fitted s m o ≡ refusedWriting k l
same_refusal passed s m k l e = let z : ◌≡◌ {A = ℕ} 0 1 = cc in absurd (omega arith)
same_refusal (refusedOutcome i j) s m k l e = e

-- What the check of terms and state gave, the text and the output.
module _ (o : Outcome) (text out : List ℕ) where
  enough : (n : ℕ) → fitted false (length text) o ≡ bytes n → n ≤ length out → gives o text out ≡ bytes n
  enough n e h = let w = whole o (length text) n e in rw (w.0, w.1, le-ltb (length out) n h) refl

  short : (n : ℕ) → fitted false (length text) o ≡ bytes n → length out < n → gives o text out ≡ refusedWriting 6 0
  short n e h = let w = whole o (length text) n e in rw (w.0, w.1, lt-ltb (length out) n h) refl

  refused : (k l : ℕ) → fitted false (length text) o ≡ refusedWriting k l → gives o text out ≡ refusedWriting k l
  refused k l e = same_refusal o (ltb (length out) (length text)) (length text) k l e

module _ (terms state out : List ℕ) where
  -- What a size says of the writing.
  abbrev Told : Writing → Writing → Type 0
  Told s w =
      ((n : ℕ) → s ≡ bytes n → n ≤ length out → w ≡ bytes n)
      × ((n : ℕ) → s ≡ bytes n → length out < n → w ≡ refusedWriting 6 0)
      × ((k l : ℕ) → s ≡ refusedWriting k l → w ≡ refusedWriting k l)

  -- Of a fresh start.
  size_told : Told (size_gives terms state) (write_gives terms state out)
  unfolding size_gives write_gives
  size_told =
      let o = checks terms state in
      let t = written_text terms state in
      (enough o t out, short o t out, refused o t out)

  -- Of any state in the old form, with 12 among the refusals.
  pub old_size_told : Told (old_size_gives terms state) (old_write_gives terms state out)
  unfolding old_size_gives old_write_gives
  old_size_told =
      by (checks terms state) (is_fresh terms state) (size_gives terms state) (write_gives terms state out) size_told
    where
      by : (o : Outcome) (b : Bool) (s w : Writing) → Told s w → Told (if_fresh b o s) (if_fresh b o w)
      by (refusedOutcome k l) b s w t = t
      by passed true s w t = t
      by passed false s w t = ((λ n e h. absurd_bytes n e), (λ n e h. absurd_bytes n e), (λ k l e. e))
        where
          absurd_bytes : {A : Type 0} (n : ℕ) → refusedWriting 12 0 ≡ bytes n → A
          absurd_bytes n e = let z : ◌≡◌ {A = ℕ} 0 1 = cc in absurd (omega arith)

  pub store_size_enough : (n : ℕ) → store_size_gives terms state ≡ bytes n → n ≤ length out → store_gives terms state out ≡ bytes n
  unfolding store_size_gives store_gives
  store_size_enough = enough (checks terms state) (stored_text terms state) out

  pub store_size_short : (n : ℕ) → store_size_gives terms state ≡ bytes n → length out < n → store_gives terms state out ≡ refusedWriting 6 0
  unfolding store_size_gives store_gives
  store_size_short = short (checks terms state) (stored_text terms state) out

  pub store_size_refused : (k l : ℕ) → store_size_gives terms state ≡ refusedWriting k l → store_gives terms state out ≡ refusedWriting k l
  unfolding store_size_gives store_gives
  store_size_refused = refused (checks terms state) (stored_text terms state) out
