-- The ways that writing the old form ends: refused for its memory, refused with 12 for a past, or as a fresh start is
-- written.
use Prim.Native.Nat.{ℕ}
use mathlib.Core.Path.{◌≡◌, refl, sym, ap, ◌∙◌}
use mathlib.Core.Bool.{Bool, true, false}
use mathlib.Core.List.{List}
use Rattle.memory.specs.Outcome.{checks}
use Rattle.memory.specs.Outcome.Outcome.{passed, refused}
use Rattle.writer.specs.Write.{Writing, written_text, filled_out, is_fresh, size_gives, write_gives}
use Rattle.writer.specs.Write.{old_size_gives, old_write_gives, old_write_leaves}
use Rattle.writer.specs.Write.Writing.{refused as refusedWriting}

-- What a test of freshness found.
pub found : (terms state : List ℕ) {r b : Bool} → r ≡ b → r ≡ is_fresh terms state → is_fresh terms state ≡ b
found terms state q h = sym h ∙ q

module _ (terms state : List ℕ) where
  pub size_failed : (n l : ℕ) → refused n l ≡ checks terms state → refusedWriting n l ≡ old_size_gives terms state
  unfolding old_size_gives size_gives
  size_failed n l e = rw (← e) refl

  module _ (e : passed ≡ checks terms state) where
    size_fresh : is_fresh terms state ≡ true → old_size_gives terms state ≡ size_gives terms state
    unfolding old_size_gives
    size_fresh h = rw (← e, h) refl

    pub size_ends : is_fresh terms state ≡ true → (w : Writing) → w ≡ size_gives terms state → w ≡ old_size_gives terms state
    size_ends h w x = x ∙ sym (size_fresh h)

    pub size_past : is_fresh terms state ≡ false → refusedWriting 12 0 ≡ old_size_gives terms state
    unfolding old_size_gives
    size_past h = rw (← e, h) refl

module _ (terms state out : List ℕ) where
  abbrev Ends : Writing → List ℕ → Type 0
  Ends r p = (r ≡ old_write_gives terms state out) × (p ≡ old_write_leaves terms state out)

  pub ends_failed : (n l : ℕ) → refused n l ≡ checks terms state → Ends (refusedWriting n l) out
  unfolding old_write_gives old_write_leaves write_gives
  ends_failed n l e = rw (← e) (refl, refl)

  module _ (e : passed ≡ checks terms state) where
    pub write_fresh : is_fresh terms state ≡ true → old_write_gives terms state out ≡ write_gives terms state out
    unfolding old_write_gives
    write_fresh h = rw (← e, h) refl

    pub ends_fresh : is_fresh terms state ≡ true → (r : Writing) (p : List ℕ) →
        (r ≡ write_gives terms state out) × (p ≡ filled_out (written_text terms state) out (write_gives terms state out)) →
        Ends r p
    unfolding old_write_leaves
    ends_fresh h r p x =
        let e = sym (write_fresh h) in
        (x.0 ∙ e, x.1 ∙ ap (filled_out (written_text terms state) out) e)

    pub ends_past : is_fresh terms state ≡ false → Ends (refusedWriting 12 0) out
    unfolding old_write_gives old_write_leaves
    ends_past h = rw (← e, h) (refl, refl)
