-- Each arm puts the word of its number.
use Rattle.std.proofs.Common.{arith}
use Prim.Native.Nat.{ℕ, zero, suc}
use mathlib.Core.Path.{◌≡◌, refl}
use mathlib.Core.List.{[], ◌∷◌}
use lib.ListN.{get_or}
use Rattle.fields.proofs.Output.{put_none}
use Rattle.file.specs.Words.{action_words}
use Rattle.writer.proofs.Placed.{put_at}
use Rattle.writer.proofs.vocabulary.put_action.Goals as goal

no-action : (n : ℕ) → (n ≡ 1 → ⊥) → (n ≡ 2 → ⊥) → get_or ([] ∷ action_words) n [] ≡ []
unfolding action_words
no-action zero h k = refl
no-action (suc zero) h k = absurd (h refl)
no-action (suc (suc zero)) h k = absurd (k refl)
no-action (suc (suc (suc n))) h k = refl

pub returns-in-1 : goal.returns-in-1
unfolding action_words
returns-in-1 c = put_at ([] ∷ action_words) 1 _ c.in-1.is (c.put_bytes.ensures.all (omega arith))

pub returns-in-2 : goal.returns-in-2
unfolding action_words
returns-in-2 c = put_at ([] ∷ action_words) 2 _ c.in-2.is (c.put_bytes-in-2.ensures.all (omega arith))

pub returns-in_default : goal.returns-in_default
returns-in_default c = rw (no-action c.args.action (λ e. omega (arith, e)) (λ e. omega (arith, e))) (put_none _ _)
