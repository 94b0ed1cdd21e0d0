use Rattle.std.proofs.Common.{ℕ, sym, ap}
use mathlib.Core.Path.{◌∙◌}
use Rattle.sets.specs.Sets.{bit}
use Rattle.sets.proofs.Finite.{not_both, and_left}
use Rattle.sets.proofs.Bits.{bit_zero, bit-and}
use Rattle.decide.proofs.memo.unless_known.Goals as goal

pub returns-then-known-ask : goal.returns-then-known-ask
returns-then-known-ask c =
    let x = c.args in (
      (λ m e. absurd (not_both _ e (bit_zero m))),
      λ l n b q. and_left (bit x.known b) (bit x.ask b) (sym (bit-and x.known x.ask b) ∙ ap (λ (w : ℕ). bit w b) c.if-known-ask.true ∙ q),
    )
