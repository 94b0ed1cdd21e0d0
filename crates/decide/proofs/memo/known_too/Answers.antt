use Rattle.std.proofs.Common.{◌≡◌, ℕ, Bool, true, false, cond, ◌&&◌, ◌||◌}
use mathlib.Core.Path.{refl, ap, ◌∙◌}
use Rattle.sets.specs.Sets.{bit}
use Rattle.sets.proofs.Bits.{bit-or, bit_zero}
use Rattle.decide.proofs.memo.known_too.Goals as goal

if-had : (had : Bool) (w b : ℕ) → bit (cond had w 0) b ≡ (had && bit w b)
if-had true w b = refl
if-had false w b = bit_zero b

pub returns : goal.returns
returns c b =
    let x = c.args in
    bit-or c.only.result x.ask b
    ∙ ap (λ (t : Bool). t || bit x.ask b) (ap (λ (w : ℕ). bit w b) c.only.ensures ∙ if-had x.had x.known b)
