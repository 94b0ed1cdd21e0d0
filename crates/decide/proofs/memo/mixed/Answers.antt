use Rattle.std.proofs.Common.{◌≡◌, Bool, true, false, cond, not, ◌&&◌, ◌||◌}
use mathlib.Core.Path.{refl, ap₂, ◌∙◌}
use lib.Bits.{bit_and, bit_xor}
use Rattle.sets.specs.Sets.{bit}
use Rattle.sets.proofs.Bits.{bit-and, bit-or, bit_without}
use Rattle.decide.proofs.memo.mixed.Goals as goal

either : (k p q : Bool) → ((p && not k) || (q && k)) ≡ cond k q p
either true true true = refl
either true true false = refl
either true false true = refl
either true false false = refl
either false true true = refl
either false true false = refl
either false false true = refl
either false false false = refl

pub returns : goal.returns
returns c b =
    let x = c.args in
    bit-or (bit_xor x.v (bit_and x.v x.ask)) (bit_and x.w x.ask) b
    ∙ ap₂ ◌||◌ (bit_without x.v x.ask b) (bit-and x.w x.ask b) ∙ either (bit x.ask b) (bit x.v b) (bit x.w b)
