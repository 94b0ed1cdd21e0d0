use Rattle.std.proofs.Common.{◌||◌, Bool}
use mathlib.Core.Path.{ap, ◌∙◌}
use Rattle.sets.specs.Sets.{bit}
use Rattle.sets.proofs.Bits.{bit-or}
use Rattle.sets.proofs.with.Goals as goal

pub returns : goal.returns
returns c m = bit-or c.args.w c.single.result m ∙ ap (λ (x : Bool). bit c.args.w m || x) (c.single.ensures m)
