use Rattle.renumber.proofs.ByBytes as by
use Rattle.renumber.proofs.spread_part.Goals as goal

pub returns : goal.returns
returns c = by.part_spread c.args.bytes.now c.args.i c.args.set c.requires.1
