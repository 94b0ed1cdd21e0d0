use Rattle.renumber.proofs.ByBytes as by
use Rattle.renumber.proofs.spread.Goals as goal

pub returns : goal.returns
returns c p b m =
    by.whole_spread p m c.args.set _ _ _ _ (c.spread_part-a.ensures p b m)
    (c.spread_part-b.ensures p b m) (c.spread_part-c.ensures p b m) (c.spread_part-d.ensures p b m)
