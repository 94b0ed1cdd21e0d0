use Rattle.std.proofs.Common.{arith}
use Rattle.deciding.proofs.Pairs as pairs
use Rattle.decide.proofs.pairs.row_of.Goals as goal

pub returns-in_default : goal.returns-in_default
returns-in_default c =
    let x = c.args in
    pairs.row_shut x.past.now x.at x.b x.c x.free c.only.result (λ e. omega arith) (λ e. omega arith) c.has.result c.only.ensures c.has.ensures
