use Rattle.std.proofs.Common.{◌≤◌}
use Rattle.effort.specs.Effort.{most}
use Rattle.effort.proofs.CutSums.{cut_le, product_fits}
use Rattle.effort.proofs.times.Goals as goal

pub overflow_mul-n : goal.overflow_mul-n
overflow_mul-n c =
    let l : c.smaller.result ≤ most = rw c.smaller.ensures (cut_le c.args.x) in
    record { fits = product_fits c.args.n c.smaller.result c.requires l }
