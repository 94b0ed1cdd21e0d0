use Rattle.std.proofs.Common.{ℕ, replicate, arith}
use mathlib.Core.Path.{refl, ap, ◌∙◌}
use borrow.Rule.Slice.PartMut.{mid_len}
use Rattle.deciding.proofs.Counting as counting
use Rattle.decide.proofs.rows.clear_from.Goals as goal

pub returns : goal.returns
returns c =
    let out = c.args.out.now in
    counting.cleared_from c.args.n _ out c.fill.new.self (omega arith)
    (c.fill.ensures.after (λ y h. h) ∙ ap (λ (k : ℕ). replicate k 0) (mid_len c.args.n _ out (omega arith))) refl
