use Rattle.std.proofs.Common.{refl, arith}
use Rattle.effort.specs.Effort.{sets_of}
use Rattle.effort.proofs.CutSums.{too_many, so_few, more_than_few}
use Rattle.effort.proofs.effort.Goals as goal

pub returns-then-count-gt-ENTRIES : goal.returns-then-count-gt-ENTRIES
returns-then-count-gt-ENTRIES c = too_many c.args.terms.now (omega arith)

pub fill_sets-requires : goal.fill_sets-requires
unfolding sets_of
fill_sets-requires c = (omega arith, refl)

pub returns-then-count-lt-SMALL : goal.returns-then-count-lt-SMALL
returns-then-count-lt-SMALL c =
    so_few c.args.terms.now _ _ (omega arith) (omega arith) c.fill_sets.ensures c.total-plain.ensures

pub returns : goal.returns
returns c =
    more_than_few c.args.terms.now _ _ _ _ _ _ _ (omega arith) (omega arith)
    c.fill_sets.ensures c.total-plain.ensures c.members_of-n.ensures.0 c.total-shared.ensures
    c.brief_of.ensures c.plus.ensures c.smaller.ensures
