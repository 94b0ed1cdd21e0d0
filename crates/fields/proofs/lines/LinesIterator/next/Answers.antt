-- A step takes the first line, or what is left where no line feed is left.
use Rattle.std.proofs.Common.{rules, arith}
use Rattle.std.proofs.lemmas.Grind.{common_steps}
use Rattle.std.proofs.lemmas.Bool.Decides.{nat_tests}
use Rattle.fields.proofs.FirstLine.{lines_end, taken, cut_taken}
use Rattle.fields.proofs.lines.LinesIterator.next.Goals as goal

pub returns-then-is_empty-clause-steps : goal.returns-then-is_empty-clause-steps
returns-then-is_empty-clause-steps c = lines_end _ (search rules)

pub returns-then-text-end-clause-steps : goal.returns-then-text-end-clause-steps
returns-then-text-end-clause-steps c = cut_taken _ _ c.find-end.ensures c.if-text-end.true (grind (arith, common_steps, nat_tests))

pub returns-clause-steps : goal.returns-clause-steps
returns-clause-steps c = taken _ _ c.find-end.ensures c.if-text-end.false
