use Rattle.std.proofs.Common.{arith}
use Rattle.transcript.proofs.Lines.{line_small}
use Rattle.transcript.proofs.RequestLoop.{going_next, going_cut, going_done}
use Rattle.transcript.proofs.answers.put_answers.Goals as goal

pub returns-in_default : goal.returns-in_default
returns-in_default c =
    going_cut c.loop-line.invariant (rw c.in_default.is at c.in-Some.ensures.steps).last c.put_answer.ensures

pub returns : goal.returns
returns c = going_done c.loop-line.invariant c.in-None.ensures.steps

pub put_answer-at-requires : goal.put_answer-at-requires
put_answer-at-requires c =
    (rw c.answer_line-a.ensures.result_value (line_small _ _ _), (omega arith, omega arith))

pub loop-line-preserved : goal.loop-line-preserved
loop-line-preserved c =
    let e = c.answer_line-a.ensures in
    going_next c.loop-line.invariant (rw c.in-Some-line.is at c.in-Some.ensures.steps) e.result_value e.state_after e.room_after c.put_answer-at.ensures
