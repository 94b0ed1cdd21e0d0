use Rattle.transcript.proofs.RequestLoop.{RequestsSoFar}
use Rattle.transcript.proofs.answers.put_answers.Given as goal

abbrev pub invariant-loop-line : goal.invariant-loop-line
invariant-loop-line l = RequestsSoFar l.terms l.fn.state l.requests l.fn.out l.state l.out l.room l.line-iterator.rest.now l.n l.at
