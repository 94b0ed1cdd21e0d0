-- A requests text that is too long, or its answers.
use Rattle.transcript.proofs.Whole.{requests_long, requests_fit}
use Rattle.transcript.proofs.answers.put_requests.Goals as goal

pub returns-then-requests-gt-LONGEST : goal.returns-then-requests-gt-LONGEST
returns-then-requests-gt-LONGEST c = rw (requests_long _ _ _ c.if-requests-gt-LONGEST.true) (rw (c.number.ensures, c.line.ensures) at c.put_file.ensures)

pub returns : goal.returns
returns c = rw (requests_fit _ _ _ c.if-requests-gt-LONGEST.false) c.put_answers.ensures
