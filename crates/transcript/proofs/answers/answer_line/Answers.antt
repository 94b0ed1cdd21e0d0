-- A request is called with scratch that is blank, and leaves it so.
use Rattle.std.proofs.Common.{sym}
use Rattle.transcript.proofs.Lines.{line_called, line_malformed}
use Rattle.transcript.proofs.answers.answer_line.Goals as goal

pub returns-in-Some : goal.returns-in-Some
returns-in-Some c =
    let r = c.request.ensures in
    let q = line_called _ _ _ _ _ _ _ _ _ _ (sym c.in-Some.ensures) c.requires r.result_value r.state_after r.scratch_after in
    record { result_value = q.0; state_after = q.1.0; room_after = q.1.1 }

pub returns-in-None : goal.returns-in-None
returns-in-None c =
    let q = line_malformed c.args.terms.now c.args.state.now _ _ (sym c.in-None.ensures) c.requires in
    record { result_value = q.0; state_after = q.1.0; room_after = q.1.1 }
