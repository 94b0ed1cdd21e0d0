-- Later steps, with their members renumbered.
use Rattle.std.specs.Prelude.{ℕ, List, map}
use Rattle.theory.specs.NewNumbers.{new_number}
use Rattle.calls.specs.Agreement.{LentCall, LentStep}
use Rattle.calls.specs.Agreement.LentStep.{once, set_list, revise, renumber}
use Rattle.calls.specs.declared.Record.{Record}

abbrev pub call_by : (numbers : List ℕ) → LentCall → LentCall
call_by p c = record { look = c.look; event = c.event; from = new_number p c.from; to = new_number p c.to; scratch = c.scratch }

abbrev pub record_by : (numbers : List ℕ) → Record → Record
record_by p r = record { event = r.event; from = new_number p r.from; to = new_number p r.to; answer = r.answer }

-- Requests, looks and set lists. (New terms name no member; new numbers are another renumbering.)
abbrev pub step_by : (numbers : List ℕ) → LentStep → LentStep
step_by p (once c) = once (call_by p c)
step_by p (set_list scratch rs) = set_list scratch (map (record_by p) rs)
step_by p (revise new second) = revise new second
step_by p (renumber ns second) = renumber ns second
