-- `inspect_call`: the scratch, and then terms and state.
use mathlib.Core.Path.{◌∙◌}
use Rattle.calls.proofs.ListChecks.{list_short, list_checked}
use Rattle.monitor.proofs.passed.inspect_call.Goals as goal

pub returns-then-scratch-lt-SCRATCH-clause-result_value :
    goal.returns-then-scratch-lt-SCRATCH-clause-result_value
returns-then-scratch-lt-SCRATCH-clause-result_value c = list_short _ _ _ c.if-scratch-lt-SCRATCH.true

pub returns-clause-result_value : goal.returns-clause-result_value
returns-clause-result_value c = c.inspect.ensures.result_value ∙ list_checked _ _ _ c.if-scratch-lt-SCRATCH.false
