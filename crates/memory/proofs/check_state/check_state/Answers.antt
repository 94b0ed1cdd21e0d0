-- A state is relations and a bank's own words.
use Rattle.std.proofs.Common.{◌&&◌}
use mathlib.Core.Path.{sym, ap₂, ◌∙◌}
use Rattle.memory.specs.Layout.{terms_of}
use Rattle.memory.proofs.Accepted.{good}
use Rattle.memory.proofs.OwnTests.{good_state_apart}
use Rattle.memory.proofs.check_state.check_state.Goals as goal

pub returns : goal.returns
returns c =
    ap₂ ◌&&◌ c.check_relations.ensures c.check_own.ensures
    ∙ sym (good_state_apart (terms_of c.args.terms.now) (good _ c.requires.terms_value.0) c.args.state.now)
