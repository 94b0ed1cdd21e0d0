-- The two parts of the words of a bank's own.
use Rattle.memory.specs.Layout.{terms_of}
use Rattle.memory.proofs.OwnTests.{own-tests}
use Rattle.memory.proofs.check_state.check_own.Goals as goal

pub returns : goal.returns
returns c = own-tests (terms_of c.args.terms.now) c.args.own.now c.tables_fit.ensures c.event_fits.ensures
