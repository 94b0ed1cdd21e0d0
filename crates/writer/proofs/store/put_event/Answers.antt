-- A word that is not 0, less 1, is event, from and to.
use Rattle.std.proofs.Common.{arith}
use Rattle.file.specs.Line.{fields_of}
use Rattle.writer.proofs.PutLines.{put_event_none, put_event_there}
use Rattle.writer.proofs.store.put_event.Goals as goal

pub returns-then-w-eq0-clause-put : goal.returns-then-w-eq0-clause-put
returns-then-w-eq0-clause-put c = put_event_none _ _ c.args.w (omega arith)

pub returns-clause-put : goal.returns-clause-put
unfolding fields_of
returns-clause-put c = put_event_there _ c.if-w-eq0.false c.put_triple.ensures.put
