-- Where the event is kept, its line is there.
use Rattle.memory.specs.Layout.{terms_of}
use Rattle.file.specs.Line.{fields_of}
use Rattle.writer.proofs.PutLines.{put_mark_there, put_mark_none}
use Rattle.writer.proofs.write.put_mark_of.Goals as goal

pub returns-then-not-is_kept-clause-put : goal.returns-then-not-is_kept-clause-put
returns-then-not-is_kept-clause-put c = put_mark_none (terms_of c.args.terms.now) c.args.j _ c.is_kept.ensures _ _ c.if-not-is_kept.true

pub returns-clause-put : goal.returns-clause-put
unfolding fields_of
returns-clause-put c = put_mark_there (terms_of c.args.terms.now) c.args.j _ c.is_kept.ensures c.if-not-is_kept.false c.put_single.ensures.put
