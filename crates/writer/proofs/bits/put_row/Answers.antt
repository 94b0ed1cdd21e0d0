-- A word that is 0 has no bits, and past the end nothing is stored.
use Rattle.writer.proofs.PutLines.{put_row_none, put_skipped}
use Rattle.writer.proofs.bits.put_row.Goals as goal

pub returns-then-w-eq0-clause-put : goal.returns-then-w-eq0-clause-put
returns-then-w-eq0-clause-put c = put_row_none _ _ c.args.table _ _ _ c.if-w-eq0.true

pub returns-then-out-at-clause-put : goal.returns-then-out-at-clause-put
returns-then-out-at-clause-put c = put_skipped _ c.if-out-at.true c.skip_row.ensures.put
