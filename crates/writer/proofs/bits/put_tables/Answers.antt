-- The bits of the words are the bits of all tables.
use Rattle.writer.proofs.PutLines.{put_all_tables}
use Rattle.writer.proofs.bits.put_tables.Goals as goal

pub returns-clause-put : goal.returns-clause-put
returns-clause-put c = put_all_tables _ _ c.put_rows.ensures.put
