-- The bits of the words are the edges of all relations.
use Rattle.writer.proofs.PutLines.{put_all_edges}
use Rattle.writer.proofs.bits.put_edges.Goals as goal

pub returns-clause-put : goal.returns-clause-put
returns-clause-put c = put_all_edges _ c.put_rows.ensures.put
