-- The four words are those of the entry.
use Rattle.writer.proofs.PutLines.{put_line}
use Rattle.writer.proofs.write.put_entry_of.Goals as goal

pub returns-clause-put : goal.returns-clause-put
returns-clause-put c =
    rw (← c.op_of-op.ensures.value, ← c.first_of-a.ensures.value, ← c.second_of-b.ensures.value, ← c.third_of-c.ensures.value)
    (put_line _ c.put_entry.ensures.put)
