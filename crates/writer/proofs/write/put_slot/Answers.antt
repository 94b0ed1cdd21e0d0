-- The three words are action, relation and direction.
use Rattle.writer.proofs.PutLines.{put_line}
use Rattle.writer.proofs.write.put_slot.Goals as goal

pub returns-clause-put : goal.returns-clause-put
returns-clause-put c =
    rw (
      ← c.word.ensures.value,
      ← c.one_or-action.ensures,
      ← c.word-relation.ensures.value,
      ← c.word-2.ensures.value,
      ← c.one_or-direction.ensures,
    ) (put_line _ c.put_effect.ensures.put)
