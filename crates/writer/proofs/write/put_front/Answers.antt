-- The words are members, relations and events.
use mathlib.Core.List.{[], ◌∷◌}
use Rattle.memory.specs.Layout.{terms_of}
use Rattle.file.specs.Line.{fields_of}
use Rattle.file.specs.declared.line.Line.TheVariants.{Members, Labels}
use Rattle.writer.proofs.PutLines.{put_line, put_lines}
use Rattle.writer.proofs.write.put_front.Goals as goal

pub returns-clause-put : goal.returns-clause-put
unfolding terms_of fields_of
returns-clause-put c =
    put_lines (Members _ ∷ []) (Labels _ _ ∷ [])
    (put_line (Members _) (rw c.members.ensures.value at c.put_single-next.ensures.put))
    (put_line (Labels _ _) (rw (c.relations.ensures.value, c.events.ensures.value) at c.put_pair.ensures.put))
