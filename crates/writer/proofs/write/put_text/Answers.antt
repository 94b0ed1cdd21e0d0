-- The kinds of lines in their order are all lines.
use Rattle.writer.specs.Write.{written_text}
use Rattle.file.specs.Writing.{all_lines, written}
use Rattle.writer.proofs.PutLines.{put_lines}
use Rattle.writer.proofs.write.put_text.Goals as goal

pub returns-clause-put : goal.returns-clause-put
unfolding written_text written all_lines
returns-clause-put c =
    put_lines _ _ c.put_front-entries.ensures.put
    (put_lines _ _ c.put_entries-policies.ensures.put
    (put_lines _ _ c.put_policies-marks.ensures.put
    (put_lines _ _ c.put_marks-effects.ensures.put
    (put_lines _ _ c.put_effects-edges.ensures.put c.put_edges.ensures.put))))
