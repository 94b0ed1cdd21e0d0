-- The S line, the text, the T lines and the V line are all lines.
use mathlib.Core.List.{[], ◌∷◌}
use Rattle.memory.specs.Layout.{terms_of, state_of}
use Rattle.file.specs.Line.{fields_of}
use Rattle.file.specs.Writing.{stored_lines, stored, written}
use Rattle.file.specs.declared.line.Line.TheVariants.{Form}
use Rattle.writer.specs.Write.{written_text, stored_text}
use Rattle.writer.proofs.PutLines.{put_line, put_lines}
use Rattle.writer.proofs.store.put_stored.Goals as goal

pub returns-clause-put : goal.returns-clause-put
unfolding stored_text stored stored_lines written_text written state_of fields_of
returns-clause-put c =
    put_lines (Form 2 ∷ []) _ (put_line (Form 2) c.put_single-text.ensures.put)
    (put_lines _ _ c.put_text-tables.ensures.put
    (put_lines _ _ (c.put_tables-event.ensures.put (terms_of c.args.terms.now) c.requires.0) c.put_event.ensures.put))
