-- The words are those of the part.
use mathlib.Core.Path.{refl, ◌∙◌}
use Rattle.memory.proofs.TermsTests.{part_blank}
use Rattle.memory.proofs.check_terms.is_blank.Goals as goal

pub returns : goal.returns
returns c = c.all_blank.ensures ∙ part_blank c.args.terms.now c.args.from c.args.n c.requires _ refl
