use Rattle.std.proofs.Common.{sym, ◌∙◌, arith}
use Rattle.classes.proofs.Marking.{not_found}
use Rattle.classes.proofs.lookup.Goals as goal

pub returns-else-is_marked : goal.returns-else-is_marked
returns-else-is_marked c =
    (not_found _ _ _ _ c.requires.2 (sym c.is_marked.ensures ∙ c.if-is_marked.false), omega arith)
