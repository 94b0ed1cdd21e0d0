use Rattle.std.proofs.Common.{sym, refl}
use Rattle.file.specs.Words.{direction_of, direction_words, index_from}
use Rattle.file.proofs.vocabulary.read_direction.Goals as goal

pub returns-then-same : goal.returns-then-same
unfolding direction_of direction_words index_from
returns-then-same c = rw (sym c.if-same.ensures) refl

pub returns-then-same-2 : goal.returns-then-same-2
unfolding direction_of direction_words index_from
returns-then-same-2 c = rw (sym c.if-same.ensures, sym c.if-same-2.ensures) refl

pub returns-else-same-2 : goal.returns-else-same-2
unfolding direction_of direction_words index_from
returns-else-same-2 c =
    rw (sym c.if-same.ensures, sym c.if-same-2.ensures)
    refl
