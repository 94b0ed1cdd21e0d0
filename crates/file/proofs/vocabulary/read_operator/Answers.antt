use Rattle.std.proofs.Common.{sym, refl}
use Rattle.file.specs.Words.{operator_of, operator_words, index_from}
use Rattle.file.proofs.vocabulary.read_operator.Goals as goal

pub returns-then-same : goal.returns-then-same
unfolding operator_of operator_words index_from
returns-then-same c = rw (sym c.if-same.ensures) refl

pub returns-then-same-2 : goal.returns-then-same-2
unfolding operator_of operator_words index_from
returns-then-same-2 c = rw (sym c.if-same.ensures, sym c.if-same-2.ensures) refl

pub returns-then-same-3 : goal.returns-then-same-3
unfolding operator_of operator_words index_from
returns-then-same-3 c = rw (sym c.if-same.ensures, sym c.if-same-2.ensures, sym c.if-same-3.ensures) refl

pub returns-then-same-4 : goal.returns-then-same-4
unfolding operator_of operator_words index_from
returns-then-same-4 c = rw (sym c.if-same.ensures, sym c.if-same-2.ensures, sym c.if-same-3.ensures, sym c.if-same-4.ensures) refl

pub returns-then-same-5 : goal.returns-then-same-5
unfolding operator_of operator_words index_from
returns-then-same-5 c = rw (sym c.if-same.ensures, sym c.if-same-2.ensures, sym c.if-same-3.ensures, sym c.if-same-4.ensures, sym c.if-same-5.ensures) refl

pub returns-then-same-6 : goal.returns-then-same-6
unfolding operator_of operator_words index_from
returns-then-same-6 c = rw (sym c.if-same.ensures, sym c.if-same-2.ensures, sym c.if-same-3.ensures, sym c.if-same-4.ensures, sym c.if-same-5.ensures, sym c.if-same-6.ensures) refl

pub returns-then-same-7 : goal.returns-then-same-7
unfolding operator_of operator_words index_from
returns-then-same-7 c = rw (sym c.if-same.ensures, sym c.if-same-2.ensures, sym c.if-same-3.ensures, sym c.if-same-4.ensures, sym c.if-same-5.ensures, sym c.if-same-6.ensures, sym c.if-same-7.ensures) refl

pub returns-then-same-8 : goal.returns-then-same-8
unfolding operator_of operator_words index_from
returns-then-same-8 c = rw (sym c.if-same.ensures, sym c.if-same-2.ensures, sym c.if-same-3.ensures, sym c.if-same-4.ensures, sym c.if-same-5.ensures, sym c.if-same-6.ensures, sym c.if-same-7.ensures, sym c.if-same-8.ensures) refl

pub returns-then-same-9 : goal.returns-then-same-9
unfolding operator_of operator_words index_from
returns-then-same-9 c = rw (sym c.if-same.ensures, sym c.if-same-2.ensures, sym c.if-same-3.ensures, sym c.if-same-4.ensures, sym c.if-same-5.ensures, sym c.if-same-6.ensures, sym c.if-same-7.ensures, sym c.if-same-8.ensures, sym c.if-same-9.ensures) refl

pub returns-then-same-10 : goal.returns-then-same-10
unfolding operator_of operator_words index_from
returns-then-same-10 c = rw (sym c.if-same.ensures, sym c.if-same-2.ensures, sym c.if-same-3.ensures, sym c.if-same-4.ensures, sym c.if-same-5.ensures, sym c.if-same-6.ensures, sym c.if-same-7.ensures, sym c.if-same-8.ensures, sym c.if-same-9.ensures, sym c.if-same-10.ensures) refl

pub returns-then-same-11 : goal.returns-then-same-11
unfolding operator_of operator_words index_from
returns-then-same-11 c = rw (sym c.if-same.ensures, sym c.if-same-2.ensures, sym c.if-same-3.ensures, sym c.if-same-4.ensures, sym c.if-same-5.ensures, sym c.if-same-6.ensures, sym c.if-same-7.ensures, sym c.if-same-8.ensures, sym c.if-same-9.ensures, sym c.if-same-10.ensures, sym c.if-same-11.ensures) refl

pub returns-then-same-12 : goal.returns-then-same-12
unfolding operator_of operator_words index_from
returns-then-same-12 c = rw (sym c.if-same.ensures, sym c.if-same-2.ensures, sym c.if-same-3.ensures, sym c.if-same-4.ensures, sym c.if-same-5.ensures, sym c.if-same-6.ensures, sym c.if-same-7.ensures, sym c.if-same-8.ensures, sym c.if-same-9.ensures, sym c.if-same-10.ensures, sym c.if-same-11.ensures, sym c.if-same-12.ensures) refl

pub returns-else-same-12 : goal.returns-else-same-12
unfolding operator_of operator_words index_from
returns-else-same-12 c =
    rw (sym c.if-same.ensures, sym c.if-same-2.ensures, sym c.if-same-3.ensures, sym c.if-same-4.ensures, sym c.if-same-5.ensures, sym c.if-same-6.ensures, sym c.if-same-7.ensures, sym c.if-same-8.ensures, sym c.if-same-9.ensures, sym c.if-same-10.ensures, sym c.if-same-11.ensures, sym c.if-same-12.ensures)
    refl
