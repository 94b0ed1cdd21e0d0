use mathlib.Core.Logic.{⊎_elim}
use Rattle.classes.specs.private.Keys.{normal}
use Rattle.classes.proofs.normal_of.Goals as goal

pub returns-in-Unused-clause-by_index : goal.returns-in-Unused-clause-by_index
unfolding normal
returns-in-Unused-clause-by_index c f e = rw c.in-Unused.is

pub returns-in-Entry-clause-by_index : goal.returns-in-Entry-clause-by_index
unfolding normal
returns-in-Entry-clause-by_index c f e = rw c.in-Entry.is e

pub returns-in-Variable : goal.returns-in-Variable
unfolding normal
returns-in-Variable c = record {
  by_index = λ f e.
      ⊎_elim (λ i. rw i) (⊎_elim (λ i. rw i) (⊎_elim (λ i. rw i) (λ i. rw i))) c.in-Variable.is;
  upper_bound = λ x y. x;
}
