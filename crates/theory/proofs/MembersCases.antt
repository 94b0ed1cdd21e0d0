-- Small runs with new numbers, computed of the keeper and of the tables: they fail where a
-- definition that both share is wrong.
use Prim.Native.Nat.{ℕ}
use mathlib.Core.Path.{◌≡◌, refl}
use mathlib.Core.List.{List, [], ◌∷◌}
use Rattle.sets.specs.Sets.{any_below, all_below}
use Rattle.theory.specs.Formula.{node, number, below, spelled, free, those, highest}
use Rattle.theory.specs.Meaning.{holds}
use Rattle.theory.specs.Moment.{affect_all}
use Rattle.theory.specs.Limits.{least_state}
use Rattle.theory.specs.NewNumbers.{renumbers}
use Rattle.theory.specs.Keeper.{Step, Answer, first_book, judge, keep, keep_step, keep_steps}
use Rattle.theory.specs.Keeper.Step.{call, renumber}
use Rattle.theory.specs.Keeper.Answer.{done, refused}
use Rattle.theory.specs.Tables.{holds_now, prev_tables, since_tables, opening, advance}
use Rattle.theory.specs.Cases.{requests, looks, yes, no, preset, own}
use Rattle.theory.proofs.Cases.{pairs}
use Rattle.theory.proofs.RevisedCases.{by_tables}

abbrev asks : (j u v : ℕ) → Step
asks j u v = call (requests j u v)

abbrev sees : (j u v : ℕ) → Step
sees j u v = call (looks j u v)

-- 0, 1 and 2 become 2, 0 and 1. The list that undoes it would make them 1, 2 and 0.
abbrev turns : Step
turns = renumber (2 ∷ 0 ∷ 1 ∷ []) least_state

-- In the preset 0 owns 2 and has shared with 1, so 1 loads from 2. With the new numbers 2 owns 1 and has shared with 0,
-- and its withdrawal from 0 ends it.
unfoldable pub turned : List Step
turned =
    asks 0 0 1 ∷ sees 2 1 2 ∷ turns ∷ sees 2 1 2 ∷ sees 2 2 0 ∷ sees 2 0 1 ∷ asks 1 1 0 ∷ asks 2 0 1 ∷ asks 1 2 0 ∷ sees 2 0 1 ∷ []

unfoldable pub turned_answers : List Answer
turned_answers = yes ∷ yes ∷ done ∷ no ∷ no ∷ yes ∷ yes ∷ yes ∷ yes ∷ no ∷ []

-- By a table with one column.
pub turned-answers : ((keep_steps (first_book preset own) turned).0 ≡ turned_answers) × (by_tables preset (opening preset own) turned ≡ turned_answers)
unfolding keep_steps keep_step judge keep holds turned turned_answers preset own spelled below node number any_below all_below affect_all free those highest renumbers by_tables holds_now opening advance prev_tables since_tables
turned-answers = (refl, refl)

-- By a table with two: each of its three indices is renumbered.
pub turned_pairs : ((keep_steps (first_book pairs own) turned).0 ≡ turned_answers) × (by_tables pairs (opening pairs own) turned ≡ turned_answers)
unfolding keep_steps keep_step judge keep holds turned turned_answers pairs own spelled below node number any_below all_below affect_all free those highest renumbers by_tables holds_now opening advance prev_tables since_tables
turned_pairs = (refl, refl)

-- Short memory, a number twice, a number that is no member's and a list of another length are
-- refused, and all stays as it was.
unfoldable pub refusals : List Step
refusals =
    asks 0 0 1 ∷ renumber (2 ∷ 0 ∷ 1 ∷ []) 3072 ∷ renumber (2 ∷ 0 ∷ 0 ∷ []) least_state ∷ renumber (3 ∷ 0 ∷ 1 ∷ []) least_state
    ∷ renumber (2 ∷ 0 ∷ 1 ∷ 3 ∷ []) least_state ∷ renumber (1 ∷ 0 ∷ []) least_state ∷ sees 2 1 2 ∷ turns ∷ sees 2 0 1 ∷ sees 2 3 1 ∷ []

pub refusals_answered : (keep_steps (first_book preset own) refusals).0
    ≡ yes ∷ refused 6 0 ∷ refused 15 0 ∷ refused 15 0 ∷ refused 15 0 ∷ refused 15 0 ∷ yes ∷ done ∷ yes ∷ refused 9 0 ∷ []
unfolding keep_steps keep_step judge keep holds refusals preset own spelled below node number any_below all_below affect_all free those highest renumbers
refusals_answered = refl
