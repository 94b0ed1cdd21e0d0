-- Demand 3 for plans and for entries that are told, entire: from any file with a record, after any list of requests,
-- looks, set lists, new terms and new numbers.
use Prim.Native.Nat.{ℕ, ◌≤◌}
use mathlib.Core.Path.{◌≡◌}
use mathlib.Core.List.{List}
use lib.ListN.{length}
use Rattle.theory.specs.Keeper.{Book}
use Rattle.memory.specs.Layout.{terms_words, state_words}
use Rattle.calls.specs.Agreement.{LentStep}
use Rattle.text.specs.Recorded.{later_book, loaded, after_steps, Recorded}
use Rattle.calls.specs.Telling.{tells}
use Rattle.plans.specs.Game.{keeper_rules}
use Rattle.plans.specs.Plans.{ruling}
use Rattle.calls.proofs.Demand.{run}
use Rattle.text.proofs.Demand.{playing}
use Rattle.plans.proofs.Demand.{ruled_playing}
use Rattle.rulings.specs.Telling.{keeper_tells}
use Rattle.rulings.proofs.Telling.{told_playing}

-- For every file with a record, all lent memory that is long enough, all lists of steps over what reading left of it,
-- and every plan with any numbers and any scratch after them: what is ruled over the memory in use is what the keeper
-- rules over its book, who goes on with the record.
pub demand_3_plans : (text : List ℕ) (B : Book) → Recorded text B →
    (terms state : List ℕ) → terms_words ≤ length terms → state_words ≤ length state → (ss : List LentStep) →
    (scratch plan : List ℕ) (planner rival goal u v : ℕ) →
    ruling (after_steps text terms state ss).terms (after_steps text terms state ss).state scratch plan planner rival goal u v
    ≡ keeper_rules (later_book B ss) (length scratch) plan planner rival goal u v
demand_3_plans text B from terms state tl sl ss scratch plan planner rival goal u v =
    ruled_playing (later_book B ss) (after_steps text terms state ss) (run ss B (loaded text terms state) (playing from terms state tl sl)).1 scratch plan planner rival goal u v

-- The same of every entry with any pair: what is told of it is what the keeper tells.
pub demand_3_telling : (text : List ℕ) (B : Book) → Recorded text B →
    (terms state : List ℕ) → terms_words ≤ length terms → state_words ≤ length state → (ss : List LentStep) → (n u v : ℕ) →
    tells (after_steps text terms state ss).terms (after_steps text terms state ss).state n u v ≡ keeper_tells (later_book B ss) n u v
demand_3_telling text B from terms state tl sl ss n u v =
    told_playing (later_book B ss) (after_steps text terms state ss) (run ss B (loaded text terms state) (playing from terms state tl sl)).1 n u v
