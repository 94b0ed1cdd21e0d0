-- Demand 3 for plans: after any list of steps, new terms among them, what is ruled is what the keeper rules over its
-- book.
use Prim.Native.Nat.{ℕ}
use mathlib.Core.Path.{◌≡◌, sym, ◌∙◌}
use mathlib.Core.List.{List}
use lib.ListN.{length}
use Rattle.theory.specs.Keeper.{Book, keep_steps}
use Rattle.memory.specs.Layout.{terms_of}
use Rattle.memory.specs.Outcome.{opens}
use Rattle.memory.specs.Outcome.Outcome.{passed}
use Rattle.calls.specs.Agreement.{LentStep, fed_steps, Lent, serve_steps, opened_book, opened}
use Rattle.plans.specs.Game.{keeper_rules}
use Rattle.plans.specs.Plans.{ruling}
use Rattle.memory.proofs.Accepted.{good}
use Rattle.calls.proofs.Demand.{Playing, keeper_good, run, opened_playing}
use Rattle.plans.proofs.Rivals.{ruled_kept}
use Rattle.plans.proofs.RuledAlike.{rules_alike}

-- Over any memory in use that holds what the keeper's book says.
pub ruled_playing : (B : Book) (L : Lent) → Playing B L → (scratch plan : List ℕ) (planner rival goal u v : ℕ) →
    ruling L.terms L.state scratch plan planner rival goal u v ≡ keeper_rules B (length scratch) plan planner rival goal u v
ruled_playing B L p scratch plan planner rival goal u v =
    ruled_kept L.terms p.long (good L.terms p.good-memory) p.good-memory B.start L.before p.room L.state B.moments p.held
    scratch plan planner rival goal u v
    ∙ sym (rules_alike B.terms (terms_of L.terms) p.like (keeper_good B L p) B.start B.moments (length scratch) plan planner rival goal u v)

-- For all memory that opens, all lists of steps over it, requests, looks, set lists and new terms, and every plan with
-- any numbers and any scratch after them: what is ruled over the memory in use is what the keeper rules over its book.
pub demand_3_plans : (terms state : List ℕ) → opens terms state ≡ passed → (ss : List LentStep) → (scratch plan : List ℕ) (planner rival goal u v : ℕ) →
    let after = (serve_steps (opened terms state) ss).1 in
    ruling after.terms after.state scratch plan planner rival goal u v
    ≡ keeper_rules (keep_steps (opened_book terms state) (fed_steps ss)).1 (length scratch) plan planner rival goal u v
demand_3_plans terms state e ss scratch plan planner rival goal u v =
    ruled_playing (keep_steps (opened_book terms state) (fed_steps ss)).1 (serve_steps (opened terms state) ss).1
    (run ss (opened_book terms state) (opened terms state) (opened_playing terms state e)).1 scratch plan planner rival goal u v
