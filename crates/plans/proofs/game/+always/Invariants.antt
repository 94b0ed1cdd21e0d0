-- It calls itself with one move more made, so that fewer are left. The loop's invariant: after each move of the rival
-- up to i the rest of the plan wins, and the state that it starts from is spared.
use Rattle.std.proofs.Common.{◌≡◌, ◌+◌, ◌-◌, true}
use Rattle.sets.specs.Sets.{all_below}
use Rattle.memory.specs.Layout.{state_words, terms_of}
use Rattle.plans.specs.private.Playing.{standing, Spared, wins_from}
use Rattle.plans.proofs.Plays.{offer}
use Rattle.plans.proofs.game.+always.Given as goal

abbrev pub decreases-always : goal.decreases-always
decreases-always l = 4 - l.k

abbrev pub invariant-loop-i : goal.invariant-loop-i
invariant-loop-i l =
    let x = l.fn in
    Spared (l.at + state_words) x.words l.words
    × (all_below l.i (offer (terms_of l.terms) l.terms l.rival (wins_from l.terms l.plan l.planner l.rival l.goal l.u l.v l.k) (standing l.at x.words)) ≡ true)
