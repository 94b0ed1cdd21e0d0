-- off is 0 where the words of the members passed have bits at members only.
use Rattle.std.proofs.Common.{◌≡◌, ◌*◌, eqb, get_or}
use Rattle.sets.specs.Sets.{all_below}
use Rattle.memory.specs.Checks.{pair_fits}
use Rattle.memory.proofs.check_state.pair_fits.Given as goal

abbrev pub invariant-loop-a : goal.invariant-loop-a
invariant-loop-a l = eqb l.off 0 ≡ all_below (4 * l.a) (λ i. pair_fits l.n i (get_or l.ws i 0))
