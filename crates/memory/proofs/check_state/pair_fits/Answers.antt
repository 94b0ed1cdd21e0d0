-- The four words of one member after those of the other, and the words after the last by their union.
use Rattle.std.proofs.Common.{◌≡◌, ◌+◌, ◌*◌, get_or, arith}
use mathlib.Core.Path.{sym, ap, ◌∙◌}
use Rattle.sets.specs.Sets.{all_below}
use Rattle.sets.proofs.Finite.{all_none}
use Rattle.memory.specs.Checks.{pair_fits}
use Rattle.memory.proofs.Pairs.{word_fits, pairs_turn, pairs_fit}
use Rattle.memory.proofs.check_state.pair_fits.Goals as goal

pub loop-a-init : goal.loop-a-init
loop-a-init c = sym (all_none _)

pub loop-a-preserved : goal.loop-a-preserved
loop-a-preserved c =
    let n = c.args.n in
    let ws = c.args.ws.now in
    let a = c.loop-a.a in
    pairs_turn a (λ i. pair_fits n i (get_or ws i 0)) c.loop-a.off c.beyond-in-loop-a-3.result c.beyond-in-loop-a-2.result
    c.beyond-in-loop-a.result c.beyond.result
    (c.beyond-in-loop-a-3.ensures ∙ word_fits n (4 * a) 0 (get_or ws (4 * a) 0) _ (omega arith) (omega arith) (omega (arith, c.type_inv.ws (4 * a))) c.permitted-first.ensures)
    (c.beyond-in-loop-a-2.ensures ∙ word_fits n (4 * a + 1) 1 (get_or ws (4 * a + 1) 0) _ (omega arith) (omega arith) (omega (arith, c.type_inv.ws (4 * a + 1))) c.permitted-second.ensures)
    (c.beyond-in-loop-a.ensures ∙ word_fits n (4 * a + 2) 2 (get_or ws (4 * a + 2) 0) _ (omega arith) (omega arith) (omega (arith, c.type_inv.ws (4 * a + 2))) c.permitted-third.ensures)
    (c.beyond.ensures ∙ word_fits n (4 * a + 3) 3 (get_or ws (4 * a + 3) 0) _ (omega arith) (omega arith) (omega (arith, c.type_inv.ws (4 * a + 3))) c.permitted-fourth.ensures)
    c.loop-a.invariant

pub returns : goal.returns
returns c =
    let n = c.args.n in
    let ws = c.args.ws.now in
    let e : c.loop-a.a ≡ n = omega arith in
    pairs_fit ws n c.union_of.result c.loop-a.off c.requires.0 c.requires.1 (λ i. omega (arith, c.type_inv.ws i)) c.union_of.ensures
    (c.loop-a.invariant ∙ ap (λ a. all_below (4 * a) (λ i. pair_fits n i (get_or ws i 0))) e)
