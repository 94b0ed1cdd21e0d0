use Rattle.std.proofs.Common.{◌≡◌, ap, sym, ◌<◌, arith}
use mathlib.Core.Path.{◌∙◌}
use Rattle.theory.specs.Formula.{is_past}
use Rattle.memory.specs.Layout.{terms_of}
use Rattle.memory.proofs.Accepted.{good}
use Rattle.writer.proofs.Paired.{so_none, so_other, so_past}
use Rattle.writer.proofs.pairs.pair_tables.Goals as goal
use Rattle.writer.proofs.pairs.pair_tables.Goals.{then-is_past, else-is_past}

pub loop-n-init : goal.loop-n-init
loop-n-init c = so_none (terms_of c.args.terms.now)

pub loop-n-preserved : goal.loop-n-preserved
loop-n-preserved c =
    let x = c.args in
    let l = c.loop-n in
    let T = terms_of x.terms.now in
    let past : c.is_past.result ≡ is_past (T.entry l.n).op = c.is_past.ensures ∙ ap is_past c.op_of.ensures.value in
    let here : l.n < T.entries = omega (arith, c.entries-n-end.ensures.value) in
    elim c.if-is_past.branch [
      | then-is_past w ↦ so_past T x.index.now (good _ c.requires.1) c.requires.2 l.n here (sym past ∙ w.if-is_past.true) _ _ _ w.word.ensures.value l.invariant (rw w.pairs-is w.with_pair-pairs.ensures)
      | else-is_past w ↦ rw w.pairs-is (so_other T l.n _ (sym past ∙ w.if-is_past.false) l.invariant)
    ]
