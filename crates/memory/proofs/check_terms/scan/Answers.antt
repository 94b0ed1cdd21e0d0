-- A turn is put together where all its tests are known.
use Rattle.std.proofs.Common.{◌≡◌, ℕ, suc, cond, arith}
use mathlib.Core.Path.{sym, ap, subst, ◌∙◌}
use Rattle.theory.specs.Formula.{is_past}
use Rattle.theory.specs.Fit.{every}
use Rattle.memory.specs.Layout.{terms_of}
use Rattle.memory.specs.TableIndex.{index_word}
use Rattle.memory.proofs.Scanning.{Scanning, turn_of, scanning_none, scanning_more, scanning_fails, scanning_all}
use Rattle.memory.proofs.check_terms.scan.Goals as goal

pub loop-i-init : goal.loop-i-init
loop-i-init c = scanning_none _ _ _ c.requires.1 c.requires.2

pub returns-then-not-fits-past_fits-clause-value :
    goal.returns-then-not-fits-past_fits-clause-value
unfolding every
returns-then-not-fits-past_fits-clause-value c =
    let r = c.row_of-fits.ensures in
    sym (scanning_fails
    (turn_of c.loop-i.invariant (omega arith) c.entry_of-op.ensures c.labels-all.ensures.value c.members-m.ensures.value r.free_bound r.by_index
    r.fits_value c.past_fits.ensures)
    c.if-not-fits-past_fits.true)

pub loop-i-preserved : goal.loop-i-preserved
loop-i-preserved c =
    let r = c.row_of-fits.ensures in
    let t = c.loop-i.t in
    let same = c.entry_of-op.ensures.op-is in
    scanning_more
    (turn_of c.loop-i.invariant (omega arith) c.entry_of-op.ensures c.labels-all.ensures.value c.members-m.ensures.value r.free_bound r.by_index
    r.fits_value c.past_fits.ensures)
    c.requires.0 c.if-not-fits-past_fits.false c.index_of.result c.counted-t.result
    (c.index_of.ensures ∙ ap (λ (o : ℕ). cond (is_past o) (index_word t c.row_of-fits.result.free) 0) same)
    (c.counted-t.ensures ∙ ap (λ (o : ℕ). cond (is_past o) (suc t) t) same)

pub returns-clause-value : goal.returns-clause-value
unfolding every
returns-clause-value c =
    let l = c.loop-i in
    let T = terms_of c.args.terms.now in
    let end : l.i ≡ T.entries = omega arith in
    (scanning_all T l.masks l.index l.t (subst (λ (i : ℕ). Scanning T l.masks l.index l.t i) end l.invariant)).0
