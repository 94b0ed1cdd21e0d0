use mathlib.Core.Path.{◌∙◌}
use Rattle.memory.specs.Layout.{terms_of}
use Rattle.memory.proofs.Accepted.{good}
use Rattle.deciding.proofs.MomentSteps.{movable, readied, asked}
use Rattle.moments.proofs.moment.is_so.Goals as goal

pub invariant_of-present : goal.invariant_of-present
invariant_of-present c =
    let x = c.args in
    let t = c.requires.terms_words_in_bounds in
    let m = c.requires.state_words_in_bounds in
    record { ready = readied (movable x.terms.now x.index.now x.state.now t.0 t.1 t.2 m.0 m.1) }

pub returns : goal.returns
returns c =
    let x = c.args in
    let m = c.requires.state_words_in_bounds in
    let b = c.requires.bound in
    c.settle.ensures ∙ asked (terms_of x.terms.now) (good x.terms.now c.requires.terms_words_in_bounds.1) x.state.now m.0 m.1 x.entry x.u x.v b.0 b.1 b.2
