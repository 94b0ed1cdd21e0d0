-- The set of an entry is below 2 where no variable but 0 is free in it.
use Rattle.std.proofs.Common.{◌≡◌, ◌&&◌, ltb, get_or, arith}
use mathlib.Core.Path.{ap, ◌∙◌}
use Rattle.sets.proofs.Finite.{and-true}
use Rattle.theory.specs.Terms.{formula}
use Rattle.theory.specs.Fit.{only_free}
use Rattle.memory.specs.Layout.{terms_of}
use Rattle.memory.proofs.Scanning.{policy_set}
use Rattle.memory.proofs.check_terms.is_askable.Goals as goal

pub returns : goal.returns
returns c =
    let w = c.args.terms.now in
    let masks = c.args.masks.now in
    let p = c.args.n in
    let same : ltb p c.entries.result && ltb c.set_at.result 2 ≡ ltb p (terms_of w).entries && ltb (get_or masks p 0) 2 = cc in
    same ∙ policy_set (terms_of w) masks p (omega (arith, c.set_at.type_inv)) c.requires.0 c.requires.1
    ∙ ap (◌&&◌ (ltb p (terms_of w).entries)) (and-true (only_free 0 (formula (terms_of w) p)))
