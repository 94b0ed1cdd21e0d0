-- The first key below the limit that is this one: none before it is.
use Rattle.std.proofs.Common.{◌≡◌, ℕ, eqb, get_or, sym, Bool, arith}
use native.Mathlib.Numerals.{add-one}
use mathlib.Core.Path.{refl, subst}
use mathlib.Core.List.{List}
use borrow.Author.Tests.{eq-eqb, ne_eqb}
use Rattle.theory.specs.Formula.{lowest}
use Rattle.theory.proofs.Lowest.{lowest_hit, lowest_miss}
use Rattle.classes.proofs.first_same.Goals as goal

abbrev same : (keys : List ℕ) → (key j : ℕ) → Bool
same keys key j = eqb (get_or keys j 0) key

pub loop-k-init : goal.loop-k-init
unfolding lowest
loop-k-init c = refl

pub loop-k-preserved : goal.loop-k-preserved
loop-k-preserved c =
    let l = c.loop-k in
    let p : ℕ → Bool = same c.args.keys.now c.args.key in
    subst (λ (j : ℕ). lowest j p ≡ j) (sym (add-one l.k)) (lowest_miss p l.k l.invariant (ne_eqb _ _ c.if-keys-k.false))

pub returns-then-keys-k : goal.returns-then-keys-k
returns-then-keys-k c =
    let l = c.loop-k in
    let a = c.args in
    (sym (lowest_hit (same a.keys.now a.key) l.k l.invariant a.limit (omega arith) (eq-eqb _ _ c.if-keys-k.true)), omega arith)

pub returns : goal.returns
returns c =
    let l = c.loop-k in
    let a = c.args in
    let p : ℕ → Bool = same a.keys.now a.key in
    let e : l.k ≡ a.limit = omega arith in
    (sym (subst (λ (j : ℕ). lowest j p ≡ j) e l.invariant), omega arith)
