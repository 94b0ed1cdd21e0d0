use Rattle.std.proofs.Common.{List, ℕ, ◌≡◌, ◌+◌, ◌*◌, ◌<◌, Bool, true, cond, arith}
use lib.Dec.{eqb}
use Rattle.memory.specs.Layout.{terms_of}
use Rattle.memory.specs.Checks.{good_memory}
use Rattle.memory.proofs.Accepted.{good}
use Rattle.deciding.proofs.MomentSteps.{end_member}
use Rattle.deciding.proofs.Apart.{effect_apart}
use Rattle.moments.proofs.effects.make_effect.Goals as goal

-- The row's place in the relations.
place : (w : List ℕ) (back : Bool) (from to : ℕ) {i k e : ℕ} → good_memory w ≡ true → from < (terms_of w).members → to < (terms_of w).members → i < (terms_of w).relations →
    k ≡ i → e ≡ cond back to from → 64 * k + e < 1024
place w back from to g f t l is end =
    omega (arith, is, end, end_member (terms_of w).members back t f, l, (good w g).few_members, (good w g).few_relations)

pub overflow_add-i : goal.overflow_add-i
overflow_add-i c =
    let t = c.requires.terms_value in
    let f = c.requires.from_bound in
    omega (arith, place c.args.terms.now _ c.args.from c.args.to t.0 f.0 f.1 t.2 c.word.ensures.value c.end.ensures)

pub offset_bounds-relations-i : goal.offset_bounds-relations-i
offset_bounds-relations-i c =
    let t = c.requires.terms_value in
    let f = c.requires.from_bound in
    omega (arith, place c.args.terms.now _ c.args.from c.args.to t.0 f.0 f.1 t.2 c.word.ensures.value c.end.ensures)

pub bounds-relations-i : goal.bounds-relations-i
bounds-relations-i c =
    let t = c.requires.terms_value in
    let f = c.requires.from_bound in
    omega (arith, place c.args.terms.now _ c.args.from c.args.to t.0 f.0 f.1 t.2 c.word.ensures.value c.end.ensures, f.2)

pub changed-requires : goal.changed-requires
changed-requires c =
    let w = c.args.terms.now in
    let member = end_member (terms_of w).members (eqb c.word-back.result 1) c.requires.from_bound.0 c.requires.from_bound.1 in
    omega (arith, c.end-2.ensures, member, (good w c.requires.terms_value.0).few_members)

pub offset_bounds-relations-i-2 : goal.offset_bounds-relations-i-2
offset_bounds-relations-i-2 c =
    let t = c.requires.terms_value in
    let f = c.requires.from_bound in
    omega (arith, place c.args.terms.now _ c.args.from c.args.to t.0 f.0 f.1 t.2 c.word.ensures.value c.end.ensures)

pub bounds-relations-i-2 : goal.bounds-relations-i-2
bounds-relations-i-2 c =
    let t = c.requires.terms_value in
    let f = c.requires.from_bound in
    omega (arith, place c.args.terms.now _ c.args.from c.args.to t.0 f.0 f.1 t.2 c.word.ensures.value c.end.ensures, f.2)

pub returns : goal.returns
returns c own =
    let x = c.args in
    let w = x.terms.now in
    let t = c.requires.terms_value in
    let f = c.requires.from_bound in
    rw (c.end.ensures, c.word-back.ensures.value, c.word.ensures.value)
    (effect_apart w (good w t.0) x.relations.now own f.2 x.at x.from x.to t.2 f.0 f.1 c.changed.result
    (λ b. rw (c.end.ensures, c.end-2.ensures, c.word-back.ensures.value, c.word.ensures.value, c.word-2.ensures.value) at (c.changed.ensures b)))
