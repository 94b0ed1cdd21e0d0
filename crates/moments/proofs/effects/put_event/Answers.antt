use Rattle.std.proofs.Common.{◌≡◌, ℕ, ◌+◌, ◌*◌, ◌++◌, Bool, true, false, cond, arith, refl, sym, ap}
use mathlib.Core.Path.{◌∙◌, subst}
use lib.ListN.{set}
use Rattle.theory.specs.Terms.{Terms}
use Rattle.theory.specs.Tables.{named}
use Rattle.memory.specs.Layout.{terms_of, event_word}
use Rattle.memory.proofs.Accepted.{good}
use Rattle.deciding.specs.private.Moving.{known, occurring, Becomes, evented}
use Rattle.deciding.proofs.SameDecision.{all_named}
use Rattle.deciding.proofs.Apart.{event_apart}
use Rattle.moments.proofs.effects.put_event.Goals as goal

-- The word that holds the event, and what it names.
word-is : (g : Bool) (j u v : ℕ) → 1 + cond g j (16 + j) * 4096 + u * 64 + v ≡ event_word (occurring g j u v)
word-is true j u v = refl
word-is false j u v = refl

names : (T : Terms) (g : Bool) (j u v : ℕ) → named T j u v ≡ true → known T (occurring g j u v) ≡ true
names T true j u v e = e
names T false j u v e = e

pub held-number-requires : goal.held-number-requires
held-number-requires c =
    let x = c.args in
    (all_named (terms_of x.terms.now) (good x.terms.now c.requires.0) x.event x.from x.to c.requires.1).small.0

pub overflow_mul-own-2 : goal.overflow_mul-own-2
overflow_mul-own-2 c =
    let x = c.args in
    omega (arith, (all_named (terms_of x.terms.now) (good x.terms.now c.requires.0) x.event x.from x.to c.requires.1).small)

pub overflow_add-own-2 : goal.overflow_add-own-2
overflow_add-own-2 c =
    let x = c.args in
    omega (arith, c.held-number.ensures.1, (all_named (terms_of x.terms.now) (good x.terms.now c.requires.0) x.event x.from x.to c.requires.1).small)

pub overflow_add-own-3 : goal.overflow_add-own-3
overflow_add-own-3 c =
    let x = c.args in
    omega (arith, c.held-number.ensures.1, (all_named (terms_of x.terms.now) (good x.terms.now c.requires.0) x.event x.from x.to c.requires.1).small)

pub returns : goal.returns
returns c relations long =
    let x = c.args in
    let e = ap (λ (n : ℕ). 1 + n * 4096 + x.from * 64 + x.to) c.held-number.ensures.0 ∙ word-is x.granted x.event x.from x.to in
    subst
    (λ (n : ℕ). Becomes x.terms.now (evented (occurring x.granted x.event x.from x.to)) (relations ++ x.own.now) (relations ++ set x.own.now 2048 n))
    (sym e)
    (event_apart x.terms.now (good x.terms.now c.requires.0) relations x.own.now long (occurring x.granted x.event x.from x.to)
    (names (terms_of x.terms.now) x.granted x.event x.from x.to c.requires.1))
