-- In the other bank, too, the relations get the effects if the request is granted.
use Rattle.std.proofs.Common.{◌≡◌, List, ◌++◌, ℕ, length, rules, sym, refl}
use mathlib.Core.Path.{subst}
use Rattle.theory.specs.Moment.Event.{none}
use Rattle.memory.specs.Layout.{relation_words}
use Rattle.memory.proofs.Accepted.{good}
use Rattle.deciding.specs.private.Moving.{Becomes}
use Rattle.deciding.proofs.Apart.{event_apart}
use Rattle.moments.proofs.Hushed.{affected_if, made_effects, no_effects, hushed_by}
use Rattle.moments.proofs.beside.enter.Goals as goal
use Rattle.moments.proofs.beside.enter.Goals.{then-granted, else-granted}

pub returns-clause-becomes_2 : goal.returns-clause-becomes_2
returns-clause-becomes_2 c =
    let x = c.args in
    let long : length c.if-granted.relations ≡ relation_words = search rules in
    let P = λ (r : List ℕ). Becomes x.terms.now (affected_if x.granted x.event x.from x.to) (x.relations.now ++ x.other.now) (r ++ x.other.now) in
    let made : P c.if-granted.relations =
    elim c.if-granted.branch [
      | then-granted w ↦ subst P (sym w.relations-is) (made_effects x.event x.from x.to w.if-granted.true (w.make_effects.ensures x.other.now))
      | else-granted w ↦ subst P (sym w.relations-is) (no_effects x.event x.from x.to w.if-granted.false)
    ] in
    hushed_by x.granted x.event x.from x.to made
    (event_apart x.terms.now (good x.terms.now c.requires.terms_value.0) c.if-granted.relations x.other.now long none refl)
