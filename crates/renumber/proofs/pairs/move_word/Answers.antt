use Rattle.std.proofs.Common.{Bool, ◌||◌, ℕ, ◌≡◌, ◌+◌, ◌*◌, ◌/◌, ◌%◌, get_or, refl, ap, subst, ◌∙◌, arith}
use Rattle.sets.specs.Sets.{bit}
use Rattle.sets.proofs.Shifts.{in_quarter}
use Rattle.theory.specs.NewNumbers.{new_number}
use Rattle.renumber.specs.private.PairRows.{Gone}
use Rattle.renumber.proofs.PairRows as rows
use Rattle.renumber.proofs.pairs.move_word.Goals as goal

pub loop-q-init : goal.loop-q-init
loop-q-init c =
    let x = c.args in
    let e : 16 * x.a + 4 * x.j ≡ 16 * x.a + 4 * x.j + 0 = omega arith in
    subst (Gone (new_number x.all.now) (λ a. get_or x.from.now a 0) x.into.now) e c.requires.gone

-- The word that gets the row.
pub bounds-into-k : goal.bounds-into-k
bounds-into-k c =
    let place = rows.place_below (new_number c.args.all.now) c.requires.bytes.1 c.args.a c.args.j c.loop-q.q _ _ c.requires.from_len.1 c.requires.from_len.2
    (omega arith) c.number_of-at.ensures.value c.number_of-b.ensures.value in
    omega (arith, place, c.loop-q.invariant.long)

pub loop-q-preserved : goal.loop-q-preserved
loop-q-preserved c =
    let x = c.args in
    let l = c.loop-q in
    let p : ℕ → ℕ = new_number x.all.now in
    let e : 16 * x.a + 4 * x.j + l.q + 1 ≡ 16 * x.a + 4 * x.j + (l.q + 1) = omega arith in
    subst (Gone p (λ a. get_or x.from.now a 0) _) e
    (rows.gone_more p c.requires.bytes.1 (λ a. get_or x.from.now a 0) l.into (16 * x.a + 4 * x.j + l.q) x.a x.j l.q
    c.number_of-at.result c.number_of-b.result _ c.quarter.result c.spread_part-row.result c.with_quarter.result
    l.invariant (omega arith) (omega arith) (omega arith) refl c.number_of-at.ensures.value c.number_of-b.ensures.value refl
    c.quarter.ensures (rows.first_part p _ _ (c.spread_part-row.ensures p c.requires.bytes.0))
    (λ m. c.with_quarter.ensures m
    ∙ ap (λ (y : Bool). bit (get_or l.into (4 * c.number_of-at.result + c.number_of-b.result / 4) 0) m || y)
    (in_quarter (c.number_of-b.result % 4) m (bit c.spread_part-row.result (m % 16)) (omega arith))))

pub returns : goal.returns
returns c =
    let x = c.args in
    let e : 16 * x.a + 4 * x.j + c.loop-q.q ≡ 16 * x.a + 4 * x.j + 4 = omega arith in
    subst (Gone (new_number x.all.now) (λ a. get_or x.from.now a 0) c.loop-q.into) e c.loop-q.invariant
