use Rattle.std.proofs.Common.{ℕ, ◌+◌, ◌*◌, ◌≤◌, ◌-◌, sym, refl, ◌∙◌, take, drop, arith}
use Rattle.sets.proofs.Finite.{not_both}
use Rattle.theory.specs.NewNumbers.{new_number}
use Rattle.renumber.proofs.PairRows as rows
use Rattle.renumber.proofs.Placing as placing
use Rattle.renumber.proofs.move_blocks.Goals as goal
use Rattle.renumber.proofs.move_blocks.Goals.{then-has, else-has}

pub loop-b-init : goal.loop-b-init
loop-b-init c = placing.moved_none _ _ _ _

pub loop-b-preserved : goal.loop-b-preserved
loop-b-preserved c =
    let l = c.loop-b in
    let x = c.args in
    let k : ℕ = 64 * l.b in
    let room : k + 64 ≤ 3072 = omega arith in
    let long = c.requires.state_words_in_bounds in
    let more = placing.moved_more (new_number x.all.now) c.requires.bytes.1 x.two x.state.now x.second.now l.second (take (k + 64 - k) (drop k x.state.now)) in
    let same = rows.part_word x.state.now k (omega (arith, long.0)) in
    elim c.if-has.branch [
      | then-has w ↦ rw w.second-is
          (more _ l.b k (omega arith) refl long.1 same w.move_table.ensures.long
          (λ one. absurd (not_both _ (sym c.has.ensures ∙ w.if-has.true) one)) (λ _. w.move_table.ensures) l.invariant)
      | else-has w ↦ rw w.second-is
          (more _ l.b k (omega arith) refl long.1 same w.move_rows.ensures.long
          (λ _. w.move_rows.ensures) (λ two. absurd (not_both _ two (sym c.has.ensures ∙ w.if-has.false))) l.invariant)
    ]
