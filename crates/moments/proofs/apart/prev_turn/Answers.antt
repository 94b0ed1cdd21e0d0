use Rattle.std.proofs.Common.{arith, sym}
use mathlib.Core.Path.{◌∙◌}
use lib.Dec.{eqb}
use Rattle.memory.specs.Layout.{terms_of}
use Rattle.theory.specs.Moment.{graph}
use Rattle.theory.specs.Tables.{prev_bits}
use Rattle.deciding.proofs.MomentSteps as moves
use Rattle.deciding.proofs.MemoInSweep as steps
use Rattle.deciding.proofs.Apart as parts
use Rattle.moments.proofs.apart.prev_turn.Goals as goal

pub invariant_of-present : goal.invariant_of-present
invariant_of-present c =
    let m = c.requires.movable in
    record { ready = parts.ready_apart c.args.relations.now c.args.own.now m.0 m.1 m.2 }

pub prev_table-requires-clause-memo : goal.prev_table-requires-clause-memo
prev_table-requires-clause-memo c =
    let x = c.args in
    let m = c.requires.movable in
    parts.memo_apart x.relations.now x.own.now m.0 m.1 m.2 x.n x.memo.now c.requires.memo_of

pub put_table-requires : goal.put_table-requires
put_table-requires c =
    let m = c.requires.movable in
    let op = sym c.op_of.ensures.value ∙ c.if-op_of-eq-PREV.true in
    (omega (arith, moves.own_fits m.0 c.args.n c.requires.n_bound.0 (rw op), m.2), c.prev_table.ensures.table.long)

pub returns-then-op_of-eq-PREV : goal.returns-then-op_of-eq-PREV
returns-then-op_of-eq-PREV c =
    let x = c.args in
    let T = terms_of x.terms.now in
    let m = c.requires.movable in
    let op = sym c.op_of.ensures.value ∙ c.if-op_of-eq-PREV.true in
    let turned = parts.prev_apart x.relations.now x.own.now m.0 m.1 m.2 x.n c.requires.n_bound.0 c.prev_table.new.out c.put_table.ensures op c.prev_table.ensures.table in
    let kept = parts.memo_joined x.relations.now x.own.now m.0 m.1 m.2 x.n _ c.prev_table.ensures.grown.memo in
    record {
      becomes = turned;
      memo_of_2 = steps.memo_step T (moves.fine m.0) x.n (let l = c.requires.n_bound.0 in omega arith) (prev_bits T (graph T m.0.state.now) x.n m.0.state.table) (eqb (T.entry x.n).op 6) m.0.has
          (turned.each m.0.state m.0.rest m.0.has) kept;
    }

pub returns-else-op_of-eq-PREV : goal.returns-else-op_of-eq-PREV
returns-else-op_of-eq-PREV c = record {
  becomes = moves.prev_stays c.requires.movable.0 c.args.n c.requires.n_bound.0 (λ e. c.if-op_of-eq-PREV.false (c.op_of.ensures.value ∙ e));
  memo_of_2 = c.requires.memo_of;
}
