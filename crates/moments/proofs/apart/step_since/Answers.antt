use Rattle.std.proofs.Common.{arith}
use lib.Dec.{eqb}
use Rattle.memory.specs.Layout.{terms_of}
use Rattle.theory.specs.Moment.{graph}
use Rattle.theory.specs.Tables.{since_bits}
use Rattle.deciding.proofs.MomentSteps as moves
use Rattle.deciding.proofs.MemoInSweep as steps
use Rattle.deciding.proofs.Remembering as rem
use Rattle.deciding.proofs.Apart as parts
use Rattle.moments.proofs.apart.step_since.Goals as goal

pub invariant_of-present : goal.invariant_of-present
invariant_of-present c =
    let m = c.requires.movable in
    record { ready = parts.ready_apart c.args.relations.now c.args.own.now m.0 m.1 m.2 }

pub since_table-requires-clause-memo : goal.since_table-requires-clause-memo
since_table-requires-clause-memo c =
    let x = c.args in
    let m = c.requires.movable in
    parts.memo_apart x.relations.now x.own.now m.0 m.1 m.2 x.n x.memo.now (rem.memo_lower (let l = c.requires.n_bound.0 in omega arith) c.requires.memo_of.0)

pub put_table-requires : goal.put_table-requires
put_table-requires c =
    let m = c.requires.movable in
    let op = c.requires.op in
    (omega (arith, moves.own_fits m.0 c.args.n c.requires.n_bound.0 (rw op), m.2), c.since_table.ensures.table.long)

pub returns : goal.returns
returns c =
    let x = c.args in
    let T = terms_of x.terms.now in
    let m = c.requires.movable in
    let op = c.requires.op in
    let turned = parts.since_apart x.relations.now x.own.now m.0 m.1 m.2 x.n c.requires.n_bound.0 c.since_table.new.out c.put_table.ensures op c.since_table.ensures.table in
    let memo = parts.memo_apart x.relations.now x.own.now m.0 m.1 m.2 T.entries x.memo.now c.requires.memo_of.0 in
    let grown = parts.memo_joined x.relations.now x.own.now m.0 m.1 m.2 T.entries _ (rem.grown_up (omega arith) memo c.since_table.ensures.grown).memo in
    let fresh = steps.fresh_above c.requires.memo_of.1 c.since_table.ensures.grown.above in
    record {
      becomes = turned;
      memo_of_2 = (
        steps.memo_step_all T (moves.fine m.0) x.n (let l = c.requires.n_bound.0 in omega arith) (since_bits T (graph T m.0.state.now) x.n m.0.state.table) (eqb (T.entry x.n).op 7) m.0.has
            (turned.each m.0.state m.0.rest m.0.has) grown fresh,
        fresh,
      );
    }
