use Rattle.std.proofs.Common.{arith}
use Rattle.deciding.proofs.SettlingNotOr as settled
use Rattle.deciding.proofs.Remembering as rem
use Rattle.decide.proofs.queries.+settle.Goals as goal

pub settle-requires : goal.settle-requires
settle-requires t c =
    let x = c.args in
    let l = settled.neg_lower x.present.now.terms.now c.args.present.now.ready.good x.entry c.requires.bound.0 c.decreases c.op_of-op.ensures.value c.first_of-a.ensures.value c.if-op-eq-NOT.true in
    (l.falls, (l.exists, c.requires.bound.1, c.requires.bound.2))

pub returns-then-op-eq-NOT : goal.returns-then-op-eq-NOT
returns-then-op-eq-NOT t c =
    let x = c.args in
    settled.neg_settled x.present.now.terms.now c.args.present.now.ready.good x.entry c.requires.bound.0 x.present.now.relations.now x.present.now.past.now x.u x.v c.op_of-op.ensures.value c.first_of-a.ensures.value c.if-op-eq-NOT.true c.settle.ensures

pub settle-requires-then-op-eq-OR : goal.settle-requires-then-op-eq-OR
settle-requires-then-op-eq-OR t c =
    let x = c.args in
    let l = settled.or_first_lower x.present.now.terms.now c.args.present.now.ready.good x.entry c.requires.bound.0 c.decreases c.op_of-op.ensures.value c.first_of-a.ensures.value c.if-op-eq-OR.true in
    (l.falls, (l.exists, c.requires.bound.1, c.requires.bound.2))

pub returns-then-settle : goal.returns-then-settle
returns-then-settle t c =
    let x = c.args in
    settled.or_first x.present.now.terms.now c.args.present.now.ready.good x.entry c.requires.bound.0 x.present.now.relations.now x.present.now.past.now x.u x.v c.op_of-op.ensures.value c.first_of-a.ensures.value c.if-op-eq-OR.true c.settle-then-op-eq-OR.ensures c.if-settle.true

pub settle-requires-then-op-eq-OR-2 : goal.settle-requires-then-op-eq-OR-2
settle-requires-then-op-eq-OR-2 t c =
    let x = c.args in
    let l = settled.or_second_lower x.present.now.terms.now c.args.present.now.ready.good x.entry c.requires.bound.0 c.decreases c.op_of-op.ensures.value c.second_of.ensures.value c.if-op-eq-OR.true in
    (l.falls, (l.exists, c.requires.bound.1, c.requires.bound.2))

pub returns-then-op-eq-OR : goal.returns-then-op-eq-OR
returns-then-op-eq-OR t c =
    let x = c.args in
    settled.or_second x.present.now.terms.now c.args.present.now.ready.good x.entry c.requires.bound.0 x.present.now.relations.now x.present.now.past.now x.u x.v c.op_of-op.ensures.value c.first_of-a.ensures.value c.second_of.ensures.value c.if-op-eq-OR.true c.settle-then-op-eq-OR.ensures c.if-settle.false c.settle-then-op-eq-OR-2.ensures

pub holds_at-requires-clause-memo : goal.holds_at-requires-clause-memo
holds_at-requires-clause-memo t c = rem.no_slots _ (omega arith)
