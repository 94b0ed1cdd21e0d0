-- `decide` calls `work_out` on the same entry, and `work_out` calls `decide` on its operands.
use Rattle.std.proofs.Common.{◌≡◌, ℕ, ◌+◌, ◌*◌, ◌<◌, ◌≤◌, true, ◌&&◌, eqb, ltb, List, arith}
use mathlib.Core.Path.{refl, sym, ap, ◌∙◌, subst}
use borrow.Author.Tests.{eq-eqb}
use Rattle.sets.proofs.Finite.{or_left, or_right}
use Rattle.sets.proofs.MemberLoop.{turn_of, taken_small, taken_wanted}
use Rattle.theory.specs.Formula.{is_past}
use Rattle.memory.proofs.Accepted.{good}
use Rattle.deciding.specs.private.Rows.{assigned}
use Rattle.deciding.proofs.Loops as loops
use Rattle.deciding.proofs.Counting as counting
use Rattle.deciding.proofs.AtEntry as sites
use Rattle.deciding.proofs.Operators as ops
use Rattle.deciding.proofs.Neighbours as near
use Rattle.deciding.proofs.Remembering as rem
use Rattle.decide.proofs.decide.+decide_work_out.Goals.{work_out-After-mask-all}
use Rattle.decide.proofs.decide.+decide_work_out.Goals as goal

-- Where `work_out` has read its entry.
site : (t : ℕ) (c : work_out-After-mask-all t)
    → sites.Site c.args.present.now.terms.now c.args.present.now.index.now c.args.present.now.relations.now c.args.present.now.past.now (assigned c.args.vars) c.args.x c.args.entry c.args.want
    c.op_of-op.result c.first_of-a.result c.second_of-b.result c.relations-r.result c.mask-all.result
site t c = record {
  ready = c.args.present.now.ready;
  asked = c.requires.rows_asked;
  o_is = c.op_of-op.ensures.value;
  a-is = c.first_of-a.ensures.value;
  b-is = c.second_of-b.ensures.value;
  r-is = c.relations-r.ensures.value;
  all-is = sites.mask_is c.args.present.now.ready c.mask-all.result c.members.result c.mask-all.ensures c.members.ensures.value;
}

-- The past-time operators.
is-prev : (o : ℕ) → o ≡ 6 → is_past o ≡ true
is-prev o e = or_left (eqb o 6) (eqb o 7) (eq-eqb o 6 e)

is-since : (o : ℕ) → o ≡ 7 → is_past o ≡ true
is-since o e = or_right (eqb o 6) (eqb o 7) (eq-eqb o 7 e)

lower : (f entry t : ℕ) → 2 * entry ≡ t → f < entry → 2 * f + 1 < t
lower f entry t e l = omega arith

less : (entry t : ℕ) → 2 * entry + 1 ≡ t → 2 * entry < t
less entry t e = omega arith

below : (f entry : ℕ) → f < entry → f + 1 ≤ entry
below f entry l = omega arith

-- What a variable stands for.
member-small : {terms index rel past : List ℕ} {g : ℕ → ℕ} {x i want o a b r all : ℕ} (s : sites.Site terms index rel past g x i want o a b r all) (m : ℕ)
    → m ≡ g a → a < 16 → m < 64
member-small {a = a} s m e l = subst (λ (y : ℕ). y < 64) (sym e) (sites.var_below s a l)

pub decide-slot_for-slot-requires : goal.decide-slot_for-slot-requires
decide-slot_for-slot-requires t c =
    sites.entry_short c.args.present.now.ready _ c.requires.rows_asked.exists

pub decide-work_out-requires : goal.decide-work_out-requires
decide-work_out-requires t c =
    let miss = c.missing-need in (
      less _ t c.decreases,
      (
        sites.asked_fewer miss.result c.requires.rows_asked (rem.needed (assigned c.args.vars) c.args.x c.args.want miss.result c.args.memo.now miss.new.memo c.slot_for-slot.result miss.ensures),
        (
          c.requires.out_len,
          rem.memo_below (assigned c.args.vars) c.args.x c.args.want miss.result c.args.entry c.args.memo.now miss.new.memo c.slot_for-slot.result c.slot_for-slot.ensures c.requires.memo miss.ensures,
        ),
      ),
    )

pub decide-returns-clause-rows : goal.decide-returns-clause-rows
decide-returns-clause-rows t c =
    let x = c.args in
    let miss = c.missing-need in
    (rem.decided (assigned x.vars) x.x x.want miss.result x.entry x.memo.now miss.new.memo c.mask-all.result c.work_out.new.memo c.keep.new.memo c.work_out.new.out c.keep.new.out c.slot_for-slot.result
    (good x.present.now.terms.now c.args.present.now.ready.good).few_members
    (sites.mask_is c.args.present.now.ready c.mask-all.result c.members.result c.mask-all.ensures c.members.ensures.value)
    c.requires.rows_asked.vars c.requires.rows_asked.wanted c.slot_for-slot.ensures c.requires.memo miss.ensures c.work_out.ensures.rows c.work_out.ensures.grown c.keep.ensures).0

pub decide-returns-clause-grown : goal.decide-returns-clause-grown
decide-returns-clause-grown t c =
    let x = c.args in
    let miss = c.missing-need in
    (rem.decided (assigned x.vars) x.x x.want miss.result x.entry x.memo.now miss.new.memo c.mask-all.result c.work_out.new.memo c.keep.new.memo c.work_out.new.out c.keep.new.out c.slot_for-slot.result
    (good x.present.now.terms.now c.args.present.now.ready.good).few_members
    (sites.mask_is c.args.present.now.ready c.mask-all.result c.members.result c.mask-all.ensures c.members.ensures.value)
    c.requires.rows_asked.vars c.requires.rows_asked.wanted c.slot_for-slot.ensures c.requires.memo miss.ensures c.work_out.ensures.rows c.work_out.ensures.grown c.keep.ensures).1

pub work_out-returns-then-want-eq0-clause-rows : goal.work_out-returns-then-want-eq0-clause-rows
work_out-returns-then-want-eq0-clause-rows t c =
    loops.no_rows _ c.if-want-eq0.true c.requires.out_len

pub work_out-returns-then-op-eq-TOP-clause-rows : goal.work_out-returns-then-op-eq-TOP-clause-rows
work_out-returns-then-op-eq-TOP-clause-rows t c =
    let s = site t (goal.at.work_out-returns-then-op-eq-TOP-clause-rows t c).After-mask-all in
    ops.decide_top s c.if-op-eq-TOP.true c.spread.ensures

pub work_out-member_of-requires : goal.work_out-member_of-requires
work_out-member_of-requires t c =
    let s = site t (goal.at.work_out-member_of-requires t c).After-mask-all in
    sites.a_variable s 1 c.if-op-eq-VAR.true refl

pub work_out-alone-requires : goal.work_out-alone-requires
work_out-alone-requires t c =
    let s = site t (goal.at.work_out-alone-requires t c).After-mask-all in
    (c.requires.out_len, member-small s _ c.member_of.ensures (sites.a_variable s 1 c.if-op-eq-VAR.true refl))

pub work_out-returns-then-a-x-clause-rows : goal.work_out-returns-then-a-x-clause-rows
work_out-returns-then-a-x-clause-rows t c =
    let s = site t (goal.at.work_out-returns-then-a-x-clause-rows t c).After-mask-all in
    ops.decide_var_open s c.if-op-eq-VAR.true c.if-a-x.true c.diagonal.ensures

pub work_out-returns-else-a-x-clause-rows : goal.work_out-returns-else-a-x-clause-rows
work_out-returns-else-a-x-clause-rows t c =
    let s = site t (goal.at.work_out-returns-else-a-x-clause-rows t c).After-mask-all in
    ops.decide_var s c.member_of.result c.if-op-eq-VAR.true c.if-a-x.false c.member_of.ensures (c.alone.auto.out ∙ c.requires.out_len) c.alone.ensures

pub work_out-recollect-requires-clause-recalled : goal.work_out-recollect-requires-clause-recalled
work_out-recollect-requires-clause-recalled t c =
    let s = site t (goal.at.work_out-recollect-requires-clause-recalled t c).After-mask-all in
    ops.recalling s (is-prev _ c.if-op-eq-PREV.true)

pub work_out-returns-then-op-eq-PREV-clause-rows : goal.work_out-returns-then-op-eq-PREV-clause-rows
work_out-returns-then-op-eq-PREV-clause-rows t c =
    let s = site t (goal.at.work_out-returns-then-op-eq-PREV-clause-rows t c).After-mask-all in
    ops.decide_past s (is-prev _ c.if-op-eq-PREV.true) c.recollect.ensures

pub work_out-recollect-requires-then-op-eq-SINCE-clause-recalled : goal.work_out-recollect-requires-then-op-eq-SINCE-clause-recalled
work_out-recollect-requires-then-op-eq-SINCE-clause-recalled t c =
    let s = site t (goal.at.work_out-recollect-requires-then-op-eq-SINCE-clause-recalled t c).After-mask-all in
    ops.recalling s (is-since _ c.if-op-eq-SINCE.true)

pub work_out-returns-then-op-eq-SINCE-clause-rows : goal.work_out-returns-then-op-eq-SINCE-clause-rows
work_out-returns-then-op-eq-SINCE-clause-rows t c =
    let s = site t (goal.at.work_out-returns-then-op-eq-SINCE-clause-rows t c).After-mask-all in
    ops.decide_past s (is-since _ c.if-op-eq-SINCE.true) c.recollect-then-op-eq-SINCE.ensures

pub work_out-decide-requires : goal.work_out-decide-requires
work_out-decide-requires t c =
    let s = site t (goal.at.work_out-decide-requires t c).After-mask-all in
    let q = sites.a_lower s 2 c.if-op-eq-NOT.true refl in
    (lower _ _ t c.decreases q, (sites.operand_same s _ q, (c.requires.out_len, rem.memo_lower (below _ _ q) c.requires.memo)))

pub work_out-returns-then-op-eq-NOT-clause-rows : goal.work_out-returns-then-op-eq-NOT-clause-rows
work_out-returns-then-op-eq-NOT-clause-rows t c =
    let s = site t (goal.at.work_out-returns-then-op-eq-NOT-clause-rows t c).After-mask-all in
    ops.decide_neg s c.if-op-eq-NOT.true c.decide.ensures.rows c.flip.auto.out c.flip.ensures

pub work_out-returns-then-op-eq-NOT-clause-grown : goal.work_out-returns-then-op-eq-NOT-clause-grown
work_out-returns-then-op-eq-NOT-clause-grown t c =
    let s = site t (goal.at.work_out-returns-then-op-eq-NOT-clause-grown t c).After-mask-all in
    rem.grown_up (below _ _ (sites.a_lower s 2 c.if-op-eq-NOT.true refl)) c.requires.memo c.decide.ensures.grown

pub work_out-returns-then-op-is_absent-clause-rows : goal.work_out-returns-then-op-is_absent-clause-rows
work_out-returns-then-op-is_absent-clause-rows t c =
    let s = site t (goal.at.work_out-returns-then-op-is_absent-clause-rows t c).After-mask-all in
    near.decide_absent s c.is_absent.result c.if-op-is_absent.true (rw c.event_of-event.ensures at c.is_absent.ensures) c.clear.ensures

pub work_out-decide-requires-in-3 : goal.work_out-decide-requires-in-3
work_out-decide-requires-in-3 t c =
    let s = site t (goal.at.work_out-decide-requires-in-3 t c).After-mask-all in
    let q = sites.a_lower s 3 c.in-3.is refl in
    (lower _ _ t c.decreases q, (sites.operand_same s _ q, (c.requires.out_len, rem.memo_lower (below _ _ q) c.requires.memo)))

pub work_out-decide-requires-in-3-2 : goal.work_out-decide-requires-in-3-2
work_out-decide-requires-in-3-2 t c =
    let s = site t (goal.at.work_out-decide-requires-in-3-2 t c).After-mask-all in
    let g = rem.grown_up (below _ _ (sites.a_lower s 3 c.in-3.is refl)) c.requires.memo c.decide-in-3.ensures.grown in
    let q = sites.b_lower s 3 c.in-3.is refl in
    (lower _ _ t c.decreases q, (sites.operand_same s _ q, (refl, rem.memo_lower (below _ _ q) g.memo)))

pub work_out-ahead-need-requires : goal.work_out-ahead-need-requires
work_out-ahead-need-requires t c =
    let s = site t (goal.at.work_out-ahead-need-requires t c).After-mask-all in
    (sites.few_relations s, s.ready.long_rel)

pub work_out-decide-requires-in-4 : goal.work_out-decide-requires-in-4
work_out-decide-requires-in-4 t c =
    let s = site t (goal.at.work_out-decide-requires-in-4 t c).After-mask-all in
    let q = sites.ahead_lower s c.in-4.is in
    (lower _ _ t c.decreases q, (sites.operand_ahead s _ _ c.in-4.is (rw c.event_of-event.ensures at c.ahead-need.ensures), (refl, rem.memo_lower (below _ _ q) c.requires.memo)))

pub work_out-gather-requires : goal.work_out-gather-requires
work_out-gather-requires t c =
    let s = site t (goal.at.work_out-gather-requires t c).After-mask-all in
    (c.requires.out_len, c.decide-in-4.ensures.rows.long, sites.few_relations s, s.ready.long_rel)

pub work_out-behind-need-requires : goal.work_out-behind-need-requires
work_out-behind-need-requires t c =
    let s = site t (goal.at.work_out-behind-need-requires t c).After-mask-all in
    (sites.few_relations s, s.ready.long_rel)

pub work_out-decide-requires-in-5 : goal.work_out-decide-requires-in-5
work_out-decide-requires-in-5 t c =
    let s = site t (goal.at.work_out-decide-requires-in-5 t c).After-mask-all in
    let q = sites.b_lower s 5 c.in-5.is refl in
    (lower _ _ t c.decreases q, (sites.operand_behind s _ _ c.in-5.is (rw c.event_of-event.ensures at c.senders-from-in-5.ensures) (rw c.event_of-event.ensures at c.behind-need.ensures), (refl, rem.memo_lower (below _ _ q) c.requires.memo)))

pub work_out-scatter-requires : goal.work_out-scatter-requires
work_out-scatter-requires t c =
    let s = site t (goal.at.work_out-scatter-requires t c).After-mask-all in
    (c.requires.out_len, c.decide-in-5.ensures.rows.long, sites.few_relations s, s.ready.long_rel)

pub work_out-loop-m-init : goal.work_out-loop-m-init
work_out-loop-m-init t c =
    rw (c.into_iter-m-iterator.ensures.into_iter_gives, c.of-m-items.ensures)
    (record { rows = loops.filling _ (omega arith) c.requires.out_len; grown = rem.grown_same c.requires.memo })

pub work_out-rebind-requires : goal.work_out-rebind-requires
work_out-rebind-requires t c =
    let s = site t (goal.at.work_out-rebind-requires t c).After-mask-all in
    (sites.a_binder s c.in-8.is, taken_small c.in-Some.ensures.steps)

pub work_out-decide-requires-in-loop-m : goal.work_out-decide-requires-in-loop-m
work_out-decide-requires-in-loop-m t c =
    let s = site t (goal.at.work_out-decide-requires-in-loop-m t c).After-mask-all in
    let l = c.loop-m.invariant in
    let q = sites.b_lower s 8 c.in-8.is refl in
    (lower _ _ t c.decreases q, (sites.operand_bound s _ _ _ c.in-8.is (taken_wanted l.rows.upon c.in-Some.ensures.steps) c.rebind.ensures (counting.single-is c.single.result _ c.single.ensures (taken_small c.in-Some.ensures.steps)), (c.single.array_long, rem.memo_lower (below _ _ q) l.grown.memo)))

pub work_out-loop-m-preserved : goal.work_out-loop-m-preserved
work_out-loop-m-preserved t c =
    let s = site t (goal.at.work_out-loop-m-preserved t c).After-mask-all in
    let l = c.loop-m.invariant in
    record {
      rows = loops.filling_more _ l.rows (turn_of l.rows.upon c.in-Some.ensures.steps)
          (ops.bound_row s _ c.single.result _ _ c.in-8.is c.open_under-y.ensures c.rebind.ensures (counting.single-is c.single.result _ c.single.ensures (taken_small c.in-Some.ensures.steps)) c.decide-in-loop-m.ensures.rows);
      grown = rem.grown_then l.grown (rem.grown_up (below _ _ (sites.b_lower s 8 c.in-8.is refl)) l.grown.memo c.decide-in-loop-m.ensures.grown);
    }

pub work_out-decide-requires-in-10 : goal.work_out-decide-requires-in-10
work_out-decide-requires-in-10 t c =
    let s = site t (goal.at.work_out-decide-requires-in-10 t c).After-mask-all in
    let q = sites.b_lower s 10 c.in-10.is refl in
    (lower _ _ t c.decreases q, (sites.operand_zeros s c.in-10.is, (c.requires.out_len, rem.memo_lower (below _ _ q) c.requires.memo)))

pub work_out-decide-requires-in-10-2 : goal.work_out-decide-requires-in-10-2
work_out-decide-requires-in-10-2 t c =
    let s = site t (goal.at.work_out-decide-requires-in-10-2 t c).After-mask-all in
    let g = rem.grown_up (below _ _ (sites.b_lower s 10 c.in-10.is refl)) c.requires.memo c.decide-in-10.ensures.grown in
    let q = sites.c_lower s _ 10 c.third_of-c.ensures.value c.in-10.is refl in
    (lower _ _ t c.decreases q, (ops.reached_asked s _ c.together-need.result c.third_of-c.ensures.value c.in-10.is c.decide-in-10.ensures.rows c.together-need.ensures, (refl, rem.memo_lower (below _ _ q) g.memo)))

pub work_out-decide-requires-then-a-x-2 : goal.work_out-decide-requires-then-a-x-2
work_out-decide-requires-then-a-x-2 t c =
    let s = site t (goal.at.work_out-decide-requires-then-a-x-2 t c).After-mask-all in
    let q = sites.b_lower s 9 c.in-9.is refl in
    (lower _ _ t c.decreases q, (sites.operand_all s _ q, (refl, rem.memo_lower (below _ _ q) c.requires.memo)))

pub work_out-member_of-c-requires : goal.work_out-member_of-c-requires
work_out-member_of-c-requires t c =
    let s = site t (goal.at.work_out-member_of-c-requires t c).After-mask-all in
    sites.a_variable s 9 c.in-9.is refl

pub work_out-decide-requires-else-a-x-2 : goal.work_out-decide-requires-else-a-x-2
work_out-decide-requires-else-a-x-2 t c =
    let s = site t (goal.at.work_out-decide-requires-else-a-x-2 t c).After-mask-all in
    let v = sites.a_variable s 9 c.in-9.is refl in
    let q = sites.b_lower s 9 c.in-9.is refl in
    (lower _ _ t c.decreases q, (sites.operand_one s _ _ _ q v (counting.single-is c.single-else-a-x-2.result _ (λ k. c.single-else-a-x-2.ensures k ∙ ap (λ (y : ℕ). ltb k 64 && eqb k y) c.member_of-c.ensures) (sites.var_below s _ v)), (refl, rem.memo_lower (below _ _ q) c.requires.memo)))

pub work_out-bounds-f-c : goal.work_out-bounds-f-c
work_out-bounds-f-c t c =
    let s = site t (goal.at.work_out-bounds-f-c t c).After-mask-all in
    member-small s _ c.member_of-c.ensures (sites.a_variable s 9 c.in-9.is refl)

pub work_out-returns-in-3-clause-rows : goal.work_out-returns-in-3-clause-rows
work_out-returns-in-3-clause-rows t c =
    let s = site t (goal.at.work_out-returns-in-3-clause-rows t c).After-mask-all in
    ops.decide_or s c.in-3.is c.decide-in-3.ensures.rows c.decide-in-3-2.ensures.rows c.join.auto.out c.join.ensures

pub work_out-returns-in-3-clause-grown : goal.work_out-returns-in-3-clause-grown
work_out-returns-in-3-clause-grown t c =
    let s = site t (goal.at.work_out-returns-in-3-clause-grown t c).After-mask-all in
    let g = rem.grown_up (below _ _ (sites.a_lower s 3 c.in-3.is refl)) c.requires.memo c.decide-in-3.ensures.grown in
    rem.grown_then g (rem.grown_up (below _ _ (sites.b_lower s 3 c.in-3.is refl)) g.memo c.decide-in-3-2.ensures.grown)

pub work_out-returns-in-4-clause-rows : goal.work_out-returns-in-4-clause-rows
work_out-returns-in-4-clause-rows t c =
    let s = site t (goal.at.work_out-returns-in-4-clause-rows t c).After-mask-all in
    let event = c.event_of-event.ensures in
    near.decide_ahead s c.least_count-k.result c.third_of.result c.senders-from.result c.ahead-need.result c.third_of.ensures.value c.least_count-k.ensures c.in-4.is
    (rw event at c.senders-from.ensures) (rw event at c.ahead-need.ensures) c.decide-in-4.ensures.rows (c.gather.auto.out ∙ c.requires.out_len) (rw event at c.gather.ensures)

pub work_out-returns-in-4-clause-grown : goal.work_out-returns-in-4-clause-grown
work_out-returns-in-4-clause-grown t c =
    let s = site t (goal.at.work_out-returns-in-4-clause-grown t c).After-mask-all in
    rem.grown_up (below _ _ (sites.ahead_lower s c.in-4.is)) c.requires.memo c.decide-in-4.ensures.grown

pub work_out-returns-in-5-clause-rows : goal.work_out-returns-in-5-clause-rows
work_out-returns-in-5-clause-rows t c =
    let s = site t (goal.at.work_out-returns-in-5-clause-rows t c).After-mask-all in
    let event = c.event_of-event.ensures in
    near.decide_into s c.senders-from-in-5.result c.behind-need.result c.in-5.is
    (rw event at c.senders-from-in-5.ensures) (rw event at c.behind-need.ensures) c.decide-in-5.ensures.rows (rw event at c.scatter.ensures)

pub work_out-returns-in-5-clause-grown : goal.work_out-returns-in-5-clause-grown
work_out-returns-in-5-clause-grown t c =
    let s = site t (goal.at.work_out-returns-in-5-clause-grown t c).After-mask-all in
    rem.grown_up (below _ _ (sites.b_lower s 5 c.in-5.is refl)) c.requires.memo c.decide-in-5.ensures.grown

pub work_out-returns-in-None-clause-rows : goal.work_out-returns-in-None-clause-rows
work_out-returns-in-None-clause-rows t c =
    loops.filled c.loop-m.invariant.rows c.in-None.ensures.steps

pub work_out-returns-in-None-clause-grown : goal.work_out-returns-in-None-clause-grown
work_out-returns-in-None-clause-grown t c =
    c.loop-m.invariant.grown

pub work_out-returns-in-10-clause-rows : goal.work_out-returns-in-10-clause-rows
work_out-returns-in-10-clause-rows t c =
    let s = site t (goal.at.work_out-returns-in-10-clause-rows t c).After-mask-all in
    ops.decide_reach s _ c.together-need.result c.third_of-c.ensures.value c.in-10.is c.decide-in-10.ensures.rows c.together-need.ensures c.decide-in-10-2.ensures.rows c.follow.ensures

pub work_out-returns-in-10-clause-grown : goal.work_out-returns-in-10-clause-grown
work_out-returns-in-10-clause-grown t c =
    let s = site t (goal.at.work_out-returns-in-10-clause-grown t c).After-mask-all in
    let g = rem.grown_up (below _ _ (sites.b_lower s 10 c.in-10.is refl)) c.requires.memo c.decide-in-10.ensures.grown in
    rem.grown_then g (rem.grown_up (below _ _ (sites.c_lower s _ 10 c.third_of-c.ensures.value c.in-10.is refl)) g.memo c.decide-in-10-2.ensures.grown)

pub work_out-returns-then-a-x-2-clause-rows : goal.work_out-returns-then-a-x-2-clause-rows
work_out-returns-then-a-x-2-clause-rows t c =
    let s = site t (goal.at.work_out-returns-then-a-x-2-clause-rows t c).After-mask-all in
    ops.decide_at_open s c.own_bits.result c.in-9.is c.if-a-x-2.true c.decide-then-a-x-2.ensures.rows c.own_bits.ensures c.spread-then-a-x-2.ensures

pub work_out-returns-then-a-x-2-clause-grown : goal.work_out-returns-then-a-x-2-clause-grown
work_out-returns-then-a-x-2-clause-grown t c =
    let s = site t (goal.at.work_out-returns-then-a-x-2-clause-grown t c).After-mask-all in
    rem.grown_up (below _ _ (sites.b_lower s 9 c.in-9.is refl)) c.requires.memo c.decide-then-a-x-2.ensures.grown

pub work_out-returns-else-a-x-2-clause-rows : goal.work_out-returns-else-a-x-2-clause-rows
work_out-returns-else-a-x-2-clause-rows t c =
    let s = site t (goal.at.work_out-returns-else-a-x-2-clause-rows t c).After-mask-all in
    let v = sites.a_variable s 9 c.in-9.is refl in
    ops.decide_at s c.member_of-c.result c.single-else-a-x-2.result c.in-9.is c.if-a-x-2.false c.member_of-c.ensures
    (counting.single-is c.single-else-a-x-2.result _ (λ k. c.single-else-a-x-2.ensures k ∙ ap (λ (y : ℕ). ltb k 64 && eqb k y) c.member_of-c.ensures) (sites.var_below s _ v))
    c.decide-else-a-x-2.ensures.rows c.spread-else-a-x-2.ensures

pub work_out-returns-else-a-x-2-clause-grown : goal.work_out-returns-else-a-x-2-clause-grown
work_out-returns-else-a-x-2-clause-grown t c =
    let s = site t (goal.at.work_out-returns-else-a-x-2-clause-grown t c).After-mask-all in
    rem.grown_up (below _ _ (sites.b_lower s 9 c.in-9.is refl)) c.requires.memo c.decide-else-a-x-2.ensures.grown

pub work_out-returns-in_default-clause-rows : goal.work_out-returns-in_default-clause-rows
work_out-returns-in_default-clause-rows t c =
    let s = site t (goal.at.work_out-returns-in_default-clause-rows t c).After-mask-all in
    let known = (sites.entry_good s).known in
    let is = s.o_is in
    let no-other : ⊥ = grind arith in
    absurd no-other
