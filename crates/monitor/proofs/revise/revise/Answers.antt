-- `revise`: the checks, the relations copied, and then the tables that the new terms begin with.
use Rattle.std.proofs.Common.{◌≡◌, refl, arith, ℕ, ◌≤◌, List, ◌++◌, length, take}
use mathlib.Core.Path.{ap, ◌∙◌}
use lib.ListN.{length-replicate}
use lib.Seq.{length-take-le}
use borrow.Rule.Slice.PartMut.{put_mid, same_len_mid}
use Rattle.theory.specs.Limits.{max_entries}
use Rattle.theory.specs.Tables.{State, revised}
use Rattle.memory.specs.Layout.{state_words, relation_words, terms_of, words_of}
use Rattle.memory.specs.TableIndex.{Indexed}
use Rattle.memory.proofs.Accepted.{good}
use Rattle.memory.proofs.Outcomes.{Revisable, passed_revisable}
use Rattle.calls.proofs.Answers as answers
use Rattle.classes.proofs.Filling.{classed}
use Rattle.deciding.specs.private.Starting.{Revising}
use Rattle.deciding.proofs.Apart.{past_long}
use Rattle.deciding.proofs.SameDecision.{relations_of, past_of}
use Rattle.deciding.proofs.Parts as parts
use Rattle.monitor.proofs.revise.revise.Goals as goal

-- The parts of the state are a bank's.
revising : {old before after : List ℕ} {state new second : List ℕ} → Revisable old state new second → Indexed (terms_of old) before → Indexed (terms_of new) after →
    Revising old before (relations_of state ++ past_of state) new after
revising {old} {before} {after} {state} s p q = record {
  long_old = s.checked.long_terms;
  good_old = s.checked.good_terms;
  indexed_old = p;
  long_state = omega (arith, parts.parts_long state s.checked.long_state);
  good-state = parts.parts_good state s.checked.long_state (terms_of old) (good old s.checked.good_terms) s.checked.good-state;
  long_new = s.long_new;
  good_new = s.good_new;
  indexed_new = q;
  same = s.same;
}

-- The second state, with the relations in it, is as long.
second_long : (second relations : List ℕ) → length relations ≡ length (take relation_words second) → state_words ≤ length second → state_words ≤ length (put_mid 0 relation_words second relations)
second_long second relations e l = omega (arith, same_len_mid 0 relation_words second relations e, l)

-- There is room for the relations.
room : (state second : List ℕ) → state_words ≤ length state → state_words ≤ length second → length (take relation_words second) ≤ length state
room state second l m = omega (arith, length-take-le relation_words second (omega (arith, m)))

pub returns-in_err-inspect_revision-clause-second_after :
    goal.returns-in_err-inspect_revision-clause-second_after
returns-in_err-inspect_revision-clause-second_after c = answers.revise_kept _ _ _ _ _ _ c.in_err-inspect_revision.ensures.result_value

pub slice_bounds-copy-end : goal.slice_bounds-copy-end
slice_bounds-copy-end c = omega (arith, (passed_revisable _ _ _ _ c.in_ok-inspect_revision.ensures.result_value).long_second)

pub copy-requires : goal.copy-requires
copy-requires c =
    let s = passed_revisable _ _ _ _ c.in_ok-inspect_revision.ensures.result_value in
    room c.args.state.now c.args.second.now s.checked.long_state s.long_second

pub slice_bounds-begin-end-3 : goal.slice_bounds-begin-end-3
slice_bounds-begin-end-3 c = omega (arith, (passed_revisable _ _ _ _ c.in_ok-inspect_revision.ensures.result_value).checked.long_state)

pub slice_bounds-begin-end-6 : goal.slice_bounds-begin-end-6
slice_bounds-begin-end-6 c = second_long c.args.second.now c.copy.new.to c.copy.auto.to (passed_revisable _ _ _ _ c.in_ok-inspect_revision.ensures.result_value).long_second

pub begin-requires-clause-revising : goal.begin-requires-clause-revising
begin-requires-clause-revising c =
    let i = c.in_ok-inspect_revision.ensures in
    let r = revising (passed_revisable _ _ _ _ i.result_value) (i.indexed refl) (i.indexed_2 refl) in
    (r, classed _ _ _ _ r.good_old r.good_new (length-replicate {A = ℕ} max_entries 0) c.find_classes.ensures.classes_after)

pub returns-clause-second_after : goal.returns-clause-second_after
returns-clause-second_after c =
    let e = c.in_ok-inspect_revision.ensures.result_value in
    let s = passed_revisable _ _ _ _ e in
    let x = c.args in
    let size = c.begin.auto.second ∙ past_long (put_mid 0 relation_words x.second.now c.copy.new.to) (second_long x.second.now c.copy.new.to c.copy.auto.to s.long_second) in
    parts.filled_in x.state.now x.second.now c.copy.new.to c.begin.new.second s.checked.long_state s.long_second size c.copy.ensures
    (c.begin.ensures ∙ ap (λ (S : State). words_of (terms_of x.new.now) (revised (terms_of x.old.now) S (terms_of x.new.now))) (parts.parts_state x.state.now s.checked.long_state))
    ∙ answers.revise_done _ _ _ _ e
