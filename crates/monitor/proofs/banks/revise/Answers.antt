-- `revise`: the checks, then the second relations, and what both banks begin with.
use Rattle.std.proofs.Common.{refl, arith, ℕ}
use mathlib.Core.Path.{◌∙◌}
use lib.ListN.{length-replicate}
use lib.Seq.{length-take-le}
use Rattle.theory.specs.Limits.{max_entries}
use Rattle.classes.proofs.Filling.{classed}
use Rattle.monitor.proofs.BankBegun as begun
use Rattle.monitor.proofs.banks.revise.Goals as goal

pub returns-in_err-inspect_revision-clause-edges_after :
    goal.returns-in_err-inspect_revision-clause-edges_after
returns-in_err-inspect_revision-clause-edges_after c = begun.edges_kept _ _ _ _ _ _ _ _ _ _ c.in_err-inspect_revision.ensures.result_value

pub returns-in_err-inspect_revision-clause-third_after :
    goal.returns-in_err-inspect_revision-clause-third_after
returns-in_err-inspect_revision-clause-third_after c = begun.own_kept _ _ _ _ _ _ _ _ _ _ c.in_err-inspect_revision.ensures.result_value _ _

pub returns-in_err-inspect_revision-clause-fourth_after :
    goal.returns-in_err-inspect_revision-clause-fourth_after
returns-in_err-inspect_revision-clause-fourth_after c = begun.own_kept _ _ _ _ _ _ _ _ _ _ c.in_err-inspect_revision.ensures.result_value _ _

pub slice_bounds-copy-end : goal.slice_bounds-copy-end
slice_bounds-copy-end c = omega (arith, (begun.revised_says _ _ _ _ _ _ _ _ c.in_ok-inspect_revision.ensures.result_value).edges_long)

pub copy-requires : goal.copy-requires
copy-requires c =
    let s = begun.revised_says _ _ _ _ _ _ _ _ c.in_ok-inspect_revision.ensures.result_value in
    omega (arith, length-take-le 1024 c.args.edges.now s.edges_long, s.relations_long)

pub begin_own-requires-clause-revising : goal.begin_own-requires-clause-revising
begin_own-requires-clause-revising c =
    let i = c.in_ok-inspect_revision.ensures in
    let s = begun.revised_says _ _ _ _ _ _ _ _ i.result_value in
    let r = begun.revising _ _ _ _ _ _ _ _ i.result_value (i.indexed refl) (i.indexed_2 refl) c.args.first.now s.first_long s.first_good in
    (r, classed _ _ _ _ r.good_old r.good_new (length-replicate {A = ℕ} max_entries 0) c.find_classes.ensures.classes_after)

pub begin_own-requires-clause-relation_words_in_bounds :
    goal.begin_own-requires-clause-relation_words_in_bounds
begin_own-requires-clause-relation_words_in_bounds c =
    let s = begun.revised_says _ _ _ _ _ _ _ _ c.in_ok-inspect_revision.ensures.result_value in (s.relations_long, s.first_long, s.third_long)

pub begin_own-requires-2-clause-revising : goal.begin_own-requires-2-clause-revising
begin_own-requires-2-clause-revising c =
    let i = c.in_ok-inspect_revision.ensures in
    let s = begun.revised_says _ _ _ _ _ _ _ _ i.result_value in
    let r = begun.revising _ _ _ _ _ _ _ _ i.result_value (i.indexed refl) (i.indexed_2 refl) c.args.second.now s.second_long s.second_good in
    (r, classed _ _ _ _ r.good_old r.good_new (length-replicate {A = ℕ} max_entries 0) c.find_classes.ensures.classes_after)

pub begin_own-requires-2-clause-relation_words_in_bounds :
    goal.begin_own-requires-2-clause-relation_words_in_bounds
begin_own-requires-2-clause-relation_words_in_bounds c =
    let s = begun.revised_says _ _ _ _ _ _ _ _ c.in_ok-inspect_revision.ensures.result_value in (s.relations_long, s.second_long, s.fourth_long)

pub returns-clause-edges_after : goal.returns-clause-edges_after
returns-clause-edges_after c = begun.edges_begun _ _ _ _ _ _ _ _ c.in_ok-inspect_revision.ensures.result_value c.begin_own.ensures.relations_value c.copy.ensures

pub returns-clause-third_after : goal.returns-clause-third_after
returns-clause-third_after c = c.begin_own.ensures.second_after ∙ begun.own_begun _ _ _ _ _ _ _ _ c.in_ok-inspect_revision.ensures.result_value _ _

pub returns-clause-fourth_after : goal.returns-clause-fourth_after
returns-clause-fourth_after c = c.begin_own-2.ensures.second_after ∙ begun.own_begun _ _ _ _ _ _ _ _ c.in_ok-inspect_revision.ensures.result_value _ _
