use Rattle.std.proofs.Common.{◌≡◌, ℕ, ◌<◌, get_or, arith}
use mathlib.Core.Path.{ap, ◌∙◌, subst}
use Rattle.memory.specs.Layout.{terms_of}
use Rattle.memory.specs.TableIndex.{index_columns}
use Rattle.memory.proofs.Accepted.{good}
use Rattle.theory.proofs.Good.{first_variable, first_lower, second_lower, third_lower}
use Rattle.deciding.proofs.ReadSets as sets
use Rattle.decide.proofs.memo.prepare.Goals as goal

pub bounds-reads-i : goal.bounds-reads-i
bounds-reads-i c = omega (arith, (good c.args.terms.now c.requires.0).few_entries)

pub loop-i-preserved : goal.loop-i-preserved
loop-i-preserved c =
    let T = terms_of c.args.terms.now in
    let fine = good c.args.terms.now c.requires.0 in
    let l = c.loop-i in
    let here : l.i < T.entries = omega arith in
    let e = fine.entry l.i here in
    sets.preparing_more T l.i c.reads_of-r.result fine.few_entries here l.invariant
    (sets.covers_entry T l.i c.word.result c.set_at.result c.set_at-in-loop-i.result c.set_at-in-loop-i-2.result c.reads_of-r.result l.invariant
    (λ q. let z = first_variable e q in omega arith)
    (λ q. ap index_columns c.word.ensures.value ∙ (c.requires.1.table l.i here q).1)
    (first_lower e) (second_lower e) (third_lower e)
    (c.set_at.ensures ∙ ap (λ (k : ℕ). get_or l.reads k 0) c.first_of-a.ensures.value)
    (c.set_at-in-loop-i.ensures ∙ ap (λ (k : ℕ). get_or l.reads k 0) c.second_of.ensures.value)
    (c.set_at-in-loop-i-2.ensures ∙ ap (λ (k : ℕ). get_or l.reads k 0) c.third_of.ensures.value)
    (rw (c.op_of.ensures.value, c.first_of-a.ensures.value) at c.reads_of-r.ensures))
    c.give.ensures.apart c.give.ensures.memo_after

pub returns-clause-by_index : goal.returns-clause-by_index
returns-clause-by_index c rel past =
    let T = terms_of c.args.terms.now in
    let all : c.loop-i.i ≡ T.entries = omega arith in
    sets.prepared_memo T rel past (subst (λ (k : ℕ). sets.Preparing T k c.loop-i.reads c.loop-i.memo) all c.loop-i.invariant)
