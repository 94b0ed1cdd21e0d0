use Rattle.std.proofs.Common.{ℕ, ◌+◌, ◌≤◌, not, eqb, arith}
use mathlib.Core.Path.{refl, ap, ◌∙◌}
use Rattle.memory.specs.TableIndex.{index_first, index_last}
use Rattle.memory.proofs.Accepted.{good}
use Rattle.theory.proofs.Good.{first_lower, second_lower}
use Rattle.deciding.proofs.Remembering as rem
use Rattle.deciding.proofs.AtEntry as sites
use Rattle.deciding.proofs.Requests as requests
use Rattle.decide.proofs.tables.since_rows.Goals as goal

pub decide-requires-clause-rows_asked : goal.decide-requires-clause-rows_asked
decide-requires-clause-rows_asked c =
    requests.table_second c.args.present.now.ready c.requires.bound.0 c.requires.bound.1 refl _ _ c.second_of-b.ensures.value refl (sites.mask_is c.args.present.now.ready c.mask-all.result c.members-n.result c.mask-all.ensures c.members-n.ensures.value)

pub decide-requires-clause-memo : goal.decide-requires-clause-memo
decide-requires-clause-memo c =
    let l = second_lower ((good c.args.present.now.terms.now c.args.present.now.ready.good).entry c.args.entry c.requires.bound.0) (rw c.requires.bound.1) in
    rem.memo_lower (omega arith) c.requires.memo

pub decide-requires-2-clause-rows_asked : goal.decide-requires-2-clause-rows_asked
decide-requires-2-clause-rows_asked c =
    requests.table_first c.args.present.now.ready c.requires.bound.0 c.requires.bound.1 refl _ _ c.first_of-a.ensures.value refl (sites.mask_is c.args.present.now.ready c.mask-all.result c.members-n.result c.mask-all.ensures c.members-n.ensures.value)

pub decide-requires-2-clause-memo : goal.decide-requires-2-clause-memo
decide-requires-2-clause-memo c =
    let l = first_lower ((good c.args.present.now.terms.now c.args.present.now.ready.good).entry c.args.entry c.requires.bound.0) (rw c.requires.bound.1) in
    let m = second_lower ((good c.args.present.now.terms.now c.args.present.now.ready.good).entry c.args.entry c.requires.bound.0) (rw c.requires.bound.1) in
    let g = rem.grown_up (let z : c.second_of-b.result + 1 ≤ c.args.entry = omega arith in z) c.requires.memo c.decide.ensures.grown in
    rem.memo_lower (omega arith) g.memo

pub join_kept-requires : goal.join_kept-requires
join_kept-requires c =
    (c.decide.ensures.rows.long, c.decide-2.ensures.rows.long, omega (arith, c.table_of.ensures, requests.table_small c.args.present.now.ready c.requires.bound.0 c.requires.bound.1 refl _ c.word-p.ensures.value), omega (arith, c.args.present.now.ready.long_past))

pub clear_from-requires : goal.clear_from-requires
clear_from-requires c =
    (c.join_kept.auto.out ∙ c.decide.ensures.rows.long, sites.members_few c.args.present.now.ready _ c.members-n.ensures.value)

pub returns-clause-table : goal.returns-clause-table
returns-clause-table c =
    let one = ap (λ (p : ℕ). not (eqb (index_first p) (index_last p))) c.word-p.ensures.value ∙ c.requires.value in
    requests.since_table c.args.present.now.ready c.requires.bound.0 c.requires.bound.1 refl c.word-p.result _ _ c.mask-all.result c.members-n.result c.join_kept.new.out c.word-p.ensures.value one
    c.second_of-b.ensures.value c.first_of-a.ensures.value (sites.mask_is c.args.present.now.ready c.mask-all.result c.members-n.result c.mask-all.ensures c.members-n.ensures.value)
    (rw c.last_of-x.ensures at c.decide.ensures.rows) (rw c.last_of-x.ensures at c.decide-2.ensures.rows) c.join_kept.auto.out (rw c.table_of.ensures at c.join_kept.ensures) c.clear_from.auto.out c.members-n.ensures.value c.clear_from.ensures

pub returns-clause-grown : goal.returns-clause-grown
returns-clause-grown c =
    let l = first_lower ((good c.args.present.now.terms.now c.args.present.now.ready.good).entry c.args.entry c.requires.bound.0) (rw c.requires.bound.1) in
    let m = second_lower ((good c.args.present.now.terms.now c.args.present.now.ready.good).entry c.args.entry c.requires.bound.0) (rw c.requires.bound.1) in
    let g = rem.grown_up (let z : c.second_of-b.result + 1 ≤ c.args.entry = omega arith in z) c.requires.memo c.decide.ensures.grown in
    rem.grown_then g (rem.grown_up (omega arith) g.memo c.decide-2.ensures.grown)
