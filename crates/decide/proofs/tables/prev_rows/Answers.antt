use Rattle.std.proofs.Common.{ℕ, not, eqb, arith}
use mathlib.Core.Path.{refl, ap, ◌∙◌}
use Rattle.memory.specs.TableIndex.{index_first, index_last}
use Rattle.memory.proofs.Accepted.{good}
use Rattle.theory.proofs.Good.{first_lower}
use Rattle.deciding.proofs.Remembering as rem
use Rattle.deciding.proofs.AtEntry as sites
use Rattle.deciding.proofs.Requests as requests
use Rattle.decide.proofs.tables.prev_rows.Goals as goal

pub decide-requires-clause-rows_asked : goal.decide-requires-clause-rows_asked
decide-requires-clause-rows_asked c =
    requests.table_first c.args.present.now.ready c.requires.bound.0 c.requires.bound.1 refl _ _ c.first_of-a.ensures.value refl (sites.mask_is c.args.present.now.ready c.mask-all.result c.members-n.result c.mask-all.ensures c.members-n.ensures.value)

pub decide-requires-clause-memo : goal.decide-requires-clause-memo
decide-requires-clause-memo c =
    let l = first_lower ((good c.args.present.now.terms.now c.args.present.now.ready.good).entry c.args.entry c.requires.bound.0) (rw c.requires.bound.1) in
    rem.memo_lower (omega arith) c.requires.memo

pub clear_from-requires : goal.clear_from-requires
clear_from-requires c =
    (c.decide.ensures.rows.long, sites.members_few c.args.present.now.ready _ c.members-n.ensures.value)

pub returns-clause-table : goal.returns-clause-table
returns-clause-table c =
    let one = ap (λ (p : ℕ). not (eqb (index_first p) (index_last p))) c.word.ensures.value ∙ c.requires.value in
    requests.prev_table c.args.present.now.ready c.requires.bound.0 c.requires.bound.1 refl c.word.result _ c.mask-all.result c.members-n.result c.word.ensures.value one c.first_of-a.ensures.value (sites.mask_is c.args.present.now.ready c.mask-all.result c.members-n.result c.mask-all.ensures c.members-n.ensures.value)
    (rw c.last_of-x.ensures at c.decide.ensures.rows) c.clear_from.auto.out c.members-n.ensures.value c.clear_from.ensures

pub returns-clause-grown : goal.returns-clause-grown
returns-clause-grown c =
    let l = first_lower ((good c.args.present.now.terms.now c.args.present.now.ready.good).entry c.args.entry c.requires.bound.0) (rw c.requires.bound.1) in
    rem.grown_up (omega arith) c.requires.memo c.decide.ensures.grown
