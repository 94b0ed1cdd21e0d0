use Rattle.std.proofs.Common.{ℕ, ◌+◌, ◌≤◌, not, eqb, arith}
use mathlib.Core.Path.{refl, ap, ap₂, ◌∙◌}
use borrow.Author.Tests.{not-true}
use Rattle.memory.specs.TableIndex.{index_first, index_last}
use Rattle.memory.proofs.Accepted.{good}
use Rattle.theory.proofs.Good.{first_lower, second_lower}
use Rattle.deciding.proofs.Remembering as rem
use Rattle.deciding.proofs.Requests as requests
use Rattle.decide.proofs.tables.since_pairs.Goals as goal

pub pair_rows-requires-clause-operand_bound : goal.pair_rows-requires-clause-operand_bound
pair_rows-requires-clause-operand_bound c =
    let l = second_lower ((good c.args.present.now.terms.now c.args.present.now.ready.good).entry c.args.entry c.requires.bound.0) (rw c.requires.bound.1) in
    let two = ap (λ (p : ℕ). not (eqb (index_first p) (index_last p))) c.word-p.ensures.value ∙ c.requires.value in (
      omega arith,
      requests.pair_few c.args.present.now.ready c.requires.bound.0 c.requires.bound.1 refl c.word-p.result c.word-p.ensures.value two,
      omega (arith, c.first_of-x.ensures),
      omega (arith, c.last_of-y.ensures),
      ap₂ eqb c.first_of-x.ensures c.last_of-y.ensures ∙ not-true _ two,
      c.requires.bound.2,
    )

pub pair_rows-requires-clause-memo : goal.pair_rows-requires-clause-memo
pair_rows-requires-clause-memo c =
    let l = second_lower ((good c.args.present.now.terms.now c.args.present.now.ready.good).entry c.args.entry c.requires.bound.0) (rw c.requires.bound.1) in
    rem.memo_lower (omega arith) c.requires.memo

pub pair_rows-requires-2-clause-operand_bound : goal.pair_rows-requires-2-clause-operand_bound
pair_rows-requires-2-clause-operand_bound c =
    let l = first_lower ((good c.args.present.now.terms.now c.args.present.now.ready.good).entry c.args.entry c.requires.bound.0) (rw c.requires.bound.1) in
    let two = ap (λ (p : ℕ). not (eqb (index_first p) (index_last p))) c.word-p.ensures.value ∙ c.requires.value in (
      omega arith,
      requests.pair_few c.args.present.now.ready c.requires.bound.0 c.requires.bound.1 refl c.word-p.result c.word-p.ensures.value two,
      omega (arith, c.first_of-x.ensures),
      omega (arith, c.last_of-y.ensures),
      ap₂ eqb c.first_of-x.ensures c.last_of-y.ensures ∙ not-true _ two,
      c.requires.bound.3,
    )

pub pair_rows-requires-2-clause-memo : goal.pair_rows-requires-2-clause-memo
pair_rows-requires-2-clause-memo c =
    let l = first_lower ((good c.args.present.now.terms.now c.args.present.now.ready.good).entry c.args.entry c.requires.bound.0) (rw c.requires.bound.1) in
    let m = second_lower ((good c.args.present.now.terms.now c.args.present.now.ready.good).entry c.args.entry c.requires.bound.0) (rw c.requires.bound.1) in
    let g = rem.grown_up (let z : c.second_of-b.result + 1 ≤ c.args.entry = omega arith in z) c.requires.memo c.pair_rows.ensures.grown in
    rem.memo_lower (omega arith) g.memo

pub join_kept-requires : goal.join_kept-requires
join_kept-requires c =
    (c.pair_rows.ensures.table.long, c.pair_rows-2.ensures.table.long, omega (arith, c.table_of.ensures, requests.table_small c.args.present.now.ready c.requires.bound.0 c.requires.bound.1 refl _ c.word-p.ensures.value), omega (arith, c.args.present.now.ready.long_past))

pub returns-clause-table : goal.returns-clause-table
returns-clause-table c =
    let two = ap (λ (p : ℕ). not (eqb (index_first p) (index_last p))) c.word-p.ensures.value ∙ c.requires.value in
    requests.since_pair c.args.present.now.ready c.requires.bound.0 c.requires.bound.1 refl c.word-p.result c.word-p.ensures.value two c.second_of-b.result c.first_of-a.result c.second_of-b.ensures.value c.first_of-a.ensures.value
    (rw (c.first_of-x.ensures, c.last_of-y.ensures) at c.pair_rows.ensures.table) (rw (c.first_of-x.ensures, c.last_of-y.ensures) at c.pair_rows-2.ensures.table) c.join_kept.auto.out (rw c.table_of.ensures at c.join_kept.ensures)

pub returns-clause-grown : goal.returns-clause-grown
returns-clause-grown c =
    let l = first_lower ((good c.args.present.now.terms.now c.args.present.now.ready.good).entry c.args.entry c.requires.bound.0) (rw c.requires.bound.1) in
    let m = second_lower ((good c.args.present.now.terms.now c.args.present.now.ready.good).entry c.args.entry c.requires.bound.0) (rw c.requires.bound.1) in
    let g = rem.grown_up (let z : c.second_of-b.result + 1 ≤ c.args.entry = omega arith in z) c.requires.memo c.pair_rows.ensures.grown in
    rem.grown_then g (rem.grown_up (omega arith) g.memo c.pair_rows-2.ensures.grown)
