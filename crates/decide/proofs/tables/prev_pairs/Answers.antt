use Rattle.std.proofs.Common.{ℕ, not, eqb, arith}
use mathlib.Core.Path.{refl, ap, ap₂, ◌∙◌}
use borrow.Author.Tests.{not-true}
use Rattle.memory.specs.TableIndex.{index_first, index_last}
use Rattle.memory.proofs.Accepted.{good}
use Rattle.theory.proofs.Good.{first_lower}
use Rattle.deciding.proofs.Remembering as rem
use Rattle.deciding.proofs.Requests as requests
use Rattle.decide.proofs.tables.prev_pairs.Goals as goal

pub pair_rows-requires-clause-operand_bound : goal.pair_rows-requires-clause-operand_bound
pair_rows-requires-clause-operand_bound c =
    let l = first_lower ((good c.args.present.now.terms.now c.args.present.now.ready.good).entry c.args.entry c.requires.bound.0) (rw c.requires.bound.1) in
    let two = ap (λ (p : ℕ). not (eqb (index_first p) (index_last p))) c.word-p.ensures.value ∙ c.requires.value in (
      omega arith,
      requests.pair_few c.args.present.now.ready c.requires.bound.0 c.requires.bound.1 refl c.word-p.result c.word-p.ensures.value two,
      omega (arith, c.first_of-x.ensures),
      omega (arith, c.last_of-y.ensures),
      ap₂ eqb c.first_of-x.ensures c.last_of-y.ensures ∙ not-true _ two,
      c.requires.bound.2,
    )

pub pair_rows-requires-clause-memo : goal.pair_rows-requires-clause-memo
pair_rows-requires-clause-memo c =
    let l = first_lower ((good c.args.present.now.terms.now c.args.present.now.ready.good).entry c.args.entry c.requires.bound.0) (rw c.requires.bound.1) in
    rem.memo_lower (omega arith) c.requires.memo

pub returns-clause-table : goal.returns-clause-table
returns-clause-table c =
    let two = ap (λ (p : ℕ). not (eqb (index_first p) (index_last p))) c.word-p.ensures.value ∙ c.requires.value in
    requests.prev_pair c.args.present.now.ready c.requires.bound.0 c.requires.bound.1 refl c.word-p.result c.word-p.ensures.value two c.first_of-a.result c.first_of-a.ensures.value
    (rw (c.first_of-x.ensures, c.last_of-y.ensures) at c.pair_rows.ensures.table)

pub returns-clause-grown : goal.returns-clause-grown
returns-clause-grown c =
    let l = first_lower ((good c.args.present.now.terms.now c.args.present.now.ready.good).entry c.args.entry c.requires.bound.0) (rw c.requires.bound.1) in
    rem.grown_up (omega arith) c.requires.memo c.pair_rows.ensures.grown
