use Rattle.std.proofs.Common.{◌≡◌, ℕ, ◌+◌, ◌<◌, true, sym, ap, ◌∙◌, arith}
use Rattle.theory.specs.Formula.{number, is_past}
use Rattle.theory.specs.Terms.{Terms}
use Rattle.theory.proofs.Unfolding.{number_lt}
use Rattle.memory.specs.Layout.{terms_of}
use Rattle.memory.proofs.Accepted.{good}
use Rattle.memory.proofs.StateTests.{number_past, number_other}
use Rattle.renumber.proofs.PairRows as rows
use Rattle.renumber.proofs.pairs.two_columns.Goals as goal
use Rattle.renumber.proofs.pairs.two_columns.Goals.{then-is_past+then-is_pair, else-is_past, else-is_past-via-then-is_past+else-is_pair, else-is_past-via-else-is_past}

pub loop-n-init : goal.loop-n-init
unfolding number
loop-n-init c = rows.pairs_none _

pub loop-n-preserved : goal.loop-n-preserved
loop-n-preserved c =
    let l = c.loop-n in
    let T : Terms = terms_of c.args.terms.now in
    let fine = good c.args.terms.now c.requires.0 in
    let s : ℕ = number T.entry l.n in
    let here : l.n < T.entries = omega (arith, c.entries-n-end.ensures.value) in
    let op : c.is_past.result ≡ is_past (T.entry l.n).op = c.is_past.ensures ∙ ap is_past c.op_of.ensures.value in
    elim c.if-is_past.branch [
      | then-is_past+then-is_pair w ↦
          let past : is_past (T.entry l.n).op ≡ true = sym op ∙ w.if-is_past.true in
          let few : s < 32 = omega (arith, number_lt T.entry l.n T.entries here past, fine.few_tables) in
          let table = rows.indexed_table T fine c.args.index.now c.requires.1 l.n _ here past c.word-p.ensures.value in
          let two = rows.indexed_two T fine c.args.index.now c.requires.1 l.n _ here past c.word-p.ensures.value ∙ sym w.is_pair.ensures ∙ w.if-is_pair.true in
          rw (w.two-is, number_past T.entry l.n past)
          (rows.pairs_more T s l.two _ _ few (ap (λ (t : ℕ). 16 + t) (w.table_of.ensures ∙ table)) two l.invariant w.with-two.ensures)
      | else-is_past w ↦ rw w.two-is (elim w.else-is_past.branch [
        | else-is_past-via-then-is_past+else-is_pair v ↦
            let past : is_past (T.entry l.n).op ≡ true = sym op ∙ v.if-is_past.true in
            let one = rows.indexed_two T fine c.args.index.now c.requires.1 l.n _ here past c.word-p.ensures.value ∙ sym v.is_pair.ensures ∙ v.if-is_pair.false in
            rw (number_past T.entry l.n past) (rows.pairs_skip T s l.two one l.invariant)
        | else-is_past-via-else-is_past v ↦ rw (number_other T.entry l.n (sym op ∙ v.if-is_past.false)) l.invariant
      ])
    ]
