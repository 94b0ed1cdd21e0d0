-- One entry after the other, and the words after the last table by their union.
use Rattle.std.proofs.Common.{◌≡◌, ℕ, ◌+◌, ◌*◌, ◌<◌, true, false, ◌&&◌, eqb, ltb, get_or, arith}
use mathlib.Core.Path.{refl, sym, ap, ap₂, ◌∙◌}
use Rattle.sets.specs.Sets.{all_below, bit}
use Rattle.sets.proofs.Finite.{all_none}
use Rattle.theory.specs.Formula.{number, is_past}
use Rattle.theory.specs.Terms.{Terms}
use Rattle.theory.specs.Fit.{◌⇒◌, Good}
use Rattle.memory.specs.Layout.{terms_of}
use Rattle.memory.specs.Checks.{table_fits}
use Rattle.memory.specs.TableIndex.{index_columns}
use Rattle.theory.proofs.Unfolding.{number_lt}
use Rattle.memory.proofs.Accepted.{good}
use Rattle.memory.proofs.StateTests.{and_assoc, and_cross, all_turn, number_past, number_other, closed_mask, level_table, level_entry, level_past, level_other, fit_table, tables_fit, indexed_fit, fit_indexed}
use Rattle.memory.proofs.check_state.tables_fit.Goals as goal
use Rattle.memory.proofs.check_state.tables_fit.Goals.{then-is_past, else-is_past}

-- The table of a past-time entry is one of the 32.
few : (T : Terms) → Good T → (n t : ℕ) → n < T.entries → is_past (T.entry n).op ≡ true → t ≡ number T.entry n → t < 32
few T g n t l p e = omega (arith, number_lt T.entry n T.entries l p, g.few_tables)

pub loop-n-init : goal.loop-n-init
unfolding number
loop-n-init c = record { few = omega arith; count = refl; keep = sym (ap₂ ◌&&◌ (all_none _) (all_none _)) }

pub table_keeps-ok-requires : goal.table_keeps-ok-requires
table_keeps-ok-requires c =
    let x = c.args in
    let l = c.loop-n in
    let T = terms_of x.terms.now in
    let g : Good T = good _ c.requires.terms_value.0 in
    let here : l.n < T.entries = omega arith in
    let past : is_past (T.entry l.n).op ≡ true = sym (c.is_past.ensures ∙ ap is_past c.op_of.ensures.value) ∙ c.if-is_past.true in
    let members = c.members-m.ensures.value in (
      c.requires.terms_value.1,
      few T g l.n l.t here past l.invariant.count,
      omega (arith, members, g.some_member),
      omega (arith, members, g.few_members),
      indexed_fit T x.index.now g c.requires.indexed.0 l.n here past c.word.ensures.value members,
    )

pub loop-n-preserved : goal.loop-n-preserved
loop-n-preserved c =
    let x = c.args in
    let l = c.loop-n in
    let T = terms_of x.terms.now in
    let own = x.own.now in
    let g : Good T = good _ c.requires.terms_value.0 in
    let here : l.n < T.entries = omega arith in
    let members = c.members-m.ensures.value in
    let tested = c.is_past.ensures ∙ ap is_past c.op_of.ensures.value in
    elim c.if-is_past.branch [
      | then-is_past w ↦
          let past : is_past (T.entry l.n).op ≡ true = sym tested ∙ w.if-is_past.true in
          let m = c.members-m.result in
          let fit = all_below 64 (λ a. table_fits m (index_columns w.word.result) true a (get_or own (64 * l.t + a) 0)) in
          let level = eqb w.set_at.result 0 ⇒ level_table m own l.t in
          let bare = closed_mask T g l.n w.set_at.result here (omega (arith, w.set_at.type_inv)) (λ y. ap (λ v. bit v y) w.set_at.ensures ∙ c.requires.indexed.1.bits l.n y here) in
          record {
            few = omega (arith, few T g l.n l.t here past l.invariant.count, w.t-is);
            count = omega (arith, number_past T.entry l.n past, w.t-is, l.invariant.count);
            keep = w.ok-is ∙ ap₂ ◌&&◌ w.table_keeps-ok.ensures l.invariant.keep ∙ and_cross fit level (all_below l.t (fit_table T own true)) (all_below l.n (level_entry T own))
                ∙ ap₂ ◌&&◌
                (all_turn l.t (fit_table T own true)
                (fit_indexed T x.index.now g c.requires.indexed.0 l.n here past w.word.ensures.value own members l.invariant.count) refl)
                (all_turn l.n (level_entry T own) (level_past T own l.n past bare members l.invariant.count) refl)
                ∙ ap (λ j. all_below j (fit_table T own true) && all_below (l.n + 1) (level_entry T own)) (sym w.t-is);
          }
      | else-is_past w ↦
          let other : is_past (T.entry l.n).op ≡ false = sym tested ∙ w.if-is_past.false in
          record {
            few = omega (arith, w.t-is, l.invariant.few);
            count = omega (arith, number_other T.entry l.n other, w.t-is, l.invariant.count);
            keep = w.ok-is ∙ l.invariant.keep
                ∙ ap₂ ◌&&◌ (ap (λ j. all_below j (fit_table T own true)) (sym w.t-is)) (all_turn l.n (level_entry T own) (level_other T own l.n other) refl);
          }
    ]

pub returns : goal.returns
returns c =
    let x = c.args in
    let l = c.loop-n in
    let T = terms_of x.terms.now in
    let own = x.own.now in
    let end : l.n ≡ T.entries = omega arith in
    let used : l.t ≡ number T.entry T.entries = l.invariant.count ∙ ap (number T.entry) end in
    ap (λ b. eqb c.union_of.result 0 && b) l.invariant.keep
    ∙ and_assoc (eqb c.union_of.result 0) (all_below l.t (fit_table T own true)) (all_below l.n (level_entry T own))
    ∙ ap₂ ◌&&◌
    (tables_fit T own c.requires.terms_value.1 l.t c.union_of.result (omega (arith, l.invariant.few)) c.union_of.ensures
    ∙ ap (λ u. all_below 32 (λ t. fit_table T own (ltb t u) t)) used)
    (ap (λ k. all_below k (level_entry T own)) end)
