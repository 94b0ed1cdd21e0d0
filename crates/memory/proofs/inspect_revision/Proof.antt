-- `memory::inspect_revision` meets its contract.
use borrow.Author.Rules.{rules}
use borrow.Author.Tests.{not-true}
use mathlib.Core.Path.{◌≡◌, refl, sym, ◌∙◌}
use mathlib.Core.Bool.{true, true≢false, false≢true}
use Rattle.memory.specs.Checks.{good_memory}
use Rattle.memory.proofs.Outcomes as outcomes
use Rattle.memory.proofs.inspect_revision.Statement.{statement}
use Rattle.memory.proofs.inspect_revision.Tie as tie

-- The function's entry, from the place where the lengths are looked at.
abbrev start : tie.Else-state-lt-STATE → tie.Start
start c = c.before.before.before.before.before.before.before.before

-- The new terms are looked at, and then the old.
abbrev lengths : tie.After-check_terms → tie.Else-state-lt-STATE
lengths c = c.before.before.before

abbrev new-checked : tie.Else-not-check_terms → tie.After-check_terms
new-checked c = c.before.before.before

abbrev new-passed : tie.After-check_terms-2 → tie.Else-not-check_terms
new-passed c = c.before.before.before

abbrev old-checked : tie.Else-not-check_terms-2 → tie.After-check_terms-2
old-checked c = c.before.before.before

new_good : (c : tie.Else-not-check_terms) → good_memory (start (lengths (new-checked c))).args.new.now ≡ true
new_good c = sym (new-checked c).check_terms.ensures.0 ∙ outcomes.not-false _ c.if-not-check_terms.false-raw

old_good : (c : tie.Else-not-check_terms-2) → good_memory (start (lengths (new-checked (new-passed (old-checked c))))).args.old.now ≡ true
old_good c = sym (old-checked c).check_terms-2.ensures.0 ∙ outcomes.not-false _ c.if-not-check_terms-2.false-raw

-- And the state.
abbrev old-passed : tie.After-check_state → tie.Else-not-check_terms-2
old-passed c = c.before.before.before

abbrev state-checked : tie.Else-not-check_state → tie.After-check_state
state-checked c = c.before

returns : tie.Need-returns-then-new-lt-TERMS
returns c = (outcomes.revise_short_new _ _ _ _ c.if-new-lt-TERMS.true, ((λ e. absurd (false≢true e)), ((λ e. absurd (false≢true e)), (λ _. (refl, refl)))))

returns-2 : tie.Need-returns-then-second-lt-STATE
returns-2 c = (outcomes.revise_short_second _ _ _ _ c.if-second-lt-STATE.true, ((λ e. absurd (false≢true e)), ((λ e. absurd (false≢true e)), (λ _. (refl, refl)))))

returns-3 : tie.Need-returns-then-old-lt-TERMS
returns-3 c = (outcomes.revise_short_old _ _ _ _ c.if-old-lt-TERMS.true, ((λ e. absurd (false≢true e)), ((λ e. absurd (false≢true e)), (λ _. (refl, refl)))))

returns-4 : tie.Need-returns-then-state-lt-STATE
returns-4 c = (outcomes.revise_short_state _ _ _ _ c.if-state-lt-STATE.true, ((λ e. absurd (false≢true e)), ((λ e. absurd (false≢true e)), (λ _. (refl, refl)))))

returns-5 : tie.Need-returns-then-not-check_terms
returns-5 c =
    let k = c in
    let l = lengths k.before.before.before in (
      outcomes.revise_bad_new _ _ _ _ l.if-old-lt-TERMS.false l.if-state-lt-STATE.false l.if-new-lt-TERMS.false l.if-second-lt-STATE.false
          (sym k.check_terms.ensures.0 ∙ not-true _ c.if-not-check_terms.true-raw),
      ((λ e. absurd (false≢true e)), ((λ e. absurd (false≢true e)), (λ _. (refl, refl)))),
    )

returns-6 : tie.Need-returns-then-not-check_terms-2
returns-6 c =
    let k = c in
    let l = lengths (new-checked (new-passed k.before.before.before)) in (
      outcomes.revise_bad_old _ _ _ _ l.if-old-lt-TERMS.false l.if-state-lt-STATE.false l.if-new-lt-TERMS.false l.if-second-lt-STATE.false
          (sym k.check_terms-2.ensures.0 ∙ not-true _ c.if-not-check_terms-2.true-raw),
      ((λ e. absurd (false≢true e)), ((λ e. absurd (false≢true e)), (λ _. (refl, refl)))),
    )

check-state-requires : tie.Need-check_state-requires
check-state-requires c κs =
    let k = c in
    ((old_good k.before.before, (lengths (new-checked (new-passed (old-checked k.before.before)))).if-state-lt-STATE.false), (old-checked k.before.before).check_terms-2.ensures.1.1 (outcomes.not-false _ k.if-not-check_terms-2.false-raw))

returns-7 : tie.Need-returns-then-not-check_state
returns-7 c =
    let k = old-passed c.before in
    let n = new-passed (old-checked k) in
    let l = lengths (new-checked n) in (
      outcomes.revise_bad_state _ _ _ _ l.if-old-lt-TERMS.false l.if-state-lt-STATE.false l.if-new-lt-TERMS.false l.if-second-lt-STATE.false
          (old_good k) (new_good n) (sym c.check_state.ensures ∙ not-true _ c.if-not-check_state.true-raw),
      ((λ e. absurd (false≢true e)), ((λ e. absurd (false≢true e)), (λ _. (refl, refl)))),
    )

-- The sizes are looked at.
abbrev state-passed : tie.After-is_same_size → tie.Else-not-check_state
state-passed c = c.before

returns-8 : tie.Need-returns-then-not-is_same_size
returns-8 c =
    let z = c in
    let s = state-passed z.before in
    let k = old-passed (state-checked s) in
    let n = new-passed (old-checked k) in
    let l = lengths (new-checked n) in (
      outcomes.revise_other_size _ _ _ _ l.if-old-lt-TERMS.false l.if-state-lt-STATE.false l.if-new-lt-TERMS.false l.if-second-lt-STATE.false
          (old_good k) (new_good n) (sym (state-checked s).check_state.ensures ∙ outcomes.not-false _ s.if-not-check_state.false-raw)
          (sym z.is_same_size.ensures ∙ not-true _ c.if-not-is_same_size.true-raw),
      ((λ e. absurd (false≢true e)), ((λ e. absurd (false≢true e)), (λ _. (refl, refl)))),
    )

returns-9 : tie.Need-returns
returns-9 c =
    let z = c in
    let s = state-passed z.before in
    let k = old-passed (state-checked s) in
    let n = new-passed (old-checked k) in
    let l = lengths (new-checked n) in (
      outcomes.revise_passed _ _ _ _ l.if-old-lt-TERMS.false l.if-state-lt-STATE.false l.if-new-lt-TERMS.false l.if-second-lt-STATE.false
          (old_good k) (new_good n) (sym (state-checked s).check_state.ensures ∙ outcomes.not-false _ s.if-not-check_state.false-raw)
          (sym z.is_same_size.ensures ∙ outcomes.not-false _ c.if-not-is_same_size.false-raw),
      ((λ _. ((old-checked k).check_terms-2.ensures.1.1 (outcomes.not-false _ k.if-not-check_terms-2.false-raw)).0), ((λ _. ((new-checked n).check_terms.ensures.1.1 (outcomes.not-false _ n.if-not-check_terms.false-raw)).0), (λ e. absurd (true≢false e)))),
    )

pub inspect_revision_spec : {M : Type 1} → statement M
inspect_revision_spec =
    tie.close
    (tie.spec
    returns
    returns-2
    returns-3
    returns-4
    (λ c. search rules)
    (λ c. search rules)
    (λ c κs. (search rules, search rules, refl))
    returns-5
    (λ c. search rules)
    (λ c. search rules)
    (λ c κs. (search rules, search rules, refl))
    returns-6
    (λ c. search rules)
    (λ c. search rules)
    check-state-requires
    returns-7
    (λ c κs. search rules)
    returns-8
    returns-9)
