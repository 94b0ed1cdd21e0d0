-- `memory::inspect_entry` meets its contract.
use borrow.Author.Rules.{rules}
use borrow.Author.Tests.{not-true}
use mathlib.Core.Path.{◌≡◌, refl, sym, ◌∙◌}
use mathlib.Core.Bool.{true, true≢false, false≢true}
use Rattle.memory.specs.Checks.{memory_tests, good_memory}
use Rattle.theory.proofs.Good.{every_at}
use Rattle.memory.proofs.Outcomes as outcomes
use Rattle.memory.proofs.inspect_entry.Statement.{statement}
use Rattle.memory.proofs.inspect_entry.Tie as tie

-- The function's entry, from the place where the lengths are looked at.
abbrev start : tie.Else-state-lt-STATE → tie.Start
start c = c.before.before.before.before

-- The terms are looked at, and pass.
abbrev checked : tie.Else-not-check_terms → tie.After-check_terms
checked c = c.before.before.before

abbrev lengths : tie.After-check_terms → tie.Else-state-lt-STATE
lengths c = c.before.before.before

terms_good : (c : tie.Else-not-check_terms) → good_memory (start (lengths (checked c))).args.terms.now ≡ true
terms_good c = sym (checked c).check_terms.ensures.0 ∙ outcomes.not-false _ c.if-not-check_terms.false-raw

-- The state is looked at.
abbrev passed : tie.After-check_state → tie.Else-not-check_terms
passed c = c.before.before.before

-- Terms and state pass.
all-passed : (c : tie.Else-not-check_state) → outcomes.Checked (start (lengths (checked (passed c.before)))).args.terms.now (start (lengths (checked (passed c.before)))).args.state.now
all-passed c =
    let k = passed c.before in
    let l = lengths (checked k) in
    record {
      long_terms = l.if-terms-lt-TERMS.false;
      long_state = l.if-state-lt-STATE.false;
      good_terms = terms_good k;
      good-state = sym c.check_state.ensures ∙ outcomes.not-false _ c.if-not-check_state.false-raw;
    }

returns : tie.Need-returns-then-terms-lt-TERMS
returns c = (outcomes.entry_unchecked _ _ _ _ _ (outcomes.check_short_terms _ _ c.if-terms-lt-TERMS.true), ((λ e. absurd (false≢true e)), (λ _. refl)))

returns-2 : tie.Need-returns-then-state-lt-STATE
returns-2 c = (outcomes.entry_unchecked _ _ _ _ _ (outcomes.check_short_state _ _ c.if-state-lt-STATE.true), ((λ e. absurd (false≢true e)), (λ _. refl)))

returns-3 : tie.Need-returns-then-not-check_terms
returns-3 c =
    let k = c in
    let l = lengths k.before.before.before in (
      outcomes.entry_unchecked _ _ _ _ _ (outcomes.check_bad_terms _ _ l.if-terms-lt-TERMS.false l.if-state-lt-STATE.false (sym k.check_terms.ensures.0 ∙ not-true _ c.if-not-check_terms.true-raw)),
      ((λ e. absurd (false≢true e)), (λ _. refl)),
    )

check-state-requires : tie.Need-check_state-requires
check-state-requires c κs =
    let k = c in
    ((terms_good k.before.before, (lengths (checked k.before.before)).if-state-lt-STATE.false), (checked k.before.before).check_terms.ensures.1.1 (outcomes.not-false _ k.if-not-check_terms.false-raw))

returns-4 : tie.Need-returns-then-not-check_state
returns-4 c =
    let k = passed c.before in
    let l = lengths (checked k) in (
      outcomes.entry_unchecked _ _ _ _ _ (outcomes.check_bad_state _ _ l.if-terms-lt-TERMS.false l.if-state-lt-STATE.false (terms_good k) (sym c.check_state.ensures ∙ not-true _ c.if-not-check_state.true-raw)),
      ((λ e. absurd (false≢true e)), (λ _. refl)),
    )

is-askable-requires : tie.Need-is_askable-requires
unfolding good_memory
is-askable-requires c κs =
    let k = passed c.before.before in
    (every_at (memory_tests _) (terms_good k) 6, ((checked k).check_terms.ensures.1.1 (outcomes.not-false _ k.if-not-check_terms.false-raw)).1)

returns-5 : tie.Need-returns-then-not-is_askable
returns-5 c =
    let e = c in
    (outcomes.entry_unasked _ _ _ (all-passed e.before.before.before) (sym c.is_askable.ensures ∙ not-true _ c.if-not-is_askable.true-raw), ((λ e. absurd (false≢true e)), (λ _. refl)))

returns-6 : tie.Need-returns
returns-6 c =
    let e = c in
    let k = passed e.before.before.before.before in (
      outcomes.entry_passed _ _ _ (all-passed e.before.before.before) (sym c.is_askable.ensures ∙ outcomes.not-false _ c.if-not-is_askable.false-raw),
      ((λ _. ((checked k).check_terms.ensures.1.1 (outcomes.not-false _ k.if-not-check_terms.false-raw)).0), (λ e. absurd (true≢false e))),
    )

pub inspect_entry_spec : {M : Type 1} → statement M
inspect_entry_spec =
    tie.close
    (tie.spec
    returns
    returns-2
    (λ c. search rules)
    (λ c. search rules)
    (λ c κs. (search rules, search rules, refl))
    returns-3
    (λ c. search rules)
    (λ c. search rules)
    check-state-requires
    returns-4
    (λ c. search rules)
    is-askable-requires
    returns-5
    returns-6)
