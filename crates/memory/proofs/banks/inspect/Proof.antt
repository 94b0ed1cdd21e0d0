-- `memory::banks::inspect` meets its contract.
use borrow.Author.Rules.{rules}
use borrow.Author.Tests.{not-true, not-false}
use Prim.Native.Nat.{◌≤◌}
use lib.ListN.{length}
use mathlib.Core.Path.{◌≡◌, refl, sym, ◌∙◌}
use mathlib.Core.Bool.{true, false, true≢false, false≢true}
use Rattle.memory.specs.Layout.{terms_words, relation_words, own_words}
use Rattle.memory.specs.Checks.{good_memory}
use Rattle.memory.proofs.BankOutcomes as outcomes
use Rattle.memory.proofs.banks.inspect.Statement.{statement}
use Rattle.memory.proofs.banks.inspect.Tie as tie

abbrev checked : tie.After-made-2-1 → tie.After-check_terms
checked c = c.before.before

abbrev looked : tie.After-check_terms → tie.Else-is_short
looked c = c.before.before.before

abbrev start : tie.Else-is_short → tie.Start
start c = c.before.before.before.before.before.before

lengths : (c : tie.Else-is_short) → let x = (start c).args in
    outcomes.short x.terms.now x.relations.now x.own.now x.other.now ≡ false
lengths c = sym c.is_short.ensures ∙ c.if-is_short.false

terms_good : (c : tie.Else-not-check_terms) → good_memory (start (looked (checked c.before))).args.terms.now ≡ true
terms_good c = sym (checked c.before).check_terms.ensures.0 ∙ not-false _ c.if-not-check_terms.false-raw

abbrev terms-passed : tie.After-check_banks → tie.Else-not-check_terms
terms-passed c = c.before.before.before

long : (c : tie.Else-is_short) → let x = (start c).args in
    (terms_words ≤ length x.terms.now) × (relation_words ≤ length x.relations.now) × (own_words ≤ length x.own.now) × (own_words ≤ length x.other.now)
long c = let x = (start c).args in outcomes.banks_long x.terms.now x.relations.now x.own.now x.other.now (lengths c)

returns : tie.Need-returns-then-is_short
returns c = (outcomes.check_short _ _ _ _ (sym c.is_short.ensures ∙ c.if-is_short.true), ((λ e. absurd (false≢true e)), (λ _. refl)))

returns-2 : tie.Need-returns-then-not-check_terms
returns-2 c =
    let k = checked c.before in
    (outcomes.check_bad_terms _ _ _ _ (lengths (looked k)) (sym k.check_terms.ensures.0 ∙ not-true _ c.if-not-check_terms.true-raw), ((λ e. absurd (false≢true e)), (λ _. refl)))

check-banks-requires : tie.Need-check_banks-requires
check-banks-requires c κs =
    let k = c in
    let l = long (looked (checked k.before.before.before)) in
    ((terms_good k.before.before, l.1, l.2, l.3), (checked k.before.before.before).check_terms.ensures.1.1 (not-false _ k.if-not-check_terms.false-raw))

returns-3 : tie.Need-returns-then-not-check_banks
returns-3 c =
    let k = terms-passed c.before in (
      outcomes.check_bad_banks _ _ _ _ (lengths (looked (checked k.before))) (terms_good k) (sym c.check_banks.ensures ∙ not-true _ c.if-not-check_banks.true-raw),
      ((λ e. absurd (false≢true e)), (λ _. refl)),
    )

returns-4 : tie.Need-returns
returns-4 c =
    let k = terms-passed c.before in (
      outcomes.check_passed _ _ _ _ (lengths (looked (checked k.before))) (terms_good k) (sym c.check_banks.ensures ∙ not-false _ c.if-not-check_banks.false-raw),
      ((λ _. ((checked k.before).check_terms.ensures.1.1 (not-false _ k.if-not-check_terms.false-raw)).0), (λ e. absurd (true≢false e))),
    )

pub inspect_spec : {M : Type 1} → statement M
inspect_spec =
    tie.close
    (tie.spec
    (λ c κs. search rules)
    returns
    (λ c. search rules)
    (λ c. search rules)
    (λ c κs. ((long c.before.before).0, search rules, refl))
    returns-2
    (λ c. search rules)
    (λ c. search rules)
    check-banks-requires
    returns-3
    returns-4)
