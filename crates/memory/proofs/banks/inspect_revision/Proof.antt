-- `memory::banks::inspect_revision` meets its contract.
use borrow.Author.Rules.{rules}
use borrow.Author.Tests.{not-true, not-false}
use Prim.Native.Nat.{◌≤◌}
use lib.ListN.{length}
use mathlib.Core.Path.{◌≡◌, refl, sym, ◌∙◌}
use mathlib.Core.Bool.{true, false, true≢false, false≢true}
use Rattle.memory.specs.Layout.{terms_words, relation_words, own_words}
use Rattle.memory.specs.Checks.{good_memory}
use Rattle.memory.proofs.BankOutcomes as outcomes
use Rattle.memory.proofs.banks.inspect_revision.Statement.{statement}
use Rattle.memory.proofs.banks.inspect_revision.Tie as tie

-- The lengths of both memories are looked at.
abbrev start : tie.Else-is_short-2 → tie.Start
start c = c.before.before.before.before.before.before.before.before.before.before.before.before

lengths : (c : tie.Else-is_short-2) → let x = (start c).args in
    outcomes.short x.old.now x.relations.now x.own.now x.other.now ≡ false
lengths c = let s = c in sym s.is_short.ensures ∙ s.if-is_short.false

second : (c : tie.Else-is_short-2) → let x = (start c).args in
    outcomes.short x.new.now x.edges.now x.third.now x.fourth.now ≡ false
second c = sym c.is_short-2.ensures ∙ c.if-is_short-2.false

-- The new terms are looked at, and then the old.
abbrev looked : tie.After-check_terms → tie.Else-is_short-2
looked c = c.before.before.before

abbrev new-checked : tie.Else-not-check_terms → tie.After-check_terms
new-checked c = c.before.before.before

new_good : (c : tie.Else-not-check_terms) → good_memory (start (looked (new-checked c))).args.new.now ≡ true
new_good c = sym (new-checked c).check_terms.ensures.0 ∙ not-false _ c.if-not-check_terms.false-raw

abbrev new-passed : tie.After-check_terms-2 → tie.Else-not-check_terms
new-passed c = c.before.before.before

abbrev old-checked : tie.Else-not-check_terms-2 → tie.After-check_terms-2
old-checked c = c.before.before.before

old_good : (c : tie.Else-not-check_terms-2) → good_memory (start (looked (new-checked (new-passed (old-checked c))))).args.old.now ≡ true
old_good c = sym (old-checked c).check_terms-2.ensures.0 ∙ not-false _ c.if-not-check_terms-2.false-raw

abbrev old-passed : tie.After-check_banks → tie.Else-not-check_terms-2
old-passed c = c.before.before.before

long : (c : tie.Else-is_short-2) → let x = (start c).args in
    (terms_words ≤ length x.old.now) × (relation_words ≤ length x.relations.now) × (own_words ≤ length x.own.now) × (own_words ≤ length x.other.now)
long c = let x = (start c).args in outcomes.banks_long x.old.now x.relations.now x.own.now x.other.now (lengths c)

new_long : (c : tie.Else-is_short-2) → terms_words ≤ length (start c).args.new.now
new_long c = let x = (start c).args in (outcomes.banks_long x.new.now x.edges.now x.third.now x.fourth.now (second c)).0

returns : tie.Need-returns-then-is_short
returns c =
    (outcomes.revise_short _ _ _ _ _ _ _ _ (sym c.is_short.ensures ∙ c.if-is_short.true), ((λ e. absurd (false≢true e)), ((λ e. absurd (false≢true e)), (λ _. (refl, refl)))))

returns-2 : tie.Need-returns-then-is_short-2
returns-2 c =
    let s = c in (
      outcomes.revise_short_second _ _ _ _ _ _ _ _ (sym s.is_short.ensures ∙ s.if-is_short.false) (sym c.is_short-2.ensures ∙ c.if-is_short-2.true),
      ((λ e. absurd (false≢true e)), ((λ e. absurd (false≢true e)), (λ _. (refl, refl)))),
    )

returns-3 : tie.Need-returns-then-not-check_terms
returns-3 c =
    let k = c in
    let l = looked k.before.before.before in (
      outcomes.revise_bad_new _ _ _ _ _ _ _ _ (lengths l) (second l) (sym k.check_terms.ensures.0 ∙ not-true _ c.if-not-check_terms.true-raw),
      ((λ e. absurd (false≢true e)), ((λ e. absurd (false≢true e)), (λ _. (refl, refl)))),
    )

returns-4 : tie.Need-returns-then-not-check_terms-2
returns-4 c =
    let k = c in
    let n = new-passed k.before.before.before in
    let l = looked (new-checked n) in (
      outcomes.revise_bad_old _ _ _ _ _ _ _ _ (lengths l) (second l) (new_good n) (sym k.check_terms-2.ensures.0 ∙ not-true _ c.if-not-check_terms-2.true-raw),
      ((λ e. absurd (false≢true e)), ((λ e. absurd (false≢true e)), (λ _. (refl, refl)))),
    )

check-banks-requires : tie.Need-check_banks-requires
check-banks-requires c κs =
    let k = c in
    let l = long (looked (new-checked (new-passed (old-checked k.before.before)))) in
    ((old_good k.before.before, l.1, l.2, l.3), (old-checked k.before.before).check_terms-2.ensures.1.1 (not-false _ k.if-not-check_terms-2.false-raw))

returns-5 : tie.Need-returns-then-not-check_banks
returns-5 c =
    let k = old-passed c.before in
    let n = new-passed (old-checked k) in
    let l = looked (new-checked n) in (
      outcomes.revise_bad_banks _ _ _ _ _ _ _ _ (lengths l) (second l) (new_good n) (old_good k) (sym c.check_banks.ensures ∙ not-true _ c.if-not-check_banks.true-raw),
      ((λ e. absurd (false≢true e)), ((λ e. absurd (false≢true e)), (λ _. (refl, refl)))),
    )

returns-6 : tie.Need-returns-then-not-is_same_size
returns-6 c =
    let z = c in
    let s = z in
    let k = old-passed s.before.before.before in
    let n = new-passed (old-checked k) in
    let l = looked (new-checked n) in (
      outcomes.revise_other_size _ _ _ _ _ _ _ _ (lengths l) (second l) (new_good n) (old_good k) (sym s.check_banks.ensures ∙ not-false _ s.if-not-check_banks.false-raw)
          (sym z.is_same_size.ensures ∙ not-true _ c.if-not-is_same_size.true-raw),
      ((λ e. absurd (false≢true e)), ((λ e. absurd (false≢true e)), (λ _. (refl, refl)))),
    )

returns-7 : tie.Need-returns
returns-7 c =
    let z = c in
    let s = z in
    let k = old-passed s.before.before.before in
    let n = new-passed (old-checked k) in
    let l = looked (new-checked n) in (
      outcomes.revise_passed _ _ _ _ _ _ _ _ (lengths l) (second l) (new_good n) (old_good k) (sym s.check_banks.ensures ∙ not-false _ s.if-not-check_banks.false-raw)
          (sym z.is_same_size.ensures ∙ not-false _ c.if-not-is_same_size.false-raw),
      ((λ _. ((old-checked k).check_terms-2.ensures.1.1 (not-false _ k.if-not-check_terms-2.false-raw)).0), ((λ _. ((new-checked n).check_terms.ensures.1.1 (not-false _ n.if-not-check_terms.false-raw)).0), (λ e. absurd (true≢false e)))),
    )

pub inspect_revision_spec : {M : Type 1} → statement M
inspect_revision_spec =
    tie.close
    (tie.spec
    (λ c κs. search rules)
    returns
    (λ c κs. search rules)
    returns-2
    (λ c. search rules)
    (λ c. search rules)
    (λ c κs. (new_long c.before.before, search rules, refl))
    returns-3
    (λ c. search rules)
    (λ c. search rules)
    (λ c κs. ((long (looked (new-checked c.before.before))).0, search rules, refl))
    returns-4
    (λ c. search rules)
    (λ c. search rules)
    check-banks-requires
    returns-5
    (λ c κs. search rules)
    returns-6
    returns-7)
