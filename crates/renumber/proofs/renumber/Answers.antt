-- The checks of terms and state, of the list, and then the rewritten state.
use Rattle.std.proofs.Common.{arith, ◌≡◌, refl, ℕ, Bool, List}
use mathlib.Core.Path.{sym, ap, ◌∙◌}
use Rattle.std.proofs.lemmas.Result.{err_from_is_err_and}
use Rattle.theory.specs.NewNumbers.{renumbers}
use Rattle.memory.specs.Layout.{terms_of}
use Rattle.memory.specs.Outcome.Outcome.{passed, refused}
use Rattle.calls.specs.Renumbering.{renumbering}
use Rattle.memory.proofs.Accepted.{good}
use Rattle.memory.proofs.Outcomes.{passed_checked}
use Rattle.calls.proofs.MembersOutcomes as goals
use Rattle.renumber.proofs.Placing as placing
use Rattle.renumber.proofs.renumber.Goals as goal

pub returns-then-second-lt-STATE-clause-result_value :
    goal.returns-then-second-lt-STATE-clause-result_value
returns-then-second-lt-STATE-clause-result_value c = let a = c.args in goals.short_second a.terms.now a.state.now a.numbers.now a.second.now (omega arith)

pub returns-then-second-lt-STATE-clause-second_after :
    goal.returns-then-second-lt-STATE-clause-second_after
returns-then-second-lt-STATE-clause-second_after c =
    let a = c.args in
    goals.second_kept a.terms.now a.state.now a.numbers.now a.second.now 6 0 (goals.short_second a.terms.now a.state.now a.numbers.now a.second.now (omega arith))

pub returns-in_err-inspect-clause-result_value : goal.returns-in_err-inspect-clause-result_value
returns-in_err-inspect-clause-result_value c =
    let p = err_from_is_err_and c.from_residual.result c.from_residual.ensures.1 in
    let a = c.args in
    rw (p.1, p.2) (goals.unchecked a.terms.now a.state.now a.numbers.now a.second.now (omega arith) _ _ c.in_err-inspect.ensures.result_value)

pub returns-in_err-inspect-clause-second_after : goal.returns-in_err-inspect-clause-second_after
returns-in_err-inspect-clause-second_after c =
    let a = c.args in
    goals.second_kept a.terms.now a.state.now a.numbers.now a.second.now _ _
    (goals.unchecked a.terms.now a.state.now a.numbers.now a.second.now (omega arith) _ _ c.in_err-inspect.ensures.result_value)

pub are_new_numbers-requires : goal.are_new_numbers-requires
are_new_numbers-requires c =
    omega (arith, c.members.ensures.value, (good _ (passed_checked _ _ c.in_ok-inspect.ensures.result_value).good_terms).few_members)

-- What the list was found to be.
told : (terms numbers : List ℕ) (n : ℕ) (b : Bool) → b ≡ renumbers n numbers → n ≡ (terms_of terms).members → renumbers (terms_of terms).members numbers ≡ b
told terms numbers n b e l = sym (e ∙ ap (λ x. renumbers x numbers) l)

wrong : (c : goal.Then-not-are_new_numbers) → refused 15 0 ≡ renumbering c.args.terms.now c.args.state.now c.args.numbers.now c.args.second.now
wrong c =
    let a = c.args in
    goals.wrong_numbers a.terms.now a.state.now a.numbers.now a.second.now (omega arith) (passed_checked _ _ c.in_ok-inspect.ensures.result_value)
    (told a.terms.now a.numbers.now _ _ c.if-not-are_new_numbers.ensures c.members.ensures.value)

pub returns-then-not-are_new_numbers-clause-result_value :
    goal.returns-then-not-are_new_numbers-clause-result_value
returns-then-not-are_new_numbers-clause-result_value c = wrong c

pub returns-then-not-are_new_numbers-clause-second_after :
    goal.returns-then-not-are_new_numbers-clause-second_after
returns-then-not-are_new_numbers-clause-second_after c =
    let a = c.args in goals.second_kept a.terms.now a.state.now a.numbers.now a.second.now 15 0 (wrong c)

pub rewrite-requires-clause-terms_value : goal.rewrite-requires-clause-terms_value
rewrite-requires-clause-terms_value c =
    ((passed_checked _ _ c.in_ok-inspect.ensures.result_value).good_terms, c.in_ok-inspect.ensures.indexed refl)

pub rewrite-requires-clause-state_words_in_bounds :
    goal.rewrite-requires-clause-state_words_in_bounds
rewrite-requires-clause-state_words_in_bounds c =
    let k = passed_checked _ _ c.in_ok-inspect.ensures.result_value in
    let T = terms_of c.args.terms.now in
    (k.long_state, omega arith, placing.event_of_good T (good _ k.good_terms) c.args.state.now k.good-state)

pub rewrite-requires-clause-numbers_len_bound : goal.rewrite-requires-clause-numbers_len_bound
rewrite-requires-clause-numbers_len_bound c =
    let few = (good _ (passed_checked _ _ c.in_ok-inspect.ensures.result_value).good_terms).few_members in
    let n = (terms_of c.args.terms.now).members in
    let right = told c.args.terms.now c.args.numbers.now _ _ c.if-not-are_new_numbers.ensures c.members.ensures.value in
    (placing.long_of n c.args.numbers.now few right, placing.apart_of n c.args.numbers.now few right, placing.few_of n c.args.numbers.now right)

filled : (c : goal.After-slice_known-2-1) → passed ≡ renumbering c.args.terms.now c.args.state.now c.args.numbers.now c.args.second.now
filled c =
    let a = c.args in
    goals.right_numbers a.terms.now a.state.now a.numbers.now a.second.now (omega arith) (passed_checked _ _ c.in_ok-inspect.ensures.result_value)
    (told a.terms.now a.numbers.now _ _ c.if-not-are_new_numbers.ensures c.members.ensures.value)

pub returns-clause-result_value : goal.returns-clause-result_value
returns-clause-result_value c = filled c

pub returns-clause-second_after : goal.returns-clause-second_after
returns-clause-second_after c =
    let a = c.args in
    let k = passed_checked _ _ c.in_ok-inspect.ensures.result_value in
    let T = terms_of a.terms.now in
    placing.second_words T (good _ k.good_terms) a.numbers.now a.state.now (told a.terms.now a.numbers.now _ _ c.if-not-are_new_numbers.ensures c.members.ensures.value)
    k.long_state k.good-state a.second.now _ c.rewrite.ensures (omega arith)
    ∙ goals.second_filled a.terms.now a.state.now a.numbers.now a.second.now (filled c)
