-- `answer_call`: the scratches, terms and banks, what is asked, and then the verdict.
use Rattle.std.proofs.Common.{refl}
use mathlib.Core.Path.{sym, ◌∙◌}
use Rattle.banking.proofs.BankAnswers as answers
use Rattle.monitor.proofs.banks.answer_call.Goals as goal

pub returns-then-scratch-lt-SCRATCH-clause-result_value :
    goal.returns-then-scratch-lt-SCRATCH-clause-result_value
returns-then-scratch-lt-SCRATCH-clause-result_value c = c.into.ensures ∙ answers.short_scratch _ _ _ _ _ _ _ _ _ c.if-scratch-lt-SCRATCH.true

pub returns-then-spare-lt-SCRATCH-clause-result_value :
    goal.returns-then-spare-lt-SCRATCH-clause-result_value
returns-then-spare-lt-SCRATCH-clause-result_value c = c.into-then-spare-lt-SCRATCH.ensures ∙ answers.short_spare _ _ _ _ _ _ _ _ _ c.if-spare-lt-SCRATCH.true

pub returns-then-not-is_named-clause-result_value :
    goal.returns-then-not-is_named-clause-result_value
returns-then-not-is_named-clause-result_value c =
    c.into-then-not-is_named.ensures
    ∙ answers.unnamed _ _ _ _ _ _ _ _ _ c.if-scratch-lt-SCRATCH.false c.if-spare-lt-SCRATCH.false (answers.passed_checked _ _ _ _ c.in-Ok.ensures.result_value) (sym c.if-not-is_named.ensures)

pub is_granted-requires-clause-terms_words_in_bounds :
    goal.is_granted-requires-clause-terms_words_in_bounds
is_granted-requires-clause-terms_words_in_bounds c =
    let p = answers.passed_checked _ _ _ _ c.in-Ok.ensures.result_value in (p.long_terms, p.good_terms, c.in-Ok.ensures.indexed refl)

pub is_granted-requires-clause-relation_words_in_bounds :
    goal.is_granted-requires-clause-relation_words_in_bounds
is_granted-requires-clause-relation_words_in_bounds c =
    let p = answers.passed_checked _ _ _ _ c.in-Ok.ensures.result_value in (p.long_banks.relations_long, p.long_banks.own_long, p.good-own)

pub returns-then-is_granted-clause-result_value : goal.returns-then-is_granted-clause-result_value
returns-then-is_granted-clause-result_value c =
    answers.judged _ _ _ _ _ _ _ _ _ c.if-scratch-lt-SCRATCH.false c.if-spare-lt-SCRATCH.false (answers.passed_checked _ _ _ _ c.in-Ok.ensures.result_value) (sym c.if-not-is_named.ensures) c.if-is_granted.true c.is_granted.ensures

pub returns-in-Err-clause-result_value : goal.returns-in-Err-clause-result_value
returns-in-Err-clause-result_value c = c.into-in-Err.ensures ∙ answers.unchecked _ _ _ _ _ _ _ _ _ c.if-scratch-lt-SCRATCH.false c.if-spare-lt-SCRATCH.false _ _ c.in-Err.ensures.result_value

pub returns-else-is_granted-clause-result_value : goal.returns-else-is_granted-clause-result_value
returns-else-is_granted-clause-result_value c =
    answers.judged _ _ _ _ _ _ _ _ _ c.if-scratch-lt-SCRATCH.false c.if-spare-lt-SCRATCH.false (answers.passed_checked _ _ _ _ c.in-Ok.ensures.result_value) (sym c.if-not-is_named.ensures) c.if-is_granted.false c.is_granted.ensures
