-- `monitor::banks::request` meets its contract.
use borrow.Author.Rules.{rules}
use mathlib.Core.Path.{◌≡◌, sym, ap, ap₂, ◌∙◌}
use mathlib.Core.Bool.{true}
use Rattle.memory.specs.Layout.{terms_of}
use Rattle.calls.specs.Monitor.{is_decided, moves, granted, answer_of}
use Rattle.calls.proofs.Answers.{moves_decided}
use Rattle.banking.specs.Banking.{bank_answer}
use Rattle.banking.proofs.BankAnswers as answers
use Rattle.monitor.proofs.BankWords.{moved_after}
use Rattle.monitor.proofs.banks.request.Statement.{statement}
use Rattle.monitor.proofs.banks.request.Tie as tie

-- The function's entry, and where the answer is known.
abbrev judged : tie.After-is_moving → tie.After-answer_call-a
judged c = c.before.before

abbrev start : tie.After-answer_call-a → tie.Start
start c = c.before.before.before.before.before.before.before.before

-- What is_moving says of the answer that is due.
due : (c : tie.After-is_moving) → let x = (start (judged c)).args in
    c.is_moving.result
    ≡ moves ((terms_of x.terms.now).kept x.event)
    (bank_answer x.terms.now x.relations.now x.own.now x.other.now x.scratch.now x.spare.now x.event x.from x.to)
due c = c.is_moving.ensures ∙ ap₂ moves c.is_kept.ensures (judged c).answer_call-a.ensures.0

-- Where a moment is made, there is a verdict.
decided : (c : tie.Then-is_moving) → is_decided (answer_of (judged c.before).answer_call-a.result) ≡ true
decided c = moves_decided c.is_kept.result (answer_of (judged c.before).answer_call-a.result) (sym c.is_moving.ensures ∙ c.if-is_moving.true)

next-moments-requires : tie.Need-next_moments-requires
next-moments-requires c κs =
    let t = c in
    let p = answers.verdict_says _ _ _ _ _ _ _ _ _ (judged t.before.before.before.before.before.before.before.before).answer_call-a.ensures.0 (decided t.before.before.before.before.before.before.before) in
    let k = p.checked in (
      (k.long_terms, k.good_terms, (judged t.before.before.before.before.before.before.before.before).answer_call-a.ensures.1 (decided t.before.before.before.before.before.before.before), p.names),
      ((k.long_banks.relations_long, k.long_banks.own_long, k.long_banks.other_long), ((k.good-own, k.good_other), (p.long_scratch, p.long_spare))),
    )

returns : tie.Need-returns-then-is_moving
returns c =
    let m = c in
    let t = m in
    let x = (start (judged t.before.before.before.before.before.before.before.before.before.before.before.before.before.before.before.before.before.before.before)).args in
    let a = (judged t.before.before.before.before.before.before.before.before.before.before.before.before.before.before.before.before.before.before.before).answer_call-a.ensures.0 in
    let k = sym (due t.before.before.before.before.before.before.before.before.before.before.before.before.before.before.before.before.before.before.before) ∙ t.if-is_moving.true in
    let after = moved_after x.terms.now x.relations.now x.own.now x.other.now x.scratch.now x.spare.now x.event x.from x.to k
    (m.is_grant.ensures ∙ ap granted a) m.next_moments.ensures.0 in (
      a,
      (
        after.0,
        (
          after.1,
          (
            after.2,
            (m.next_moments.ensures.1.0 ∙ answers.lent_cleared _ _ _ _ _ _ _ _ _ k _, m.next_moments.ensures.1.1 ∙ answers.lent_cleared _ _ _ _ _ _ _ _ _ k _),
          ),
        ),
      ),
    )

returns-2 : tie.Need-returns
returns-2 c =
    let k = sym (due c.before) ∙ c.if-is_moving.false in (
      (judged c.before).answer_call-a.ensures.0,
      (
        answers.relations_kept _ _ _ _ _ _ _ _ _ k,
        (
          answers.own_kept _ _ _ _ _ _ _ _ _ k,
          (
            answers.other_kept _ _ _ _ _ _ _ _ _ k,
            (answers.lent_kept _ _ _ _ _ _ _ _ _ k _, answers.lent_kept _ _ _ _ _ _ _ _ _ k _),
          ),
        ),
      ),
    )

pub request_spec : {M : Type 1} → statement M
request_spec =
    tie.close
    (tie.spec
    (λ c κs. search rules)
    (λ c κs. search rules)
    (λ c κs. search rules)
    (λ c. let t = c in sym ((judged t.before.before).answer_call-a.ensures.1 (decided t.before)).long)
    (λ c κs. search rules)
    next-moments-requires
    (λ c. search rules)
    (λ c. search rules)
    (λ c. search rules)
    (λ c. search rules)
    (λ c. search rules)
    returns
    (λ c. search rules)
    (λ c. search rules)
    (λ c. search rules)
    (λ c. search rules)
    (λ c. search rules)
    returns-2)
