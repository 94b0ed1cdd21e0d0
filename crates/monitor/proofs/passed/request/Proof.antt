-- `monitor::passed::request` meets its contract.
use borrow.Author.Rules.{rules}
use mathlib.Core.Path.{◌≡◌, sym, ap₂, ◌∙◌}
use mathlib.Core.Bool.{true}
use Rattle.memory.specs.Layout.{terms_of}
use Rattle.calls.specs.Monitor.{answer, is_decided, moves, answer_of}
use Rattle.calls.proofs.Answers as answers
use Rattle.monitor.proofs.passed.request.Statement.{statement}
use Rattle.monitor.proofs.passed.request.Tie as tie

-- The function's entry, and where the answer is known.
abbrev start : tie.After-look-a → tie.Start
start c = c.before.before.before.before.before

abbrev looked : tie.After-is_moving → tie.After-look-a
looked c = c.before.before

-- The answer is the one that is due.
said : (c : tie.After-look-a) → let x = (start c).args in
    answer_of c.look-a.result ≡ answer x.terms.now x.state.now x.scratch.now x.event x.from x.to
said c = c.look-a.ensures (start c).args.scratch.now (start c).requires.long_scratch

-- What is_moving says of it.
due : (c : tie.After-is_moving) → let x = (start (looked c)).args in
    c.is_moving.result
    ≡ moves ((terms_of x.terms.now).kept x.event)
    (answer x.terms.now x.state.now x.scratch.now x.event x.from x.to)
due c = c.is_moving.ensures ∙ ap₂ moves c.is_kept.ensures (said (looked c))

-- Where a moment is made, there is a verdict.
decided : (c : tie.Then-is_moving) → is_decided (answer_of (looked c.before).look-a.result) ≡ true
decided c =
    answers.moves_decided c.is_kept.result (answer_of (looked c.before).look-a.result)
    (sym c.is_moving.ensures ∙ c.if-is_moving.true)

look-requires : tie.Need-look-a-requires
look-requires c κs =
    let p = c.requires in
    ((p.long_terms, p.good_terms), (p.indexed, (p.long_state, p.good-state)))

next-moment-requires : tie.Need-next_moment-requires
next-moment-requires c κs =
    let t = c in
    let k = looked t.before.before.before.before in
    let p = (start k).requires in
    let n = (answers.verdict_says _ _ _ _ _ _ (said k) (decided t.before.before.before)).names in
    ((p.long_terms, p.good_terms, p.indexed), ((p.long_state, p.good-state, n), p.long_scratch))

returns : tie.Need-returns-then-is_moving
returns c =
    let m = c in
    let t = m in
    let a = said (looked t.before.before.before.before.before.before.before.before.before) in
    let g = sym (due t.before.before.before.before.before.before.before.before.before) ∙ t.if-is_moving.true in (
      a,
      (
        answers.state_moved _ _ _ _ _ _ g a m.is_grant.ensures m.next_moment.ensures.0,
        answers.scratch_cleared _ _ _ _ _ _ g m.next_moment.ensures.1,
      ),
    )

returns-2 : tie.Need-returns
returns-2 c =
    let g = sym (due c.before) ∙ c.if-is_moving.false in
    (said (looked c.before), (answers.state_kept _ _ _ _ _ _ g, answers.scratch_kept _ _ _ _ _ _ g))

pub request_spec : {M : Type 1} → statement M
request_spec =
    tie.close
    (tie.spec
    look-requires
    (λ c κs. search rules)
    (λ c κs. search rules)
    (λ c κs. search rules)
    next-moment-requires
    (λ c. search rules)
    (λ c. search rules)
    returns
    (λ c. search rules)
    returns-2)
