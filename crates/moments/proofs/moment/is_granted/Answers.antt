use Rattle.memory.specs.Layout.{terms_of}
use Rattle.memory.proofs.Accepted.{good}
use Rattle.deciding.proofs.SameDecision.{all_named}
use Rattle.moments.proofs.moment.is_granted.Goals as goal

pub is_so-requires-clause-bound : goal.is_so-requires-clause-bound
is_so-requires-clause-bound c =
    let x = c.args in
    let g = good x.terms.now c.requires.terms_words_in_bounds.1 in
    let call = all_named (terms_of x.terms.now) g x.event x.from x.to c.requires.state_words_in_bounds.2 in
    (rw c.policy_of.ensures.value (g.policy_exists x.event call.event), call.from, call.to)
