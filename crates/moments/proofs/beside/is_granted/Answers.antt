use Rattle.std.proofs.Common.{◌≡◌, take, arith}
use lib.Seq.{length-take-le}
use Rattle.theory.specs.Meaning.{assign}
use Rattle.memory.specs.Layout.{relation_words, own_words, joined, terms_of}
use Rattle.memory.proofs.Accepted.{good}
use Rattle.deciding.specs.private.Rows.{now_at}
use Rattle.deciding.proofs.Apart as apart
use Rattle.deciding.proofs.MomentSteps as moves
use Rattle.deciding.proofs.Parts.{joined_long}
use Rattle.deciding.proofs.SameDecision.{all_named}
use Rattle.moments.proofs.beside.is_granted.Goals as goal

pub invariant_of-present : goal.invariant_of-present
invariant_of-present c =
    let x = c.args in
    let t = c.requires.terms_words_in_bounds in
    let l = c.requires.relation_words_in_bounds in
    let bank = moves.movable x.terms.now x.index.now (joined x.relations.now x.own.now) t.0 t.1 t.2 (omega (arith, joined_long x.relations.now x.own.now l.0 l.1)) l.2 in
    record { ready = apart.ready_apart (take relation_words x.relations.now) (take own_words x.own.now) bank (length-take-le relation_words x.relations.now l.0) (length-take-le own_words x.own.now l.1) }

pub settle-requires : goal.settle-requires
settle-requires c =
    let x = c.args in
    let g = good x.terms.now c.requires.terms_words_in_bounds.1 in
    let call = all_named (terms_of x.terms.now) g x.event x.from x.to c.requires.to_value in
    record { bound = (rw c.policy_of-policy.ensures.value (g.policy_exists x.event call.event), call.from, call.to) }

pub returns : goal.returns
returns c =
    let x = c.args in
    let T = terms_of x.terms.now in
    let g = good x.terms.now c.requires.terms_words_in_bounds.1 in
    let l = c.requires.relation_words_in_bounds in
    let call = all_named T g x.event x.from x.to c.requires.to_value in
    moves.granted T g (joined x.relations.now x.own.now) (omega (arith, joined_long x.relations.now x.own.now l.0 l.1)) l.2 x.event x.from x.to call
    c.policy_of-policy.ensures.value
    (apart.joined_parts (take relation_words x.relations.now) (take own_words x.own.now) (length-take-le relation_words x.relations.now l.0) (length-take-le own_words x.own.now l.1)
    (λ rel past. c.settle.result ≡ now_at T rel past (assign (λ y. 0) 0 x.to) c.policy_of-policy.result x.from) c.settle.ensures)
