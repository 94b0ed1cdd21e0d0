use Rattle.std.proofs.Common.{drop, arith}
use mathlib.Core.Path.{◌∙◌}
use lib.Seq.{length-take-le, drop_at}
use Rattle.memory.specs.Layout.{relation_words, own_words, block_words, joined}
use Rattle.memory.proofs.Accepted.{good}
use Rattle.deciding.proofs.MomentSteps.{movable}
use Rattle.deciding.proofs.Parts as parts
use Rattle.deciding.proofs.Stored.{cleared_front}
use Rattle.moments.proofs.beside.next_moments.Goals as goal

pub move_on-requires-clause-movable : goal.move_on-requires-clause-movable
move_on-requires-clause-movable c =
    let x = c.args in
    let t = c.requires.terms_words_in_bounds in
    let l = c.requires.relation_words_in_bounds in
    let own = parts.joined_long x.relations.now x.own.now l.0 l.1 in
    let other = parts.joined_long x.relations.now x.other.now l.0 l.2 in (
      movable x.terms.now x.index.now (joined x.relations.now x.own.now) t.0 t.1 t.2 (omega (arith, own)) c.requires.own_value.0,
      movable x.terms.now x.index.now (joined x.relations.now x.other.now) t.0 t.1 t.2 (omega (arith, other)) c.requires.own_value.1,
    )

pub returns-clause-moved : goal.returns-clause-moved
returns-clause-moved c =
    let x = c.args in
    let l = c.requires.relation_words_in_bounds in
    let fine = good x.terms.now c.requires.terms_words_in_bounds.1 in
    let r = c.move_on.new.relations in
    let o = c.move_on.new.own in
    let q = c.move_on.new.other in
    let lr = c.move_on.auto.relations ∙ length-take-le relation_words x.relations.now l.0 in
    let lo = c.move_on.auto.own ∙ length-take-le own_words x.own.now l.1 in
    let lq = c.move_on.auto.other ∙ length-take-le own_words x.other.now l.2 in
    record {
      here = parts.joined_back x.relations.now x.own.now r o lr lo
          ∙ parts.becomes_words fine (parts.joined_long x.relations.now x.own.now l.0 l.1) c.requires.own_value.0 c.move_on.ensures.becomes;
      beside = parts.joined_back x.relations.now x.other.now r q lr lq
          ∙ parts.becomes_words fine (parts.joined_long x.relations.now x.other.now l.0 l.2) c.requires.own_value.1 c.move_on.ensures.becomes_2;
      further_relations = drop_at r (drop relation_words x.relations.now) relation_words lr;
      further_own = drop_at o (drop own_words x.own.now) own_words lo;
      further_other = drop_at q (drop own_words x.other.now) own_words lq;
    }

pub returns-clause-scratch_after : goal.returns-clause-scratch_after
returns-clause-scratch_after c =
    let s = c.args.scratch.now in
    let h = c.requires.scratch_words_in_bounds in (
      cleared_front s c.move_on.new.rows c.clear.new.words h.0 (c.move_on.auto.rows ∙ length-take-le block_words s (omega arith)) c.clear.ensures,
      parts.cleared_all c.args.spare.now c.clear-2.new.words h.1 c.clear-2.ensures,
    )
