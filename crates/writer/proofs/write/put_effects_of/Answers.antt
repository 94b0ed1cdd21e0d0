use Rattle.std.proofs.Common.{rules, arith, ◌-◌}
use mathlib.Core.Path.{sym, ◌∙◌}
use Rattle.memory.specs.Layout.{terms_of}
use Rattle.writer.proofs.PutLines.{going_more, going_end, slots_none, slots_stop, slots_more}
use Rattle.writer.proofs.write.put_effects_of.Goals as goal

pub returns-then-word-eq0-clause-put : goal.returns-then-word-eq0-clause-put
unfolding terms_of
returns-then-word-eq0-clause-put c =
    going_end (slots_stop _ _ _ _ (sym c.word.ensures.value ∙ c.if-word-eq0.true)) c.loop-i.invariant.1

pub loop-i-preserved : goal.loop-i-preserved
loop-i-preserved c =
    let a = c.args in (
      search rules,
      going_more
          (slots_more a.terms.now a.j c.loop-i.i (omega arith) (λ y. c.if-word-eq0.false (c.word.ensures.value ∙ y)))
          c.loop-i.invariant.1 c.put_slot-next.ensures.put,
    )

pub returns-clause-put : goal.returns-clause-put
unfolding terms_of
returns-clause-put c = going_end (slots_none _ _ _ (4 - c.loop-i.i) (omega arith)) c.loop-i.invariant.1
