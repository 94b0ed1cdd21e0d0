use Rattle.std.proofs.Common.{ℕ, ◌+◌, Bool, ◌&&◌, ◌||◌, arith}
use mathlib.Core.Path.{ap₂, ◌∙◌}
use lib.Seq.{get_or-set_other}
use Rattle.sets.specs.Sets.{bit}
use Rattle.sets.proofs.MemberLoop.{turn_of}
use Rattle.deciding.proofs.Copying as copy
use Rattle.decide.proofs.memo.put.Goals as goal

pub loop-a-preserved : goal.loop-a-preserved
loop-a-preserved c =
    let s = c.loop-a.slot in
    let a = c.in-Some.a in
    copy.putting_more c.loop-a.invariant (turn_of c.loop-a.invariant.upon c.in-Some.ensures.steps) c.mixed.result c.known_too.result c.requires.0 c.mixed.ensures
    (λ b. c.known_too.ensures b
    ∙ ap₂ (λ (x : Bool) (w : ℕ). (x && bit w b) || bit c.args.ask b) c.has.ensures (get_or-set_other s a (69 + a) c.mixed.result 0 (λ e. let z : ⊥ = omega arith in z)))

pub returns : goal.returns
returns c = copy.put_all c.loop-a.invariant c.in-None.ensures.steps c.requires.0
