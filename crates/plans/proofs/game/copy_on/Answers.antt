use Rattle.std.proofs.Common.{◌≡◌, ◌+◌, ◌-◌, take, drop, arith}
use Rattle.memory.specs.Layout.{state_words}
use Rattle.plans.proofs.Plays.{copied_on}
use Rattle.plans.proofs.game.copy_on.Goals as goal

pub returns : goal.returns
returns c =
    let s = c.split_at_mut-standing in
    let at = c.args.at in
    let n : at + state_words - at ≡ state_words = omega arith in
    let copied : c.copy_from_slice.new.self ≡ take state_words (drop at s.result.0.now) = cc c.copy_from_slice.ensures.after in
    copied_on at c.args.words.now s.result.0.now s.result.1.now c.copy_from_slice.new.self s.ensures.value (omega arith) c.requires copied
