use Rattle.std.proofs.Common.{ℕ, Bool, cond, ◌&&◌, eqb, ltb, get_or}
use mathlib.Core.Path.{ap₂, ◌∙◌}
use lib.Bits.{bit_and, bit_xor}
use Rattle.sets.specs.Sets.{bit}
use Rattle.deciding.specs.private.Rows.{assigned}
use Rattle.deciding.proofs.Copying as copy
use Rattle.decide.proofs.memo.keep_in.Goals as goal

pub returns : goal.returns
returns c =
    let x = c.args in
    let put = c.put in
    let whole = c.has-whole.ensures in
    let stands = c.standing-c.ensures in
    copy.stored (assigned x.vars.now) x.x x.all x.need x.want c.asked.result
    (λ b. c.asked.ensures b ∙ ap₂ (λ (t : Bool) (n : ℕ). cond t (ltb b 64) (ltb b 64 && eqb b n)) whole stands)
    put.ensures c.show.auto.out c.requires.1
    (λ a. c.show.ensures a
    ∙ ap₂ (λ (t : Bool) (n : ℕ). cond {A = ℕ} (bit (bit_xor x.want (bit_and x.want x.need)) a) (cond t (bit_and x.all (get_or put.new.slot a 0)) (cond (bit (get_or put.new.slot a 0) n) x.all 0)) (get_or x.out.now a 0))
    whole stands)
