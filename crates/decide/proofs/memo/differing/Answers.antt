use Rattle.std.proofs.Common.{◌≡◌, ℕ, ◌<◌, true, false, not, ◌&&◌, eqb, ltb, arith}
use mathlib.Core.Path.{sym, ap, ◌∙◌}
use lib.Bits.{bit_and}
use borrow.Author.Tests.{lt-ltb, ltb-true}
use Rattle.sets.specs.Sets.{bit}
use Rattle.sets.proofs.Bits.{bit-and}
use Rattle.sets.proofs.Finite.{and_left, and_right, and_both}
use Rattle.sets.proofs.MemberLoop.{turn_of, going_on, taken_wanted, done_all}
use Rattle.deciding.specs.private.Rows.{assigned}
use Rattle.deciding.specs.private.Memo.{value_of}
use Rattle.deciding.proofs.Copying as copy
use Rattle.decide.proofs.memo.differing.Goals as goal

-- What is read: those of w that are variables, but the column.
module _ (read w low column : ℕ) (reads : (m : ℕ) → bit read m ≡ (bit (bit_and w low) m && not (eqb m column))) (low-is : (m : ℕ) → bit low m ≡ (ltb m 64 && ltb m 16)) where
  small : (y : ℕ) → bit read y ≡ true → y < 16
  small y e =
      ltb-true y 16 (and_right (ltb y 64) (ltb y 16) (sym (low-is y) ∙ and_right (bit w y) (bit low y)
      (sym (bit-and w low y) ∙ and_left (bit (bit_and w low) y) (not (eqb y column)) (sym (reads y) ∙ e))))

  read-if : (y : ℕ) → y < 16 → bit w y ≡ true → eqb y column ≡ false → bit read y ≡ true
  read-if y l e n =
      reads y ∙ and_both (bit (bit_and w low) y) (not (eqb y column))
      (bit-and w low y ∙ and_both (bit w y) (bit low y) e (low-is y ∙ and_both (ltb y 64) (ltb y 16) (lt-ltb y 64 (omega arith)) (lt-ltb y 16 l)))
      (ap not n)

pub value_of-requires : goal.value_of-requires
value_of-requires c =
    (c.requires, small _ _ _ _ c.without-read.ensures c.mask.ensures _ (taken_wanted c.loop-y.invariant.upon c.in-Some.ensures.steps))

pub bounds-vars-y : goal.bounds-vars-y
bounds-vars-y c = small _ _ _ _ c.without-read.ensures c.mask.ensures _ (taken_wanted c.loop-y.invariant.upon c.in-Some.ensures.steps)

pub returns-then-value_of-wide : goal.returns-then-value_of-wide
returns-then-value_of-wide c = small _ _ _ _ c.without-read.ensures c.mask.ensures _ (taken_wanted c.loop-y.invariant.upon c.in-Some.ensures.steps)

pub loop-y-preserved : goal.loop-y-preserved
loop-y-preserved c =
    let t = turn_of c.loop-y.invariant.upon c.in-Some.ensures.steps in
    record {
      upon = going_on t;
      same = copy.done_with (λ k. value_of c.args.slot.now k ≡ assigned c.args.vars.now k) t c.loop-y.invariant.same
          (sym c.value_of.ensures ∙ c.if-value_of-wide.false ∙ c.wide.ensures.0);
    }

pub returns : goal.returns
returns c y l e n =
    c.loop-y.invariant.same y (done_all _ _ y c.in-None.ensures.steps ∙ read-if _ _ _ _ c.without-read.ensures c.mask.ensures y l e n)
