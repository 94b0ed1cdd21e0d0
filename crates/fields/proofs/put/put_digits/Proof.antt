-- `fields::put::put_digits` meets its contract: the digits of v and the places of d from i
-- on are together the digits of n.
use Prim.Native.Nat.{ℕ, ◌+◌, ◌-◌, ◌^◌, ◌≤◌, ◌<◌}
use mathlib.Core.Path.{◌≡◌, refl, sym, ap, subst, ◌∙◌}
use mathlib.Core.List.{◌++◌, append-nil}
use native.Mathlib.Omega.{arith}
use native.Mathlib.Nat.{le_of_eq}
use lib.ListN.{length-set, length-drop, set, length, drop}
use lib.Seq.{take_all}
use borrow.Author.Rules.{rules}
use Rattle.fields.specs.Number.{digits, digits_in}
use Rattle.fields.specs.private.Put.{Put}
use Rattle.fields.proofs.Digits.{digits_deep, digits_rest, digits_down, digits_last}
use Rattle.fields.proofs.put.put_digits.Statement.{statement}
use Rattle.fields.proofs.put.put_digits.Tie as tie

abbrev invariant-loop : tie.invariant-loop-v
invariant-loop out at n d₀ i₀ v₀ d i v = (1 ≤ i) × ((i ≤ 5) × ((v < 10 ^ i) × ((v ≤ n) × ((length d ≡ 5) × (digits n ≡ digits_in i v ++ drop i d)))))

abbrev decreases-loop : tie.decreases-loop-v
decreases-loop out at n d₀ i₀ v₀ d i v = v

loop-holds : tie.Need-loop-v-init invariant-loop decreases-loop
loop-holds c = (omega arith, (omega arith, (c.requires.0, (omega arith, (refl, unfold digits in sym (append-nil _))))))

loop-again : tie.Need-loop-v-preserved invariant-loop decreases-loop
loop-again c =
    let l = c.loop-v in
    let h = c.loop-v-test.true in
    let k = digits_deep l.i l.v h l.invariant.1.1.0 in (
      omega arith,
      (
        omega arith,
        (
          digits_rest l.i l.v h l.invariant.1.1.0,
          (
            omega arith,
            (
              length-set l.d _ _ ∙ l.invariant.1.1.1.1.0,
              l.invariant.1.1.1.1.1 ∙ digits_down l.i l.v l.d h l.invariant.0 (omega arith),
            ),
          ),
        ),
      ),
    )

part-put-word-end : tie.Need-slice_bounds-put_word-end invariant-loop decreases-loop
part-put-word-end c =
    let l = c.loop-v in
    le_of_eq (sym (length-set l.d (l.i - 1) (48 + l.v) ∙ l.invariant.1.1.1.1.0))

returns : tie.Need-returns invariant-loop decreases-loop
returns c =
    let a = c.args in
    let l = c.loop-v in
    let xs = set l.d (l.i - 1) (48 + l.v) in
    let e = length-set l.d (l.i - 1) (48 + l.v) ∙ l.invariant.1.1.1.1.0 in
    let f = take_all (5 - (l.i - 1)) (drop (l.i - 1) xs) (le_of_eq (length-drop (l.i - 1) xs ∙ ap (λ (m : ℕ). m - (l.i - 1)) e)) in
    let g = l.invariant.1.1.1.1.1 ∙ digits_last l.i l.v l.d c.loop-v-test.false l.invariant.0 (omega arith) in
    subst (Put _ _ _ _) (f ∙ sym g) c.put_word.ensures

pub put_digits_spec : {M : Type 1} → statement M
put_digits_spec =
    tie.close
    (tie.spec
    invariant-loop
    decreases-loop
    loop-holds
    (λ c. search rules)
    (λ c. search rules)
    (λ c. search rules)
    (λ c. search rules)
    (λ c. search rules)
    loop-again
    (λ c. search rules)
    (λ c. search rules)
    (λ c. search rules)
    (λ c. search rules)
    (λ c. search rules)
    (λ c. search rules)
    part-put-word-end
    (λ c κs. search rules)
    (λ c. search rules)
    returns)
