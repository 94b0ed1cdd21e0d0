-- A loop over the members of a set, least first.
use Prim.Native.Nat.{ℕ, ◌-◌, ◌^◌, ◌<◌}
use mathlib.Core.Path.{◌≡◌, refl, sym, ap, ◌∙◌}
use mathlib.Core.Bool.{Bool, true, false, not, ◌&&◌, ◌||◌, and-true, true≢false}
use native.Mathlib.Omega.{arith}
use lib.Dec.{eqb}
use lib.Bits.{bit_and}
use borrow.Author.Tests.{eqb-true}
use Rattle.sets.specs.Sets.{bit, least, Taken}
use Rattle.sets.proofs.Finite.{and_left}
use Rattle.sets.proofs.Bits.{bit_zero}
use Rattle.sets.proofs.Least.{Least, Rest, least_law, rest_law}

-- Over the members of want; those of rest are to come.
abbrev pub Done : ℕ → ℕ → ℕ → Bool
Done want rest k = bit want k && not (bit rest k)

pub record MembersLeft (want rest : ℕ) : Type 0 where
  pub fits : rest < 2 ^ 64
  pub inside : (k : ℕ) → bit rest k ≡ true → bit want k ≡ true

pub going : (want : ℕ) → want < 2 ^ 64 → MembersLeft want want
going want h = record { fits = h; inside = λ k e. e }

-- One turn: a is the least of rest, and rest' is what is left.
pub record Turn (want rest a rest' : ℕ) : Type 0 where
  pub upon : MembersLeft want rest
  pub next : Least rest a
  pub left : Rest rest rest'

pub turn : {want rest a rest' : ℕ} → MembersLeft want rest → (rest ≡ 0 → ⊥) → a ≡ least rest → rest' ≡ bit_and rest (rest - 1) → Turn want rest a rest'
turn {want} {rest} {a} {rest'} o n l r =
    let p : 0 < rest = omega arith in
    record { upon = o; next = least_law rest a p o.fits l; left = rest_law rest rest' p o.fits r }

-- The same, where a is what a `Members` gives.
pub turn_of : {want rest a rest' : ℕ} → MembersLeft want rest → Taken rest a rest' → Turn want rest a rest'
turn_of o t = turn o t.some t.first t.others

pub taken_small : {w a rest : ℕ} → Taken w a rest → a < 64
taken_small {w} {a} t = (least_law w a (let n = t.some in let p : 0 < w = omega arith in p) t.fits t.first).small

pub taken_wanted : {want rest a rest' : ℕ} → MembersLeft want rest → Taken rest a rest' → bit want a ≡ true
taken_wanted o t = let u = turn_of o t in o.inside _ u.next.here

pub least_small : {want rest a : ℕ} → MembersLeft want rest → (rest ≡ 0 → ⊥) → a ≡ least rest → a < 64
least_small {want} {rest} {a} o n l = (least_law rest a (let p : 0 < rest = omega arith in p) o.fits l).small

pub least_wanted : {want rest a : ℕ} → MembersLeft want rest → (rest ≡ 0 → ⊥) → a ≡ least rest → bit want a ≡ true
least_wanted {want} {rest} {a} o n l = o.inside a (least_law rest a (let p : 0 < rest = omega arith in p) o.fits l).here

pub rest_less : {want rest rest' : ℕ} → MembersLeft want rest → (rest ≡ 0 → ⊥) → rest' ≡ bit_and rest (rest - 1) → rest' < rest
rest_less {want} {rest} {rest'} o n r = (rest_law rest rest' (let p : 0 < rest = omega arith in p) o.fits r).less

pub done_all : (want rest k : ℕ) → rest ≡ 0 → Done want rest k ≡ bit want k
done_all want rest k e =
    ap (λ (x : ℕ). bit want k && not (bit x k)) e ∙ ap (λ (x : Bool). bit want k && not x) (bit_zero k) ∙ and-true (bit want k)

done_bool : (w r e : Bool) → (r ≡ true → w ≡ true) → (e ≡ true → r ≡ true) → (w && not (r && not e)) ≡ (e || (w && not r))
done_bool true true true f g = refl
done_bool true true false f g = refl
done_bool true false true f g = refl
done_bool true false false f g = refl
done_bool false true e f g = absurd (true≢false (sym (f refl)))
done_bool false false true f g = absurd (true≢false (sym (g refl)))
done_bool false false false f g = refl

module _ {want rest a rest' : ℕ} (t : Turn want rest a rest') where
  pub going_on : MembersLeft want rest'
  going_on = record {
    fits = (let p : rest' < rest = t.left.less in let q : rest < 2 ^ 64 = t.upon.fits in omega arith);
    inside = λ k e. t.upon.inside k (and_left (bit rest k) _ (sym (t.left.bits k) ∙ e));
  }

  pub done_more : (k : ℕ) → Done want rest' k ≡ (eqb k a || Done want rest k)
  done_more k =
      ap (λ (x : Bool). bit want k && not x) (t.left.bits k ∙ ap (λ (x : ℕ). bit rest k && not (eqb k x)) (sym t.next.is))
      ∙ done_bool (bit want k) (bit rest k) (eqb k a) (t.upon.inside k) (λ e. ap (bit rest) (eqb-true k a e) ∙ t.next.here)
