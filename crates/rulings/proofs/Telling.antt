-- Over memory that holds what the keeper's book says, what is told of an entry is what the keeper tells.
use Prim.Native.Nat.{ℕ}
use native.Mathlib.Omega.{arith}
use mathlib.Core.Path.{◌≡◌, refl, sym, ap, ◌∙◌}
use mathlib.Core.List.{List}
use mathlib.Core.Bool.{Bool, true, false, cond, not}
use lib.Dec.{ltb}
use lib.ListN.{length}
use borrow.Author.Tests.{le-ltb, ltb-true}
use Rattle.sets.proofs.Finite.{and_left, and_right, and_under}
use Rattle.theory.specs.Formula.{Formula}
use Rattle.theory.specs.Meaning.{Starts, holds as isTrue}
use Rattle.theory.specs.Terms.{Terms, Alike}
use Rattle.theory.specs.Fit.{only_free}
use Rattle.theory.specs.Moment.{Moment}
use Rattle.theory.specs.Keeper.{Book, record_of, last, target}
use Rattle.memory.specs.Layout.{terms_words, state_words, terms_of, state_of}
use Rattle.memory.specs.Outcome.{askable}
use Rattle.calls.specs.Agreement.{Lent}
use Rattle.calls.specs.Telling.{Telling, paired, tells}
use Rattle.calls.specs.Telling.Telling.{holds, fails, refused}
use Rattle.rulings.specs.Telling.{keeper_tells}
use Rattle.theory.proofs.AlikeTerms.{met, met-is, same_formula}
use Rattle.theory.proofs.RunInvariant.{entry_kept}
use Rattle.memory.proofs.Accepted.{good}
use Rattle.calls.proofs.Demand.{Playing}

-- Where an entry may be asked, and the pair is of members, it is told by its truth.
abbrev tell_by : (asked known true : Bool) → Telling
tell_by a k t = cond (not a) (refused 14 0) (cond (not k) (refused 9 0) (cond t holds fails))

tell_same : (a a' k : Bool) {t t' : Bool} → a ≡ a' → (a ≡ true → k ≡ true → t ≡ t') → tell_by a k t ≡ tell_by a' k t'
tell_same true a' true {t} {t'} e h = ap (λ (x : Bool). cond x holds fails) (h refl refl) ∙ ap (λ (x : Bool). tell_by x true t') e
tell_same true a' false {t} {t'} e h = ap (λ (x : Bool). tell_by x false t') e
tell_same false a' k {t} {t'} e h = ap (λ (x : Bool). tell_by x k t') e

-- Terms that agree where they count.
module _ (T U : Terms) (a : Alike T U) (s : Starts) (Ms : List Moment) (n u v : ℕ) where
  abbrev by : Terms → Book
  by X = record { terms = X; start = s; moments = Ms }

  tells_alike : keeper_tells (by T) n u v ≡ keeper_tells (by U) n u v
  unfolding keeper_tells
  tells_alike =
      tell_same (askable T n) (askable (met T U) n) (paired T u v)
      (and_under (ltb n T.entries) _ _ (λ e. ap (only_free 0) (same_formula T U a n (ltb-true n T.entries e))))
      (λ e k. ap (λ (f : Formula). isTrue T.members s (record_of T Ms) f (last Ms) (target v) u)
      (same_formula T U a n (ltb-true n T.entries (and_left (ltb n T.entries) _ e))))
      ∙ ap (λ X. keeper_tells (by X) n u v) (met-is T U a)

-- Over any memory in use that holds what the keeper's book says.
pub told_playing : (B : Book) (L : Lent) → Playing B L → (n u v : ℕ) → tells L.terms L.state n u v ≡ keeper_tells B n u v
unfolding tells keeper_tells
told_playing B L p n u v =
    rw (
      le-ltb (length L.terms) terms_words p.long,
      le-ltb (length L.state) state_words (omega (arith, p.held.long, p.room)),
      p.good-memory,
      p.held.good,
    )
    (tell_same (askable U n) (askable U n) (paired U u v) refl (λ e k.
    entry_kept U (good L.terms p.good-memory) B.start (state_of L.state) B.moments p.held.kept n u v
    (ltb-true n U.entries (and_left (ltb n U.entries) _ e))
    (ltb-true u U.members (and_left (ltb u U.members) _ k)) (ltb-true v U.members (and_right (ltb u U.members) _ k))))
    ∙ sym (tells_alike B.terms U p.like B.start B.moments n u v)
  where
    U : Terms
    U = terms_of L.terms
