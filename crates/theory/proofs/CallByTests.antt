-- `judge` by two tests: whether a call is granted, and whether it makes a moment.
use Prim.Native.Nat.{◌<◌, ◌≤◌}
use mathlib.Core.Path.{◌≡◌, refl, ap, ◌∙◌}
use mathlib.Core.Bool.{Bool, true, false, cond, not, ◌&&◌, ◌||◌, false≢true}
use mathlib.Core.List.{List, [], ◌∷◌}
use lib.Dec.{ltb, leb}
use lib.ListN.{length}
use borrow.Author.Tests.{leb-false, le-ltb}
use Rattle.theory.specs.Limits.{scratch_words}
use Rattle.theory.specs.Meaning.{Starts, from_first}
use Rattle.theory.specs.Terms.{Terms}
use Rattle.theory.specs.Moment.{Moment}
use Rattle.theory.specs.Keeper.{Call, Answer, target, last_moment, keeper_holds, judge}
use Rattle.theory.specs.Keeper.Answer.{decided, refused}
use Rattle.theory.specs.Keeper.Verdict.{grant, deny}
use Rattle.theory.specs.Tables.{made}
use Rattle.theory.specs.Strangers.{makes}

-- The call is lent too little scratch; it names no event or no member.
abbrev short : Call → Bool
short c = ltb c.scratch scratch_words

abbrev pub unnamed : Terms → Call → Bool
unnamed T c = leb T.events c.event || leb T.members c.from || leb T.members c.to

-- The call names an event and members, and the policy of that event holds, each past-time entry from its start on.
abbrev pub granted : Terms → Starts → List Moment → Call → Bool
granted T s Ms c = not (unnamed T c) && keeper_holds T s Ms (T.policy c.event) (target c.to) c.from

-- The answer to a call that is granted or is not, and whether such a call makes a moment.
abbrev pub answered : Terms → Call → (granted : Bool) → Answer
answered T c g = cond (short c) (refused 6 0) (cond (unnamed T c) (refused 9 0) (cond g (decided grant) (decided deny)))

abbrev pub counted : Terms → Call → (granted : Bool) → Bool
counted T c g = not (short c) && (not (unnamed T c) && (not c.look && (g || T.kept c.event)))

-- The moment that it makes of M, if it makes one: `made`, the one to which the monitor moves its tables on.
abbrev pub made_by : Terms → Moment → Call → (granted : Bool) → Moment
made_by T M c g = made T M g c.event c.from c.to

-- A call goes by these.
pub judged : (T : Terms) (s : Starts) (Ms : List Moment) (c : Call) →
    let g = granted T s Ms c in
    judge T s Ms c ≡ (answered T c g, cond (counted T c g) (made_by T (last_moment Ms) c g ∷ []) [])
unfolding judge
judged T s Ms c =
    let h = keeper_holds T s Ms (T.policy c.event) (target c.to) c.from in
    go (short c) (unnamed T c) h c.look (T.kept c.event)
  where
    A : Moment
    A = made_by T (last_moment Ms) c false

    B : Moment
    B = made_by T (last_moment Ms) c true

    go : (s u h l k : Bool) →
        ◌≡◌ {A = Answer × List Moment}
        (cond s (refused 6 0, []) (cond u (refused 9 0, []) (cond (not h) (decided deny, cond (not l && k) (A ∷ []) []) (cond l (decided grant, []) (decided grant, B ∷ []))))) (
          cond s (refused 6 0) (cond u (refused 9 0) (cond (not u && h) (decided grant) (decided deny))),
          cond (not s && (not u && (not l && ((not u && h) || k)))) (cond (not u && h) B A ∷ []) [],
        )
    go true u h l k = refl
    go false true h l k = refl
    go false false true true k = refl
    go false false true false k = refl
    go false false false true k = refl
    go false false false false true = refl
    go false false false false false = refl

pub makes_counted : (T : Terms) (Ms : List Moment) (c : Call) →
    makes T Ms c ≡ counted T c (granted T from_first Ms c)
makes_counted T Ms c =
    let g = granted T from_first Ms c in
    ap (λ (r : Answer × List Moment). ltb 0 (length r.1)) (judged T from_first Ms c)
    ∙ go (counted T c g) (made_by T (last_moment Ms) c g)
  where
    go : (b : Bool) (M : Moment) → ltb 0 (length (cond b (M ∷ []) [])) ≡ b
    go true M = refl
    go false M = refl

-- How much scratch there is beyond enough makes no difference.
pub judge_lent : (T : Terms) (s : Starts) (Ms : List Moment) {c d : Call} →
    c.look ≡ d.look → c.event ≡ d.event → c.from ≡ d.from → c.to ≡ d.to →
    scratch_words ≤ c.scratch → scratch_words ≤ d.scratch → judge T s Ms c ≡ judge T s Ms d
unfolding judge
judge_lent T s Ms {c} {d} l e u v p q =
    rw (le-ltb c.scratch scratch_words p, le-ltb d.scratch scratch_words q, l, e, u, v)

-- What a call names that is not refused for it.
pub named : (T : Terms) (c : Call) → not (unnamed T c) ≡ true → (c.event < T.events) × (c.from < T.members) × (c.to < T.members)
named T c e = go (leb T.events c.event) (leb T.members c.from) (leb T.members c.to) refl refl refl e
  where
    go : (x y z : Bool) → leb T.events c.event ≡ x → leb T.members c.from ≡ y → leb T.members c.to ≡ z → not (x || y || z) ≡ true →
        (c.event < T.events) × (c.from < T.members) × (c.to < T.members)
    go false false false p q r h = (leb-false _ _ p, leb-false _ _ q, leb-false _ _ r)
    go true y z p q r h = absurd (false≢true h)
    go false true z p q r h = absurd (false≢true h)
    go false false true p q r h = absurd (false≢true h)
