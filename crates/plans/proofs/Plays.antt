-- Laws of a played plan: states that stand in lent words, what a step leaves of them, and the rival's moves in number.
use Prim.Native.Nat.{ℕ, suc, ◌+◌, ◌-◌, ◌*◌, ◌/◌, ◌%◌, ◌≤◌, ◌<◌}
use native.Mathlib.Omega.{arith}
use native.Mathlib.Numerals.{add-one}
use mathlib.Core.Path.{◌≡◌, refl, sym, ap, ap₂, ◌∙◌}
use mathlib.Core.List.{List, ◌++◌, append-nil}
use mathlib.Core.Bool.{Bool, true, false, cond, ◌&&◌, ◌||◌}
use lib.Dec.{eqb, ltb}
use lib.ListN.{length, get_or, take, drop, replicate, length-append, length-drop, drop_of_length-le}
use lib.Seq.{length-take-le, take_all, take_at, drop_at, drop-append-le, take-add, take-take}
use borrow.Author.Tests.{lt-ltb, ltb-true, ne_eqb}
use borrow.Rule.Slice.PartMut.{put_mid}
use Rattle.sets.specs.Sets.{all_below}
use Rattle.sets.proofs.Finite.{bool_iff, and_left, and_right, and_both, all_true, all_out, all_more, is_false, not_both}
use Rattle.theory.specs.Terms.{Terms}
use Rattle.theory.specs.Fit.{◌⇒◌}
use Rattle.theory.specs.Limits.{scratch_words}
use Rattle.memory.specs.Layout.{state_words, terms_of}
use Rattle.plans.specs.Game.{wins, moves_from, moves, game_words}
use Rattle.plans.specs.Plans.{stepped, reached_in, accepted}
use Rattle.plans.specs.private.Playing.{standing, Spared, Placed, Playable, offered, replied, wins_from, outlasts}
use Rattle.theory.proofs.Good.{implied, implies}
use Rattle.calls.proofs.OneByOne.{after_long}
use Rattle.deciding.proofs.Stored.{put_back}

-- ---- states that stand in words

pub stand_long : (at : ℕ) (w : List ℕ) → at + state_words ≤ length w → length (standing at w) ≡ state_words
stand_long at w h = length-take-le state_words (drop at w) (rw (length-drop at w) (omega arith))

-- The part that is lent is the state that stands there.
pub part_stands : (at : ℕ) (w : List ℕ) → take (at + state_words - at) (drop at w) ≡ standing at w
part_stands at w = let n : at + state_words - at ≡ state_words = omega arith in ap (λ n. take n (drop at w)) n

pub spared_none : (at : ℕ) (w : List ℕ) → Spared at w w
spared_none at w = record { long = refl; before = refl }

spared_on : {at : ℕ} {w w₁ w₂ : List ℕ} → Spared at w w₁ → Spared at w₁ w₂ → Spared at w w₂
spared_on p q = record { long = q.long ∙ p.long; before = q.before ∙ p.before }

spared_less : (at b : ℕ) {w w' : List ℕ} → at ≤ b → Spared b w w' → Spared at w w'
spared_less at b {w} {w'} l p = record {
  long = p.long;
  before = sym (take-take at b w' l) ∙ ap (take at) p.before ∙ take-take at b w l;
}

-- A state stands in the words that are spared.
stand_spared : (at : ℕ) (w w' : List ℕ) → at + state_words ≤ length w → Spared (at + state_words) w w' → standing at w' ≡ standing at w
stand_spared at w w' h p =
    sym (drop_at (take at w') (standing at w') at (length-take-le at w' (omega (arith, p.long))))
    ∙ ap (drop at) (sym (take-add at state_words w') ∙ p.before ∙ take-add at state_words w)
    ∙ drop_at (take at w) (standing at w) at (length-take-le at w (omega arith))

-- A part that was lent and came back.
pub placed_part : (at : ℕ) (w ys s : List ℕ) → at + state_words ≤ length w → ys ≡ s → length s ≡ state_words →
    Placed at s w (put_mid at (at + state_words - at) w ys)
placed_part at w ys s h e l =
    let front : length (take at w) ≡ at = length-take-le at w (omega arith) in
    rw (put_back at (at + state_words) w ys s e (omega (arith, l)))
    (record {
      spared = record {
        long = simp (length-append, length-drop, front) (omega (arith, l));
        before = take_at (take at w) (s ++ drop (at + length s) w) at front;
      };
      here = ap (take state_words) (drop_at (take at w) (s ++ drop (at + length s) w) at front) ∙ take_at s (drop (at + length s) w) state_words l;
    })

-- All the words of a game, cleared.
pub game_cleared : (w zs : List ℕ) → length w ≡ game_words → zs ≡ replicate (length (take game_words w)) 0 →
    put_mid 0 game_words w zs ≡ replicate game_words 0
game_cleared w zs l e =
    ap (λ (z : List ℕ). z ++ drop game_words w) (e ∙ ap (λ (n : ℕ). replicate n 0) (length-take-le game_words w (omega (arith, l))))
    ∙ ap (λ (z : List ℕ). replicate game_words 0 ++ z) (drop_of_length-le w {i = game_words} (omega (arith, l)))
    ∙ append-nil (replicate game_words 0)

-- The state at the end of s is copied behind itself.
pub copied_on : (at : ℕ) (w s b c : List ℕ) → w ≡ s ++ b → length s ≡ at + state_words → at + state_words + state_words ≤ length w → c ≡ take state_words (drop at s) →
    Placed (at + state_words) (standing at w) w (s ++ (c ++ drop state_words b))
copied_on at w s b c e ls h q =
    let rest : List ℕ = drop state_words b in
    let lw : length w ≡ length s + length b = ap length e ∙ length-append s b in
    let ld : length (drop at s) ≡ state_words = length-drop at s ∙ omega arith in
    let lc : length c ≡ state_words = ap length q ∙ length-take-le state_words (drop at s) (omega arith) in
    let same : standing at w ≡ take state_words (drop at s) =
    ap (λ (l : List ℕ). take state_words (drop at l)) e
    ∙ ap (take state_words) (drop-append-le at s b (omega arith))
    ∙ take_at (drop at s) b state_words ld
    ∙ sym (take_all state_words (drop at s) (omega arith)) in
    record {
      spared = record {
        long = length-append s (c ++ rest) ∙ omega (arith, length-append c rest, length-drop state_words b);
        before = take_at s (c ++ rest) (at + state_words) ls ∙ sym (ap (take (at + state_words)) e ∙ take_at s b (at + state_words) ls);
      };
      here = ap (take state_words) (drop_at s (c ++ rest) (at + state_words) ls) ∙ take_at c rest state_words lc ∙ q ∙ sym same;
    }

-- ---- what a step leaves

pub stepped_long : (terms s : List ℕ) (j u v : ℕ) → state_words ≤ length s → length (stepped terms s j u v) ≡ length s
stepped_long terms s j u v l = after_long terms s (replicate scratch_words 0) j u v l

-- ---- the rival's moves in number

-- After move i of the rival, if it has that, p.
abbrev pub offer : Terms → List ℕ → (rival : ℕ) → (List ℕ → Bool) → List ℕ → ℕ → Bool
offer T terms rival p s i = offered T i ⇒ p (replied terms rival i s)

module _ (T : Terms) (few_members : T.members < 9) (few_events : T.events < 5) (terms : List ℕ) (rival : ℕ) (p : List ℕ → Bool) (s : List ℕ) where
  abbrev ask : ℕ → Bool
  ask = offer T terms rival p s

  abbrev each : Bool
  each = p s && all_below T.events (λ j. all_below T.members (λ v. p (stepped terms s j rival v)))

  forth : all_below 33 ask ≡ true → each ≡ true
  forth h = and_both (p s) _ (all_out 33 ask h 32 (omega arith)) (all_true T.events (λ j jl. all_true T.members (λ v vl. at j v jl vl)))
    where
      at : (j v : ℕ) → j < T.events → v < T.members → p (stepped terms s j rival v) ≡ true
      at j v jl vl =
          let i : ℕ = 8 * j + v in
          let quo : i / 8 ≡ j = omega arith in
          let rem : i % 8 ≡ v = omega arith in
          let no : eqb i 32 ≡ false = ne_eqb i 32 (λ z. omega arith) in
          rw (no, quo, rem, lt-ltb j T.events jl, lt-ltb v T.members vl) at (all_out 33 ask h i (omega arith))

  back : each ≡ true → all_below 33 ask ≡ true
  back h = all_true 33 (λ i il. implies (offered T i) (go i (eqb i 32)))
    where
      go : (i : ℕ) (c : Bool) → (c || (ltb (i / 8) T.events && ltb (i % 8) T.members)) ≡ true →
          p (cond c s (stepped terms s (i / 8) rival (i % 8))) ≡ true
      go i true o = and_left (p s) _ h
      go i false o =
          all_out T.members (λ v. p (stepped terms s (i / 8) rival v))
          (all_out T.events (λ j. all_below T.members (λ v. p (stepped terms s j rival v))) (and_right (p s) _ h) (i / 8)
          (ltb-true (i / 8) T.events (and_left (ltb (i / 8) T.events) _ o))) (i % 8)
          (ltb-true (i % 8) T.members (and_right (ltb (i / 8) T.events) _ o))

  pub all_offers : all_below 33 ask ≡ each
  all_offers = bool_iff (all_below 33 ask) each forth back

  -- One that fails.
  pub offer_fails : (i : ℕ) → i < 33 → offered T i ≡ true → p (replied terms rival i s) ≡ false → each ≡ false
  offer_fails i l o e = is_false each (λ h.
      not_both (p (replied terms rival i s)) (implied (offered T i) _ (all_out 33 ask (back h) i l) o) e)

-- ---- the moves of a plan from number k on

module _ (terms plan : List ℕ) (planner rival goal u v k : ℕ) where
  abbrev pub after : List ℕ → List ℕ
  after s = stepped terms s (get_or plan (2 * k) 0) planner (get_or plan (2 * k + 1) 0)

  pub no_moves : moves plan ≤ k → (s : List ℕ) → outlasts terms plan planner rival goal u v k s ≡ false
  unfolding wins moves_from
  no_moves l s = let none : moves plan - k ≡ 0 = omega arith in rw none

  first_move : k < moves plan → (s : List ℕ) →
      wins_from terms plan planner rival goal u v k s ≡ (reached_in terms goal u v (after s) || outlasts terms plan planner rival goal u v (k + 1) (after s))
  unfolding wins moves_from
  first_move l s = let left : moves plan - k ≡ suc (moves plan - (k + 1)) = omega arith in rw (left, add-one k)

-- ---- one turn of the game: the rival's move i on a copy, the planner's move k, and what comes after

module _ {terms plan : List ℕ} {planner rival goal u v : ℕ} (p : Playable terms plan planner rival goal u v)
    (at k : ℕ) (kl : k < moves plan) (w₀ w : List ℕ) (room : at + state_words * (4 - k) ≤ length w₀) (fits : at + state_words ≤ length w₀)
    (sp : Spared (at + state_words) w₀ w)
  where
    abbrev to : ℕ
    to = at + state_words

    abbrev s : List ℕ
    s = standing at w₀

    pub turn_room : to + state_words ≤ length w
    turn_room = omega (arith, p.few_moves, sp.long)

    same : standing at w ≡ s
    same = stand_spared at w₀ w fits sp

    module _ (i : ℕ) (w₁ : List ℕ) (p₁ : Placed to (replied terms rival i (standing at w)) w w₁) where
      abbrev r : List ℕ
      r = replied terms rival i s

      p₁' : Placed to r w w₁
      p₁' = record { spared = p₁.spared; here = p₁.here ∙ ap (replied terms rival i) same }

      pub replied_room : to + state_words ≤ length w₁
      replied_room = omega (arith, turn_room, p₁.spared.long)

      module _ (won : Bool) (e₂ : won ≡ reached_in terms goal u v (after terms plan planner rival goal u v k (standing to w₁))) (w₂ : List ℕ)
          (p₂ : Placed to (after terms plan planner rival goal u v k (standing to w₁)) w₁ w₂)
        where
          abbrev next : List ℕ
          next = after terms plan planner rival goal u v k r

          p₂' : Placed to next w₁ w₂
          p₂' = record { spared = p₂.spared; here = p₂.here ∙ ap (after terms plan planner rival goal u v k) p₁'.here }

          pub tried_room : (to + state_words * (4 - (k + 1)) ≤ length w₂) × (to + state_words ≤ length w₂)
          tried_room = (omega (arith, p.few_moves, sp.long, p₁.spared.long, p₂.spared.long), omega (arith, replied_room, p₂.spared.long))

          module _ (res : Bool) (e₃ : res ≡ (won || outlasts terms plan planner rival goal u v (k + 1) (standing to w₂))) (w₃ : List ℕ)
              (p₃ : Spared (to + state_words) w₂ w₃)
            where
              pub turn_is : res ≡ wins_from terms plan planner rival goal u v k r
              turn_is =
                  e₃
                  ∙ ap₂ ◌||◌ (e₂ ∙ ap (λ z. reached_in terms goal u v (after terms plan planner rival goal u v k z)) p₁'.here)
                  (ap (outlasts terms plan planner rival goal u v (k + 1)) p₂'.here)
                  ∙ sym (first_move terms plan planner rival goal u v k kl r)

              pub turn_spared : Spared to w₀ w₃
              turn_spared = spared_on sp (spared_on p₁.spared (spared_on p₂.spared (spared_less to (to + state_words) (omega arith) p₃)))

-- The offers up to i are met.
module _ (n : ℕ) (q : ℕ → Bool) where
  pub offers_more : all_below n q ≡ true → q n ≡ true → all_below (n + 1) q ≡ true
  offers_more h e = all_more n q ∙ and_both (q n) (all_below n q) e h

-- ---- the whole game

-- The planner's first move, and what comes after.
pub played : (terms state plan : List ℕ) (planner rival goal u v : ℕ) (s₁ s₂ : List ℕ) (won r : Bool) → 0 < moves plan → s₁ ≡ take state_words state →
    won ≡ reached_in terms goal u v (after terms plan planner rival goal u v 0 s₁) → s₂ ≡ after terms plan planner rival goal u v 0 s₁ →
    r ≡ (won || outlasts terms plan planner rival goal u v 1 s₂) → r ≡ accepted terms state plan planner rival goal u v
unfolding accepted
played terms state plan planner rival goal u v s₁ s₂ won r some e₁ e₂ p e₃ =
    let all : moves plan - 0 ≡ moves plan = omega arith in
    e₃ ∙ ap₂ ◌||◌ e₂ (ap (outlasts terms plan planner rival goal u v 1) p)
    ∙ sym (first_move terms plan planner rival goal u v 0 some s₁)
    ∙ ap (wins_from terms plan planner rival goal u v 0) e₁
    ∙ ap (λ n. wins (stepped terms) (reached_in terms goal u v) (terms_of terms) planner rival (moves_from plan n 0) (take state_words state)) all
