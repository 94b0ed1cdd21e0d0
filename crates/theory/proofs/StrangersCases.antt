-- Small runs, computed: why each premise of `strangers` is there, and that all of them can be met.
use Prim.Native.Nat.{ℕ, ◌<◌}
use native.Mathlib.Omega.{arith}
use mathlib.Core.Path.{◌≡◌, refl, ap, ◌∙◌, sym}
use mathlib.Core.Logic.{inl, inr}
use mathlib.Core.Bool.{Bool, true, false, cond, not, ◌&&◌, ◌||◌, false≢true}
use mathlib.Core.List.{List, [], ◌∷◌}
use lib.Dec.{eqb}
use lib.ListN.{get_or}
use borrow.Author.Tests.{eqb-true, eq-eqb}
use Rattle.sets.specs.Sets.{any_below, all_below}
use Rattle.sets.proofs.Finite.{and_left, and_right, or_cases, all_out, not_both}
use Rattle.theory.specs.Formula.{node, number, below, spelled, free, those}
use Rattle.theory.specs.Meaning.{holds}
use Rattle.theory.specs.Terms.{Terms, formula}
use Rattle.theory.specs.Moment.{Relations, affect_all}
use Rattle.theory.specs.Keeper.{Call, judge, keep, keep_all, keeper}
use Rattle.theory.specs.Fit.{every, operand_fits, only_free, reach_fits, entry_tests, Good}
use Rattle.theory.specs.Cases.{line, reaching, requests, looks, yes, no, own, adds, small, keeping}
use Rattle.theory.specs.Strangers.{Circle, WithoutReach, SeparateFirst, AgreeWithin}
use Rattle.theory.proofs.Good.{good_entry}
use Rattle.theory.specs.Fit.Within.{none, more}
use Rattle.theory.proofs.Strangers.{strangers_first}

-- The circle is 0 and 2, whom 0 owns at first; 1 is the stranger.
abbrev circle : Circle
circle m = not (eqb m 1)

-- The same with the stranger owning himself, which joins nothing to the circle; and with the
-- stranger owning 0, which does.
abbrev selfish : Relations
selfish k a b = own k a b || (eqb a 1 && eqb b 1)

abbrev joining : Relations
joining k a b = own k a b || (eqb a 1 && eqb b 0)

-- With reach it is false: "somebody owns himself" is granted to 0 because of the stranger.
reach_sways : ((keeper (small 5 (line 1 1 0 ∷ line 4 0 1 ∷ line 8 1 2 ∷ reaching 1 0 3 ∷ []) []) selfish (looks 1 0 2 ∷ [])).0 ≡ yes ∷ [])
    × ((keeper (small 5 (line 1 1 0 ∷ line 4 0 1 ∷ line 8 1 2 ∷ reaching 1 0 3 ∷ []) []) own (looks 1 0 2 ∷ [])).0 ≡ no ∷ [])
unfolding own judge keep keep_all holds any_below all_below node number below spelled affect_all
reach_sways = (refl, refl)

-- Where an edge joins the stranger to the circle it is false: "somebody owns me".
edges_sway : ((keeper (small 2 (line 5 0 0 ∷ []) []) joining (looks 1 0 2 ∷ [])).0 ≡ yes ∷ [])
    × ((keeper (small 2 (line 5 0 0 ∷ []) []) own (looks 1 0 2 ∷ [])).0 ≡ no ∷ [])
unfolding own judge keep keep_all holds any_below all_below node number below spelled affect_all
edges_sway = (refl, refl)

-- Without "a moment in both or in neither" it is false: prev of top tells 0 whether the stranger made one, by a denied
-- request that is kept; his look makes none.
moments_sway : ((keeper (keeping 2 (line 6 0 0 ∷ []) []) own (requests 1 1 1 ∷ looks 1 0 2 ∷ [])).0 ≡ no ∷ yes ∷ [])
    × ((keeper (keeping 2 (line 6 0 0 ∷ []) []) own (looks 1 1 1 ∷ looks 1 0 2 ∷ [])).0 ≡ no ∷ no ∷ [])
unfolding own judge keep keep_all holds any_below all_below node number below spelled affect_all
moments_sway = (refl, refl)

-- ---- the theorem applied

-- Event 1 is kept, and granted where one moment ago I owned the target: entries are top, var 0, out 0 of that, prev
-- of that. A grant adds an edge.
abbrev before : Terms
before = keeping 4 (line 1 0 0 ∷ line 4 0 1 ∷ line 6 2 0 ∷ []) (adds ∷ [])

abbrev fit : ℕ → Bool
fit n = every (entry_tests before n)

abbrev plain : ℕ → Bool
plain n = not (eqb (before.entry n).op 10)

fits : (all_below 4 fit ≡ true) × (all_below 4 plain ≡ true)
unfolding all_below every operand_fits reach_fits only_free free those node number below spelled
fits = (refl, refl)

good_before : Good before
unfolding number only_free all_below free node below spelled
good_before = record {
  some_member = omega arith;
  few_members = omega arith;
  few_relations = omega arith;
  some_event = omega arith;
  few_events = omega arith;
  few_entries = omega arith;
  few_tables = omega arith;
  entry = λ n l. good_entry before n (all_out 4 fit fits.0 n l);
  policy_exists = λ j l. exists (eqb j 1);
  policy_free = λ j l. free_target (eqb j 1);
  effects = λ j l. more {e = adds} (omega arith) none;
}
  where
    exists : (c : Bool) → cond c 3 0 < 4
    exists true = omega arith
    exists false = omega arith

    free_target : (c : Bool) → only_free 0 (formula before (cond c 3 0)) ≡ true
    free_target true = refl
    free_target false = refl

without_reach : WithoutReach before
without_reach n l e = not_both (plain n) (all_out 4 plain fits.1 n l) (ap not (eq-eqb (before.entry n).op 10 e))

own_apart : SeparateFirst before circle own
unfolding own
own_apart k a b kl al bl e =
    ap circle (eqb-true a 0 (and_right (eqb k 0) (eqb a 0) (and_left (eqb k 0 && eqb a 0) (eqb b 2) e)))
    ∙ sym (ap circle (eqb-true b 2 (and_right (eqb k 0 && eqb a 0) (eqb b 2) e)))

selfish_apart : SeparateFirst before circle selfish
selfish_apart k a b kl al bl e = elim (or_cases (own k a b) (eqb a 1 && eqb b 1) e) [
  | inl p ↦ own_apart k a b kl al bl p
  | inr p ↦ ap circle (eqb-true a 1 (and_left (eqb a 1) (eqb b 1) p)) ∙ sym (ap circle (eqb-true b 1 (and_right (eqb a 1) (eqb b 1) p)))
]

own_agrees : AgreeWithin before circle own selfish
own_agrees k a b kl al bl sa sb = go (own k a b) (eqb a 1) sa
  where
    go : (x y : Bool) → not y ≡ true → x ≡ x || (y && eqb b 1)
    go true y e = refl
    go false true e = absurd (false≢true e)
    go false false e = refl

-- In one run the stranger's request is denied and kept, in the other he owns himself and is granted something else.
abbrev lefts : List Call
lefts = requests 1 1 1 ∷ requests 1 0 2 ∷ []

abbrev rights : List Call
rights = requests 0 1 1 ∷ requests 1 0 2 ∷ []

-- 0 then gets the same answer in both: a grant.
strangers_met : (get_or (keeper before own lefts).0 1 no ≡ get_or (keeper before selfish rights).0 1 no) × ((keeper before own lefts).0 ≡ no ∷ yes ∷ [])
unfolding own judge keep keep_all holds any_below node number below spelled
strangers_met = (
  strangers_first before good_before without_reach circle (looks 0 0 0) no own selfish own_agrees own_apart selfish_apart lefts rights (
    omega arith,
    omega arith,
    inr (record { left = (refl, refl); right = (refl, refl); both = refl }),
    (omega arith, omega arith, inl (record { look = refl; event = refl; from = refl; to = refl; inside = (refl, refl) }), tt),
  ) 1 (refl, refl),
  refl,
)
