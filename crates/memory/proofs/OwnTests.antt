-- The tests of a state by the words of its relations and of a bank's own.
use Prim.Native.Nat.{ℕ, ◌+◌, ◌*◌, ◌≤◌, ◌<◌}
use native.Mathlib.Omega.{arith}
use mathlib.Core.Bool.{Bool, true, false, ◌&&◌}
use mathlib.Core.List.{List}
use mathlib.Core.Path.{◌≡◌, refl, sym, ap, ap₂, ◌∙◌}
use lib.Dec.{ltb}
use lib.ListN.{length, get_or, take, drop, get_or-append}
use lib.Seq.{get_or-take, get_or-drop, get_or-append-add, length-take-le}
use Rattle.sets.proofs.Finite.{and-true, all_cong}
use Rattle.theory.specs.Formula.{number, is_past}
use Rattle.theory.specs.Terms.{Terms, formula, tables}
use Rattle.theory.specs.Fit.{◌⇒◌, every, closed, Good}
use Rattle.theory.proofs.Unfolding.{number_lt}
use Rattle.memory.specs.Layout.{relation_words, own_words, relation_at, table_at, table_columns, joined}
use Rattle.memory.specs.Checks.{fits, table_fits, level, good_event, good_relations, good_state}
use Rattle.memory.specs.private.Own.{own_tests, good_own}
use Rattle.memory.specs.Outcome.{good_banks}
use Rattle.memory.proofs.StateTests.{and_assoc}

pub own-tests : (T : Terms) (w : List ℕ) {a b : Bool} → a ≡ get_or (own_tests T w) 0 true && get_or (own_tests T w) 1 true →
    b ≡ good_event T (get_or w 2048 0) → a && b ≡ good_own T w
unfolding good_own every
own-tests T w ea eb =
    ap₂ ◌&&◌ ea (eb ∙ sym (and-true (good_event T (get_or w 2048 0))))
    ∙ sym (and_assoc (get_or (own_tests T w) 0 true) (get_or (own_tests T w) 1 true) (good_event T (get_or w 2048 0) && true))

under : (x : Bool) {y z : Bool} → (x ≡ true → y ≡ z) → x ⇒ y ≡ x ⇒ z
under true e = e refl
under false e = refl

-- w has the words of r first, and then those of o.
module _ (T : Terms) (g : Good T) (w r o : List ℕ) (first : (i : ℕ) → i < relation_words → get_or w i 0 ≡ get_or r i 0)
    (then : (i : ℕ) → i < own_words → get_or w (relation_words + i) 0 ≡ get_or o i 0) where
  table : (t a : ℕ) → t < 32 → a < 64 → get_or w (table_at t a) 0 ≡ get_or o (64 * t + a) 0
  table t a tl al =
      ap (λ i. get_or w i 0) (let e : table_at t a ≡ relation_words + (64 * t + a) = omega arith in e) ∙ then (64 * t + a) (omega arith)

  good_apart : good_state T w ≡ good_relations T r && good_own T o
  unfolding good_state good_own good_relations every
  good_apart =
      ap₂ ◌&&◌ (all_cong 16 (λ k kl. all_cong 64 (λ a al. ap (fits T.members (ltb k T.relations) a) (first (relation_at k a) (omega arith)))))
      (ap₂ ◌&&◌ (all_cong 32 (λ t tl. all_cong 64 (λ a al. ap (table_fits T.members (table_columns T t) (ltb t (tables T)) a) (table t a tl al))))
      (ap₂ ◌&&◌ (all_cong T.entries (λ n nl. under (is_past (T.entry n).op) (λ past. ap (λ b. closed (formula T n) ⇒ b)
      (all_cong 64 (λ a al. ap (level T.members) (table (number T.entry n) a
      (omega (arith, number_lt T.entry n T.entries nl past, g.few_tables)) al))))))
      (ap (λ v. good_event T v && true) (then 2048 (omega arith)))))

-- A state, and the part of it from the tables on.
pub good_state_apart : (T : Terms) → Good T → (w : List ℕ) → good_state T w ≡ good_relations T w && good_own T (take own_words (drop relation_words w))
good_state_apart T g w =
    good_apart T g w w (take own_words (drop relation_words w)) (λ i h. refl)
    (λ i h. sym (get_or-take own_words (drop relation_words w) i 0 h ∙ get_or-drop relation_words w i 0))

-- Relations and own words that are lent apart.
good_joined_apart : (T : Terms) → Good T → (r o : List ℕ) → relation_words ≤ length r →
    good_state T (joined r o) ≡ good_relations T r && good_own T o
good_joined_apart T g r o l =
    good_apart T g (joined r o) r o
    (λ i h. get_or-append (take relation_words r) (take own_words o) 0 i (omega (arith, long)) ∙ get_or-take relation_words r i 0 h)
    (λ i h. ap (λ k. get_or (joined r o) (k + i) 0) (sym long) ∙ get_or-append-add (take relation_words r) (take own_words o) i 0 ∙ get_or-take own_words o i 0 h)
  where
    long : length (take relation_words r) ≡ relation_words
    long = length-take-le relation_words r l

-- Both banks: the relations are looked at once.
pub good-banks : (T : Terms) → Good T → (r o p : List ℕ) → relation_words ≤ length r → {a b c : Bool} →
    a ≡ good_relations T r → b ≡ good_own T o → c ≡ good_own T p → a && (b && c) ≡ good_banks T r o p
good-banks T g r o p l {a} {b} {c} ea eb ec =
    once a b c
    ∙ ap₂ ◌&&◌ (ap₂ ◌&&◌ ea eb ∙ sym (good_joined_apart T g r o l)) (ap₂ ◌&&◌ ea ec ∙ sym (good_joined_apart T g r p l))
  where
    once : (x y z : Bool) → x && (y && z) ≡ (x && y) && (x && z)
    once true y z = refl
    once false y z = refl
