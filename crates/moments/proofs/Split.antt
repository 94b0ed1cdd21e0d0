-- A state m that is lent in two parts, its relations r and the words p behind them.
use Prim.Native.Nat.{ℕ, ◌+◌, ◌≤◌, ◌<◌}
use native.Mathlib.Omega.{arith}
use mathlib.Core.Path.{◌≡◌, sym, ap, ap₂, subst, ◌∙◌}
use mathlib.Core.Bool.{true}
use mathlib.Core.List.{List, ◌++◌, append_assoc}
use lib.Dec.{ltb}
use lib.ListN.{length, get_or, take, drop, get_or-append}
use lib.Seq.{take_all, drop-drop, drop-append-add}
use borrow.Rule.Slice.PartMut.{put_mid}
use borrow.Author.Tests.{ltb-true}
use Rattle.sets.specs.Sets.{bit}
use Rattle.sets.proofs.Finite.{and_under, all_cong}
use Rattle.theory.specs.Terms.{Terms}
use Rattle.theory.specs.Tables.{State, opening}
use Rattle.theory.specs.Fit.{Good}
use Rattle.memory.specs.Layout.{terms_words, state_words, relation_words, own_words, relation_at, terms_of, state_of, words_of}
use Rattle.memory.specs.Checks.{fits, good_memory, good_relations, good_state}
use Rattle.memory.specs.TableIndex.{Indexed}
use Rattle.deciding.specs.private.Moving.{Movable, Becomes}
use Rattle.deciding.proofs.SameDecision.{relations_of, past_of}
use Rattle.deciding.proofs.MomentSteps.{movable}
use Rattle.deciding.proofs.Parts.{parts_long, parts_state, parts_good, becomes_words}

-- The relations alone have the edges of the whole.
module _ (r p : List ℕ) (long : length r ≡ relation_words) where
  same : (i : ℕ) → i < relation_words → get_or r i 0 ≡ get_or (r ++ p) i 0
  same i l = sym (get_or-append r p 0 i (omega arith))

  same_relation : (k a : ℕ) → k < 16 → a < 64 → get_or r (relation_at k a) 0 ≡ get_or (r ++ p) (relation_at k a) 0
  same_relation k a kl al = same (relation_at k a) (omega arith)

  edges_front : (state_of r).now.edge ≡ (state_of (r ++ p)).now.edge
  unfolding state_of
  edges_front d = λ k a b. edge k a b d
    where
      edge : (k a b : ℕ) → (state_of r).now.edge k a b ≡ (state_of (r ++ p)).now.edge k a b
      edge k a b =
          and_under (ltb k 16) _ _ (λ kl. and_under (ltb a 64) _ _ (λ al.
          ap (λ x. bit x b) (same_relation k a (ltb-true k 16 kl) (ltb-true a 64 al))))

  pub relations_front : (T : Terms) → good_relations T r ≡ good_relations T (r ++ p)
  unfolding good_relations
  relations_front T =
      all_cong 16 (λ k kl. all_cong 64 (λ a al. ap (fits T.members (ltb k T.relations) a) (same_relation k a kl al)))

  -- The words of moment 0.
  pub opened : (T : Terms) (o : List ℕ) → take relation_words r ++ o ≡ words_of T (opening T (state_of r).now.edge) ++ drop own_words p →
      r ++ o ≡ words_of T (opening T (state_of (r ++ p)).now.edge) ++ drop state_words (r ++ p)
  opened T o e =
      ap (λ (l : List ℕ). l ++ o) (sym (take_all relation_words r (omega arith)))
      ∙ e
      ∙ ap₂ (λ x y. words_of T (opening T x) ++ y) edges_front (sym (ap (λ (n : ℕ). drop (n + own_words) (r ++ p)) (sym long) ∙ drop-append-add r p own_words))

module _ (m : List ℕ) {r p : List ℕ} (here : r ≡ take relation_words m) (behind : p ≡ drop relation_words m) (long : state_words ≤ length m) where
  whole : r ++ take own_words p ≡ relations_of m ++ past_of m
  whole = ap₂ (λ (x y : List ℕ). x ++ take own_words y) here behind

  pub split_movable : {terms index : List ℕ} → terms_words ≤ length terms → good_memory terms ≡ true → Indexed (terms_of terms) index → Good (terms_of terms) →
      good_state (terms_of terms) m ≡ true → Movable terms index (r ++ take own_words p)
  split_movable {terms} {index} l g i fine s =
      subst (λ x. Movable terms index x) (sym whole)
      (movable terms index (relations_of m ++ past_of m) l g i (omega (arith, parts_long m long)) (parts_good m long (terms_of terms) fine s))

  pub split_moved : {terms : List ℕ} {f : Terms → State → State} (r' o' : List ℕ) → Good (terms_of terms) → good_state (terms_of terms) m ≡ true → Becomes terms f (r ++ take own_words p) (r' ++ o') →
      r' ++ put_mid 0 own_words p o' ≡ words_of (terms_of terms) (f (terms_of terms) (state_of m)) ++ drop state_words m
  split_moved {terms} {f} r' o' fine s b =
      sym (append_assoc r' o' (drop own_words p))
      ∙ ap₂ (λ (x y : List ℕ). x ++ y)
      (becomes_words fine (parts_long m long) (parts_good m long (terms_of terms) fine s) (subst (λ x. Becomes terms f x (r' ++ o')) whole b)
      ∙ ap (λ (S : State). words_of (terms_of terms) (f (terms_of terms) S)) (parts_state m long))
      (ap (drop own_words) behind ∙ drop-drop own_words relation_words m)
