-- A request of a bank that makes a moment: each bank's state afterwards, in any memory. The memory keeps its lengths
-- and further words, and passes the checks again.
use Prim.Native.Nat.{ℕ, ◌≤◌}
use native.Mathlib.Omega.{arith}
use mathlib.Core.Path.{◌≡◌, refl, sym, ap, ap₂, ◌∙◌}
use mathlib.Core.Bool.{Bool, true, false}
use mathlib.Core.List.{List, [], ◌++◌, append-nil}
use lib.Dec.{ltb}
use lib.ListN.{length, take, drop, replicate, length-replicate}
use borrow.Author.Tests.{ltb-true}
use Rattle.sets.proofs.Finite.{and_left, and_right}
use Rattle.theory.specs.Limits.{scratch_words}
use Rattle.theory.specs.Terms.{Terms}
use Rattle.theory.specs.Moment.{Relations, Moment, affect_all}
use Rattle.theory.specs.Moment.Event.{none}
use Rattle.theory.specs.Tables.{State, made, advance}
use Rattle.memory.specs.Layout.{state_words, relation_words, own_words, joined, terms_of, state_of, words_of}
use Rattle.memory.specs.Checks.{good_state, Inside}
use Rattle.calls.specs.Monitor.{granted}
use Rattle.memory.proofs.Accepted.{good}
use Rattle.memory.proofs.Inside.{made_inside, state_inside}
use Rattle.memory.proofs.Words.{length_words}
use Rattle.calls.proofs.Answers.{moves_decided}
use Rattle.calls.proofs.LayoutKept.{advance_good}
use Rattle.banking.specs.Banks.{quiet}
use Rattle.banking.specs.Banking.{bank_answer, bank_moves, moved_own, moved_other, relations_after, own_after, other_after, cleared_after}
use Rattle.banking.proofs.JoinedState.{joined_back, relations_alike, edges_joined, part_long, part_further, front_long, back_long}
use Rattle.banking.proofs.BankAnswers.{BanksChecked, Decided, decided_says, relations_kept, own_kept, other_kept, lent_kept, relations_moved, own_moved, other_moved, lent_cleared}

-- A moment without its event edge goes by the relations alone.
quiet_made : (T : Terms) (g : Bool) (j u v : ℕ) (M N : Moment) → M.edge ≡ N.edge → quiet (made T M g j u v) ≡ quiet (made T N g j u v)
quiet_made T true j u v M N e = ap (λ (R : Relations). record { edge = affect_all u v (T.effects j) R; event = none }) e
quiet_made T false j u v M N e = ap (λ (R : Relations). record { edge = R; event = none }) e

module _ (terms relations own other scratch spare : List ℕ) (j u v : ℕ) where
  abbrev T : Terms
  T = terms_of terms

  abbrev S : State
  S = state_of (joined relations own)

  abbrev O : State
  O = state_of (joined relations other)

  -- The moment that it makes.
  abbrev pub moment_made : Moment
  moment_made = made T S.now (granted (bank_answer terms relations own other scratch spare j u v)) j u v

  abbrev A : List ℕ
  A = moved_own terms relations own other scratch spare j u v

  abbrev B : List ℕ
  B = moved_other terms relations own other scratch spare j u v

  size-A : length A ≡ state_words
  size-A = length_words T (advance T S moment_made)

  abbrev hushed_made : Moment
  hushed_made = quiet (made T O.now (granted (bank_answer terms relations own other scratch spare j u v)) j u v)

  size-B : length B ≡ state_words
  size-B = length_words T (advance T O hushed_made)

  abbrev relations' : List ℕ
  relations' = relations_after terms relations own other scratch spare j u v

  abbrev own' : List ℕ
  own' = own_after terms relations own other scratch spare j u v

  abbrev other' : List ℕ
  other' = other_after terms relations own other scratch spare j u v

  module _ (k : bank_moves terms relations own other scratch spare j u v ≡ true) where
    says : Decided terms relations own other scratch spare j u v
    says = decided_says terms relations own other scratch spare j u v (moves_decided (T.kept j) (bank_answer terms relations own other scratch spare j u v) k)

    relations-is : relations' ≡ take relation_words A ++ drop relation_words relations
    relations-is = sym (relations_moved terms relations own other scratch spare j u v k)

    own_is : own' ≡ drop relation_words A ++ drop own_words own
    own_is = sym (own_moved terms relations own other scratch spare j u v k)

    other-is : other' ≡ drop relation_words B ++ drop own_words other
    other-is = sym (other_moved terms relations own other scratch spare j u v k)

    same_edges : O.now.edge ≡ S.now.edge
    same_edges =
        let l = says.checked.long_banks.relations_long in
        edges_joined relations other l ∙ sym (edges_joined relations own l)

    -- In the other bank it is the same moment without its event edge.
    hushed-made : hushed_made ≡ quiet moment_made
    hushed-made = quiet_made T (granted (bank_answer terms relations own other scratch spare j u v)) j u v O.now S.now same_edges

    pub moved-other : B ≡ words_of T (advance T O (quiet moment_made))
    moved-other = ap (λ (N : Moment). words_of T (advance T O N)) hushed-made

    same_front : take relation_words A ≡ take relation_words B
    unfolding advance
    same_front =
        relations_alike T (advance T S moment_made) (advance T O (quiet moment_made)) refl
        ∙ ap (λ (w : List ℕ). take relation_words w) (sym moved-other)

    -- Each bank's state.
    pub joined_own : joined relations' own' ≡ A
    joined_own = ap₂ joined relations-is own_is ∙ joined_back A A (drop relation_words relations) (drop own_words own) size-A refl

    pub joined_other : joined relations' other' ≡ B
    joined_other = ap₂ joined relations-is other-is ∙ joined_back B A (drop relation_words relations) (drop own_words other) size-B same_front

    pub made_within : Inside T moment_made
    made_within =
        let n = says.names in
        made_inside T (good terms says.checked.good_terms) S.now (state_inside T (joined relations own) says.checked.good-own)
        (granted (bank_answer terms relations own other scratch spare j u v)) j u v
        (ltb-true j T.events (and_left (ltb j T.events) _ n))
        (ltb-true u T.members (and_left (ltb u T.members) _ (and_right (ltb j T.events) _ n)))
        (ltb-true v T.members (and_right (ltb u T.members) _ (and_right (ltb j T.events) _ n)))

  -- ---- whether it makes one or not

  by_moving : (P : Type 0) → (bank_moves terms relations own other scratch spare j u v ≡ true → P) → (bank_moves terms relations own other scratch spare j u v ≡ false → P) → P
  by_moving P p q = go (bank_moves terms relations own other scratch spare j u v) refl
    where
      go : (c : Bool) → bank_moves terms relations own other scratch spare j u v ≡ c → P
      go true e = p e
      go false e = q e

  pub relations_long : relation_words ≤ length relations → length relations' ≡ length relations
  relations_long l = by_moving (length relations' ≡ length relations)
      (λ k. ap length (relations-is k) ∙ part_long (take relation_words A) relations relation_words (front_long A size-A) l)
      (λ k. ap length (sym (relations_kept terms relations own other scratch spare j u v k)))

  pub own_long : own_words ≤ length own → length own' ≡ length own
  own_long l = by_moving (length own' ≡ length own)
      (λ k. ap length (own_is k) ∙ part_long (drop relation_words A) own own_words (back_long A size-A) l)
      (λ k. ap length (sym (own_kept terms relations own other scratch spare j u v k)))

  pub other_long : own_words ≤ length other → length other' ≡ length other
  other_long l = by_moving (length other' ≡ length other)
      (λ k. ap length (other-is k) ∙ part_long (drop relation_words B) other own_words (back_long B size-B) l)
      (λ k. ap length (sym (other_kept terms relations own other scratch spare j u v k)))

  pub relations_further : drop relation_words relations' ≡ drop relation_words relations
  relations_further = by_moving (drop relation_words relations' ≡ drop relation_words relations)
      (λ k. ap (drop relation_words) (relations-is k) ∙ part_further (take relation_words A) relations relation_words (front_long A size-A))
      (λ k. ap (drop relation_words) (sym (relations_kept terms relations own other scratch spare j u v k)))

  pub own_further : drop own_words own' ≡ drop own_words own
  own_further = by_moving (drop own_words own' ≡ drop own_words own)
      (λ k. ap (drop own_words) (own_is k) ∙ part_further (drop relation_words A) own own_words (back_long A size-A))
      (λ k. ap (drop own_words) (sym (own_kept terms relations own other scratch spare j u v k)))

  pub other_further : drop own_words other' ≡ drop own_words other
  other_further = by_moving (drop own_words other' ≡ drop own_words other)
      (λ k. ap (drop own_words) (other-is k) ∙ part_further (drop relation_words B) other own_words (back_long B size-B))
      (λ k. ap (drop own_words) (sym (other_kept terms relations own other scratch spare j u v k)))

  pub cleared_long : (lent : List ℕ) → scratch_words ≤ length lent → length (cleared_after terms relations own other scratch spare j u v lent) ≡ length lent
  cleared_long lent l = by_moving (length (cleared_after terms relations own other scratch spare j u v lent) ≡ length lent)
      (λ k. ap length (sym (lent_cleared terms relations own other scratch spare j u v k lent))
      ∙ part_long (replicate scratch_words 0) lent scratch_words (length-replicate {A = ℕ} scratch_words 0) l)
      (λ k. ap length (sym (lent_kept terms relations own other scratch spare j u v k lent)))

  -- Memory that has passed the checks passes them after a request.
  pub after_checked : BanksChecked terms relations own other → BanksChecked terms relations' own' other'
  after_checked c = record {
    long_terms = c.long_terms;
    long_banks = record {
      relations_long = omega (arith, relations_long c.long_banks.relations_long, c.long_banks.relations_long);
      own_long = omega (arith, own_long c.long_banks.own_long, c.long_banks.own_long);
      other_long = omega (arith, other_long c.long_banks.other_long, c.long_banks.other_long);
    };
    good_terms = c.good_terms;
    good-own = by_moving (good_state T (joined relations' own') ≡ true)
        (λ k. ap (good_state T) (joined_own k ∙ sym (append-nil A))
        ∙ advance_good T (good terms c.good_terms) (joined relations own) c.good-own moment_made (made_within k) [])
        (λ k. ap₂ (λ (r o : List ℕ). good_state T (joined r o)) (sym (relations_kept terms relations own other scratch spare j u v k))
        (sym (own_kept terms relations own other scratch spare j u v k)) ∙ c.good-own);
    good_other = by_moving (good_state T (joined relations' other') ≡ true)
        (λ k. ap (good_state T) (joined_other k ∙ moved-other k ∙ sym (append-nil (words_of T (advance T O (quiet moment_made)))))
        ∙ advance_good T (good terms c.good_terms) (joined relations other) c.good_other (quiet moment_made)
        (record { edges = (made_within k).edges; event = tt }) [])
        (λ k. ap₂ (λ (r o : List ℕ). good_state T (joined r o)) (sym (relations_kept terms relations own other scratch spare j u v k))
        (sym (other_kept terms relations own other scratch spare j u v k)) ∙ c.good_other);
  }
