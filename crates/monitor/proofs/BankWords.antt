-- What is left of the parts of two banks' memory, from the words of a state that they join to.
use Prim.Native.Nat.{ℕ, ◌+◌}
use native.Mathlib.Omega.{arith}
use mathlib.Core.Path.{◌≡◌, sym, ap, ap₂, subst, ◌∙◌}
use mathlib.Core.Bool.{Bool, true}
use mathlib.Core.List.{List, ◌++◌}
use lib.ListN.{length, take, drop, length-append, length-take, take-append-drop}
use lib.Seq.{take_at, drop_at}
use Rattle.memory.specs.Layout.{relation_words, own_words, state_words, joined}
use Rattle.memory.proofs.Words.{length_words}
use Rattle.calls.specs.Monitor.{granted}
use Rattle.banking.specs.Banking.{bank_answer, bank_moves, relations_after, own_after, other_after}
use Rattle.banking.proofs.BankAnswers as answers
use Rattle.moments.specs.private.Moments.{Moved}

module _ (r o w : List ℕ) (e : joined r o ≡ w) (l : length w ≡ state_words) where
  front_long : length (take relation_words r) ≡ relation_words
  front_long =
      let both : length (take relation_words r) + length (take own_words o) ≡ state_words =
      sym (length-append (take relation_words r) (take own_words o)) ∙ ap length e ∙ l in
      omega (arith, both, length-take relation_words r, length-take own_words o)

  front_words : take relation_words r ≡ take relation_words w
  front_words = sym (ap (take relation_words) (sym e) ∙ take_at (take relation_words r) (take own_words o) relation_words front_long)

  back_words : take own_words o ≡ drop relation_words w
  back_words = sym (ap (drop relation_words) (sym e) ∙ drop_at (take relation_words r) (take own_words o) relation_words front_long)

  -- With the further words.
  relations_left : (r₀ : List ℕ) → drop relation_words r ≡ drop relation_words r₀ → r ≡ take relation_words w ++ drop relation_words r₀
  relations_left r₀ f = sym (take-append-drop relation_words r) ∙ ap₂ ◌++◌ front_words f

  own_left : (o₀ : List ℕ) → drop own_words o ≡ drop own_words o₀ → o ≡ drop relation_words w ++ drop own_words o₀
  own_left o₀ f = sym (take-append-drop own_words o) ∙ ap₂ ◌++◌ back_words f

-- What a request that makes a moment leaves.
module _ (terms relations own other scratch spare : List ℕ) (j u v : ℕ) (k : bank_moves terms relations own other scratch spare j u v ≡ true) where
  pub moved_after : {g : Bool} {r o p : List ℕ} → g ≡ granted (bank_answer terms relations own other scratch spare j u v) →
      Moved terms g j u v relations own other r o p →
      (r ≡ relations_after terms relations own other scratch spare j u v)
      × (o ≡ own_after terms relations own other scratch spare j u v)
      × (p ≡ other_after terms relations own other scratch spare j u v)
  moved_after {g} {r} {o} {p} e moved =
      let m = subst (λ (b : Bool). Moved terms b j u v relations own other r o p) e moved in (
        relations_left r o _ m.here (length_words _ _) relations m.further_relations ∙ answers.relations_moved terms relations own other scratch spare j u v k,
        own_left r o _ m.here (length_words _ _) own m.further_own ∙ answers.own_moved terms relations own other scratch spare j u v k,
        own_left r p _ m.beside (length_words _ _) other m.further_other ∙ answers.other_moved terms relations own other scratch spare j u v k,
      )
