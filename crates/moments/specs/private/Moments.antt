-- What the next moment of two banks leaves in the lent memory.
use Rattle.std.specs.Prelude.{◌≡◌, Bool, List, ℕ, drop}
use Rattle.theory.specs.Tables.{made, advance}
use Rattle.memory.specs.Layout.{relation_words, own_words, joined, terms_of, state_of, words_of}
use Rattle.banking.specs.Banks.{quiet}

-- The bank that was asked is at the moment of its request, the other at the same moment without an event edge.
-- Further words are as they were.
pub record Moved (terms : List ℕ) (granted : Bool) (j u v : ℕ) (relations own other relations' own' other' : List ℕ) : Type 0 where
  pub here : joined relations' own' ≡ words_of (terms_of terms)
      (advance (terms_of terms) (state_of (joined relations own)) (made (terms_of terms) (state_of (joined relations own)).now granted j u v))
  pub beside : joined relations' other' ≡ words_of (terms_of terms)
      (advance (terms_of terms) (state_of (joined relations other)) (quiet (made (terms_of terms) (state_of (joined relations other)).now granted j u v)))
  pub further_relations : drop relation_words relations' ≡ drop relation_words relations
  pub further_own : drop own_words own' ≡ drop own_words own
  pub further_other : drop own_words other' ≡ drop own_words other
