-- What a call of a bank, an opening of both and new terms for both give and leave, for every lent memory
-- (docs/SCOPE.md, Two banks). Two banks are 1,024 words of relations that both use, and for each bank 2,049 words of
-- its own: its tables and its event word. A bank's state is the relations joined with its own words. `demand_3_banks`
-- holds these against the keeper.
use Rattle.std.specs.Prelude.{ℕ, Bool, cond, not, ◌||◌, List, ◌++◌, ltb, length, take, drop, replicate}
use Rattle.theory.specs.Keeper.{Answer}
use Rattle.theory.specs.Keeper.Verdict.{grant, deny}
use Rattle.theory.specs.Keeper.Answer.{decided, refused}
use Rattle.theory.specs.Limits.{scratch_words}
use Rattle.theory.specs.Tables.{named, decide_now, made, advance, revised}
use Rattle.memory.specs.Layout.{terms_words, relation_words, own_words, joined, terms_of, state_of, words_of}
use Rattle.memory.specs.Checks.{good_memory}
use Rattle.memory.specs.Outcome.{has_passed, short_banks, good_banks, banks_open, banks_revise}
use Rattle.calls.specs.Monitor.{granted, moves, opened_state}
use Rattle.banking.specs.Banks.{quiet}

-- ---- look and request, of the bank whose own words and scratch come first; spare is the other bank's scratch

module _ (terms relations own other scratch spare : List ℕ) (j u v : ℕ) where
  -- What a look gives, and a request: all lengths (6), terms (7), both banks' states (8), request (9), else the verdict
  -- by the bank's own state.
  unfoldable pub bank_answer : Answer
  bank_answer =
      cond (ltb (length terms) terms_words || (short_banks relations own other || (ltb (length scratch) scratch_words || ltb (length spare) scratch_words))) (refused 6 0)
      (cond (not (good_memory terms)) (refused 7 0)
      (cond (not (good_banks (terms_of terms) relations own other)) (refused 8 0)
      (cond (not (named (terms_of terms) j u v)) (refused 9 0)
      (decided (cond (decide_now (terms_of terms) (state_of (joined relations own)) j u v) grant deny)))))

  -- The request makes a moment.
  abbrev pub bank_moves : Bool
  bank_moves = moves ((terms_of terms).kept j) bank_answer

  -- The words of the bank's state at that moment, and of the other bank's, where it has no event edge.
  abbrev pub moved_own : List ℕ
  moved_own =
      words_of (terms_of terms) (advance (terms_of terms) (state_of (joined relations own))
      (made (terms_of terms) (state_of (joined relations own)).now (granted bank_answer) j u v))

  abbrev pub moved_other : List ℕ
  moved_other =
      words_of (terms_of terms) (advance (terms_of terms) (state_of (joined relations other))
      (quiet (made (terms_of terms) (state_of (joined relations other)).now (granted bank_answer) j u v)))

  -- What a request leaves: one that makes a moment the words of both next states, which have the same relations, and 0
  -- in the named words of both scratches; anything else all memory as lent. Further words are not touched.
  unfoldable pub relations_after : List ℕ
  relations_after = cond bank_moves (take relation_words moved_own ++ drop relation_words relations) relations

  unfoldable pub own_after : List ℕ
  own_after = cond bank_moves (drop relation_words moved_own ++ drop own_words own) own

  unfoldable pub other_after : List ℕ
  other_after = cond bank_moves (drop relation_words moved_other ++ drop own_words other) other

  -- Of either scratch.
  unfoldable pub cleared_after : List ℕ → List ℕ
  cleared_after lent = cond bank_moves (replicate scratch_words 0 ++ drop scratch_words lent) lent

-- ---- open

-- What opening leaves of a bank's own words: tables and event word of moment 0 of the relations. The relations are not
-- touched.
unfoldable pub own_opened : (terms relations first second : List ℕ) → (own : List ℕ) → List ℕ
own_opened terms relations first second own =
    cond (has_passed (banks_open terms relations first second))
    (drop relation_words (opened_state terms (joined relations own)) ++ drop own_words own)
    own

-- ---- revise

-- The words of the state that new terms begin with, of a bank.
abbrev pub begun_words : (old relations own new : List ℕ) → List ℕ
begun_words old relations own new = words_of (terms_of new) (revised (terms_of old) (state_of (joined relations own)) (terms_of new))

module _ (old relations first second new relations' first' second' : List ℕ) where
  -- What is left of the second relations, which are the same whichever bank's state is revised, and of a bank's second
  -- own words. Further words are not touched; refused, all is as lent.
  unfoldable pub relations_revised : List ℕ
  relations_revised =
      cond (has_passed (banks_revise old relations first second new relations' first' second'))
      (take relation_words (begun_words old relations first new) ++ drop relation_words relations')
      relations'

  unfoldable pub own_revised : (own own' : List ℕ) → List ℕ
  own_revised own own' =
      cond (has_passed (banks_revise old relations first second new relations' first' second'))
      (drop relation_words (begun_words old relations own new) ++ drop own_words own')
      own'
