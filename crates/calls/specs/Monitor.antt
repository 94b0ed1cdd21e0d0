-- What the public functions give and leave, for every lent memory. `demand_3` holds these against the keeper.
use Rattle.std.specs.Prelude.{ℕ, Bool, true, false, cond, not, ◌||◌, List, ◌++◌, ltb, length, drop, replicate, Result, Ok, Err}
use Rattle.theory.specs.Keeper.{Verdict, Answer}
use Rattle.theory.specs.Keeper.Verdict.{grant, deny}
use Rattle.theory.specs.Keeper.Answer.{decided, done, refused}
use Rattle.theory.specs.Limits.{scratch_words}
use Rattle.memory.specs.Layout.{terms_words, state_words, terms_of, state_of, words_of}
use Rattle.memory.specs.Checks.{good_memory, good_state}
use Rattle.memory.specs.Outcome.{has_passed, opens}
use Rattle.theory.specs.Tables.{opening, named, decide_now, made, advance}
use Rattle.memory.specs.declared.refusal.Refusal.{Refusal}
use Rattle.memory.specs.Refusal.{refusal_number, refusal_line}
use Rattle.calls.specs.declared.Verdict.{Verdict as VerdictCase}
use Rattle.calls.specs.declared.Verdict.TheVariants.{Grant, Deny}
use Rattle.calls.specs.declared.Answer.{Answer as AnswerCase}
use Rattle.calls.specs.declared.Answer.TheVariants.{Decided, Refused}

-- ---- the enums' cases, in the words of docs/SCOPE.md, Memory

abbrev pub verdict_of : VerdictCase → Verdict
verdict_of Grant = grant
verdict_of Deny = deny

-- A decided request carries grant or deny, a refused one its number and line.
abbrev pub answer_of : AnswerCase → Answer
answer_of (Decided v) = decided (verdict_of v)
answer_of (Refused n l) = refused n l

-- The same of a verdict, where the request is not refused.
abbrev pub answer_to : Result VerdictCase Refusal → Answer
answer_to (Ok v) = decided (verdict_of v)
answer_to (Err r) = refused (refusal_number r) (refusal_line r)

-- ---- look and request

-- What a look gives, and a request: lengths of terms, state and scratch (6), terms (7), state (8),
-- request (9), else the verdict.
unfoldable pub answer : (terms state scratch : List ℕ) → (j u v : ℕ) → Answer
answer terms state scratch j u v =
    cond (ltb (length terms) terms_words || (ltb (length state) state_words || ltb (length scratch) scratch_words)) (refused 6 0)
    (cond (not (good_memory terms)) (refused 7 0)
    (cond (not (good_state (terms_of terms) state)) (refused 8 0)
    (cond (not (named (terms_of terms) j u v)) (refused 9 0)
    (decided (cond (decide_now (terms_of terms) (state_of state) j u v) grant deny)))))

abbrev pub granted : Answer → Bool
granted (decided grant) = true
granted (decided deny) = false
granted done = false
granted (refused n l) = false

-- The answer is a verdict.
abbrev pub is_decided : Answer → Bool
is_decided (decided v) = true
is_decided done = false
is_decided (refused n l) = false

-- The answer to a request makes a moment: a grant does, and a denial where the event is kept.
abbrev pub moves : (kept : Bool) → Answer → Bool
moves kept (decided grant) = true
moves kept (decided deny) = kept
moves kept done = false
moves kept (refused n l) = false

-- What a request leaves: one that makes a moment the words of the next state, and 0 in the named words of scratch;
-- anything else all memory as lent. Further words are not touched.
unfoldable pub state_after : (terms state scratch : List ℕ) → (j u v : ℕ) → List ℕ
state_after terms state scratch j u v =
    cond (moves ((terms_of terms).kept j) (answer terms state scratch j u v))
    (words_of (terms_of terms) (advance (terms_of terms) (state_of state) (made (terms_of terms) (state_of state).now (granted (answer terms state scratch j u v)) j u v))
    ++ drop state_words state)
    state

unfoldable pub scratch_after : (terms state scratch : List ℕ) → (j u v : ℕ) → List ℕ
scratch_after terms state scratch j u v =
    cond (moves ((terms_of terms).kept j) (answer terms state scratch j u v)) (replicate scratch_words 0 ++ drop scratch_words scratch) scratch

-- ---- open

-- What opening leaves: the state of moment 0 of the relations that stand there, whatever tables and event word were.
unfoldable pub opened_state : (terms state : List ℕ) → List ℕ
opened_state terms state =
    cond (has_passed (opens terms state))
    (words_of (terms_of terms) (opening (terms_of terms) (state_of state).now.edge) ++ drop state_words state)
    state
