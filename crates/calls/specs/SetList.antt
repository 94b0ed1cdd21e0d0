-- A set list (docs/SCOPE.md, Set lists): a lent list of request records, answered in order by
-- single requests one after another.
use Rattle.std.specs.Prelude.{ℕ, ◌+◌, cond, List, [], ◌∷◌, ltb, eqb, length, Result, Ok, Err, ◌≡◌, ◌⊎◌}
use Rattle.theory.specs.Keeper.{Answer}
use Rattle.theory.specs.Keeper.Verdict.{grant, deny}
use Rattle.theory.specs.Keeper.Answer.{decided, done, refused as refusedAnswer}
use Rattle.theory.specs.Limits.{scratch_words}
use Rattle.memory.specs.Outcome.{Outcome, has_passed, checks}
use Rattle.memory.specs.Outcome.Outcome.{passed, refused as refusedOutcome}
use Rattle.calls.specs.Monitor.{answer, granted, state_after, scratch_after}
use Rattle.calls.specs.declared.Record.{Record}
use Rattle.memory.specs.declared.refusal.Refusal.{Refusal}
use Rattle.memory.specs.Refusal.{refusal_number, refusal_line}

-- ---- the cases of what a list gives

-- How many records were granted, or the refusal's number and line.
pub data Listing : Type 0 where
  counted : (grants : ℕ) → Listing
  refused : (number line : ℕ) → Listing

abbrev pub listing_of : Result ℕ Refusal → Listing
listing_of (Ok n) = counted n
listing_of (Err r) = refused (refusal_number r) (refusal_line r)

-- ---- single requests one after another

-- The answer field: 0 for deny, 1 for grant, the number of a refusal. (No request is answered with done.)
abbrev pub answer_number : Answer → ℕ
answer_number (decided deny) = 0
answer_number (decided grant) = 1
answer_number done = 0
answer_number (refusedAnswer n l) = n

-- The record with its answer field filled in, whatever that was.
abbrev pub filled : Record → Answer → Record
filled r a = record { event = r.event; from = r.from; to = r.to; answer = answer_number a }

-- The records at the end, how many were granted, and what is left of state and scratch.
pub record Run : Type 0 where
  pub records : List Record
  pub grants : ℕ
  pub state : List ℕ
  pub scratch : List ℕ

-- Each record is a request over what the last one left.
unfoldable pub singly : (terms state scratch : List ℕ) → List Record → Run
singly terms state scratch [] = record { records = []; grants = 0; state = state; scratch = scratch }
singly terms state scratch (r ∷ rs) =
    let a = answer terms state scratch r.event r.from r.to in
    let later = singly terms (state_after terms state scratch r.event r.from r.to) (scratch_after terms state scratch r.event r.from r.to) rs in
    record { records = filled r a ∷ later.records; grants = cond (granted a) 1 0 + later.grants; state = later.state; scratch = later.scratch }

-- ---- the set list

-- The checks that come before any record, of an empty list too: those of a request less 9.
unfoldable pub list_checks : (terms state scratch : List ℕ) → Outcome
list_checks terms state scratch = cond (ltb (length scratch) scratch_words) (refusedOutcome 6 0) (checks terms state)

abbrev pub listing : Outcome → (grants : ℕ) → Listing
listing passed n = counted n
listing (refusedOutcome n l) _ = refused n l

-- What a set list gives: how many were granted, or which check failed.
unfoldable pub listed : (terms state scratch : List ℕ) → List Record → Listing
listed terms state scratch rs = listing (list_checks terms state scratch) (singly terms state scratch rs).grants

-- What it leaves: single requests one after another, or, where a check fails, all memory as lent.
unfoldable pub left : (terms state scratch : List ℕ) → List Record → Run
left terms state scratch rs =
    cond (has_passed (list_checks terms state scratch))
    (singly terms state scratch rs)
    (record { records = rs; grants = 0; state = state; scratch = scratch })

-- ---- what is said of its answers

-- What an answer adds to the count of grants.
unfoldable pub gain_of : ℕ → ℕ
gain_of number = cond (eqb number 1) 1 0

-- How many of the records have the answer 1.
unfoldable pub ones : List Record → ℕ
ones [] = 0
ones (r ∷ rs) = gain_of r.answer + ones rs

-- Deny, grant, or refused by 9.
abbrev pub Plain : ℕ → Type 0
Plain k = (k ≡ 0) ⊎ ((k ≡ 1) ⊎ (k ≡ 9))

-- What stands for a record past the end of a list.
abbrev pub blank : Record
blank = record { event = 0; from = 0; to = 0; answer = 0 }
