-- What demand 3 asks (docs/SCOPE.md, The keeper): a list of calls, set lists, new terms and new numbers over lent
-- memory, and the words afterwards.
use Rattle.std.specs.Prelude.{ℕ, ◌<◌, ◌≤◌, ◌≡◌, Bool, false, cond, ◌&&◌, List, [], ◌∷◌, ◌++◌, map, eqb, ltb, length, get_or, drop}
use Rattle.sets.specs.Sets.{bit}
use Rattle.theory.specs.Limits.{scratch_words, max_members, max_relations, max_tables}
use Rattle.theory.specs.Meaning.{Starts}
use Rattle.theory.specs.Columns.{inside, standing, member}
use Rattle.theory.specs.Terms.{Terms, formula, tables, past_entry}
use Rattle.theory.specs.Moment.{Moment}
use Rattle.theory.specs.Keeper.{Call, Answer, Offer, Step, last_moment, keeper_holds, Book, first_book}
use Rattle.theory.specs.Keeper.Step.{call, revise as reviseStep, renumber as renumberStep}
use Rattle.memory.specs.Layout.{state_words, relation_at, table_at, event_at, event_word, terms_of, table_columns, state_of}
use Rattle.memory.specs.Checks.{good_memory}
use Rattle.memory.specs.Outcome.{Outcome, has_passed, revises}
use Rattle.memory.specs.Outcome.Outcome.{passed, refused as refusedOutcome}
use Rattle.theory.specs.Keeper.Verdict.{grant, deny}
use Rattle.theory.specs.Keeper.Answer.{decided, done, refused}
use Rattle.calls.specs.Monitor.{answer, state_after, opened_state}
use Rattle.calls.specs.SetList.{Listing, listed, left}
use Rattle.calls.specs.SetList.Listing.{counted, refused as refusedList}
use Rattle.calls.specs.Revising.{revised_state}
use Rattle.calls.specs.Renumbering.{renumbering, renumbered_state}
use Rattle.calls.specs.declared.Record.{Record}

-- A call over lent memory: a look or a request; event, initiator, target; the scratch that is lent with it.
pub record LentCall : Type 0 where
  pub look : Bool
  pub event : ℕ
  pub from : ℕ
  pub to : ℕ
  pub scratch : List ℕ

-- The same call, as the keeper is fed it.
abbrev pub fed : LentCall → Call
fed c = record { look = c.look; event = c.event; from = c.from; to = c.to; scratch = length c.scratch }

unfoldable pub fed_all : List LentCall → List Call
fed_all [] = []
fed_all (c ∷ cs) = fed c ∷ fed_all cs

-- What a call leaves of the state's memory.
abbrev pub leaves : (terms state : List ℕ) → LentCall → List ℕ
leaves terms state c = cond c.look state (state_after terms state c.scratch c.event c.from c.to)

-- The calls of a list, each handed terms and state as the last left them: the answers in order, and
-- the state's memory at the end.
unfoldable pub serve_all : (terms state : List ℕ) → List LentCall → List Answer × List ℕ
serve_all terms state [] = ([], state)
serve_all terms state (c ∷ cs) =
    let later = serve_all terms (leaves terms state c) cs in
    (answer terms state c.scratch c.event c.from c.to ∷ later.0, later.1)

-- ---- set lists, new terms and new numbers among the calls

-- A step over lent memory: one call; a set list with the scratch that is lent with it; new terms, and new numbers, with
-- the second state that is lent with them.
pub data LentStep : Type 0 where
  once : LentCall → LentStep
  set_list : (scratch : List ℕ) → List Record → LentStep
  revise : (new second : List ℕ) → LentStep
  renumber : (numbers second : List ℕ) → LentStep

-- The request of a record, as the keeper is fed it.
abbrev pub fed_record : (scratch : ℕ) → Record → Call
fed_record n r = record { look = false; event = r.event; from = r.from; to = r.to; scratch = n }

-- New terms, as the keeper is fed them.
abbrev pub offered : (new second : List ℕ) → Offer
offered new second = record { words = length new; state = length second; sound = good_memory new; terms = terms_of new }

-- The same steps, as the keeper is fed them: a set list is its requests, one after another.
unfoldable pub fed_steps : List LentStep → List Step
fed_steps [] = []
fed_steps (once c ∷ ss) = call (fed c) ∷ fed_steps ss
fed_steps (set_list scratch rs ∷ ss) = map (λ r. call (fed_record (length scratch) r)) rs ++ fed_steps ss
fed_steps (revise new second ∷ ss) = reviseStep (offered new second) ∷ fed_steps ss
fed_steps (renumber numbers second ∷ ss) = renumberStep numbers (length second) ∷ fed_steps ss

-- The same steps: they differ only in the scratch that is lent with a call or a set list, and each has words enough.
pub data SameSteps : List LentStep → List LentStep → Type 0 where
  none : SameSteps [] []
  calls : (look : Bool) (j u v : ℕ) (small large : List ℕ) → scratch_words ≤ length small → scratch_words ≤ length large → (ss ts : List LentStep) → SameSteps ss ts →
      SameSteps (once (record { look = look; event = j; from = u; to = v; scratch = small }) ∷ ss) (once (record { look = look; event = j; from = u; to = v; scratch = large }) ∷ ts)
  set_lists : (rs : List Record) (small large : List ℕ) → scratch_words ≤ length small → scratch_words ≤ length large → (ss ts : List LentStep) → SameSteps ss ts →
      SameSteps (set_list small rs ∷ ss) (set_list large rs ∷ ts)
  new_terms : (new second : List ℕ) (ss ts : List LentStep) → SameSteps ss ts → SameSteps (revise new second ∷ ss) (revise new second ∷ ts)
  new_numbers : (numbers second : List ℕ) (ss ts : List LentStep) → SameSteps ss ts → SameSteps (renumber numbers second ∷ ss) (renumber numbers second ∷ ts)

-- No step is new terms or new numbers.
abbrev pub KeepsTerms : List LentStep → Type 0
KeepsTerms [] = Unit {0}
KeepsTerms (once c ∷ ss) = KeepsTerms ss
KeepsTerms (set_list scratch rs ∷ ss) = KeepsTerms ss
KeepsTerms (revise new second ∷ ss) = ⊥
KeepsTerms (renumber numbers second ∷ ss) = ⊥

-- The calls of a list that keeps the terms.
unfoldable pub fed_calls : List LentStep → List Call
fed_calls [] = []
fed_calls (once c ∷ ss) = fed c ∷ fed_calls ss
fed_calls (set_list scratch rs ∷ ss) = map (fed_record (length scratch)) rs ++ fed_calls ss
fed_calls (revise new second ∷ ss) = fed_calls ss
fed_calls (renumber numbers second ∷ ss) = fed_calls ss

-- The answer that a number stands for: 0 for deny, 1 for grant, else a refusal by that number.
abbrev pub answer_in : ℕ → Answer
answer_in n = cond (eqb n 0) (decided deny) (cond (eqb n 1) (decided grant) (refused n 0))

-- What a set list answers to each record: the number that is filled in, or the refusal of the list as a whole.
abbrev pub answers_in : Listing → (after : List Record) → List Answer
answers_in (counted n) rs = map (λ r. answer_in r.answer) rs
answers_in (refusedList n l) rs = map (λ r. refused n l) rs

-- What new terms and new numbers answer.
abbrev pub outcome_in : Outcome → Answer
outcome_in passed = done
outcome_in (refusedOutcome n l) = refused n l

-- The lent memory in use: terms, and state, with what stood in the state's memory when it was lent.
pub record Lent : Type 0 where
  pub terms : List ℕ
  pub state : List ℕ
  pub before : List ℕ

abbrev pub with_state : Lent → List ℕ → Lent
with_state L m = record { terms = L.terms; state = m; before = L.before }

-- New terms: from then on these and the second state are in use; refused, all is as before.
abbrev pub in_use : Lent → (new second : List ℕ) → Lent
in_use L new second =
    cond (has_passed (revises L.terms L.state new second))
    (record { terms = new; state = revised_state L.terms L.state new second; before = second })
    L

-- New numbers: the terms stay, and from then on the second state is in use; refused, all is as before.
abbrev pub in_use_by : Lent → (numbers second : List ℕ) → Lent
in_use_by L numbers second =
    cond (has_passed (renumbering L.terms L.state numbers second))
    (record { terms = L.terms; state = renumbered_state L.terms L.state numbers second; before = second })
    L

-- The steps of a list, each handed the memory in use as the last left it: the answers in order,
-- and the memory in use at the end.
unfoldable pub serve_steps : Lent → List LentStep → List Answer × Lent
serve_steps L [] = ([], L)
serve_steps L (once c ∷ ss) =
    let later = serve_steps (with_state L (leaves L.terms L.state c)) ss in
    (answer L.terms L.state c.scratch c.event c.from c.to ∷ later.0, later.1)
serve_steps L (set_list scratch rs ∷ ss) =
    let after = left L.terms L.state scratch rs in
    let later = serve_steps (with_state L after.state) ss in
    (answers_in (listed L.terms L.state scratch rs) after.records ++ later.0, later.1)
serve_steps L (revise new second ∷ ss) =
    let later = serve_steps (in_use L new second) ss in
    (outcome_in (revises L.terms L.state new second) ∷ later.0, later.1)
serve_steps L (renumber numbers second ∷ ss) =
    let later = serve_steps (in_use_by L numbers second) ss in
    (outcome_in (renumbering L.terms L.state numbers second) ∷ later.0, later.1)

-- ---- the words afterwards

-- The state's memory m agrees with the keeper's list, each past-time entry judged from its start, for a and b below 64,
-- k below 16 and t below 32; it is as long as m₀ and has m₀'s further words. Bit b of word a of table t says, over its
-- columns, one or two: word and bit are those of members, there is a past-time entry t, and it holds at the last
-- moment, at the member and with its free variables standing for the members that word and bit say.
pub record Agrees (T : Terms) (s : Starts) (m₀ m : List ℕ) (Ms : List Moment) : Type 0 where
  pub edges : (k a b : ℕ) → k < max_relations → a < max_members → b < max_members → bit (get_or m (relation_at k a) 0) b ≡ (last_moment Ms).edge k a b
  pub tables : (t a b : ℕ) → t < max_tables → a < max_members → b < max_members →
      bit (get_or m (table_at t a) 0) b
      ≡ ltb t (tables T) && (inside T.members (table_columns T t) a b
      && keeper_holds T s Ms (past_entry T t) (standing (formula T (past_entry T t)) a b) (member (formula T (past_entry T t)) a))
  pub event : get_or m event_at 0 ≡ event_word (last_moment Ms).event
  pub long : length m ≡ length m₀
  pub further : drop state_words m ≡ drop state_words m₀

-- ---- from an opening

-- What the keeper begins with, and the memory that opening leaves.
abbrev pub opened_book : (terms state : List ℕ) → Book
opened_book terms state = first_book (terms_of terms) (state_of state).now.edge

abbrev pub opened : (terms state : List ℕ) → Lent
opened terms state = record { terms = terms; state = opened_state terms state; before = state }
