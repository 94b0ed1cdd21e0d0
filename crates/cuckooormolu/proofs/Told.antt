-- No code can be mistaken for another, whatever the functions are lent: the code of a grant is given for a grant only,
-- that of a denial for a denial only, that of a call that is done for such a call only, and every refusal has a number
-- from 1 to 99. So no code is 0.
use Prim.Native.Nat.{ℕ, ◌+◌}
use mathlib.Core.Path.{◌≡◌, refl}
use mathlib.Core.List.{List, [], ◌∷◌}
use mathlib.Core.Bool.{Bool, true, false, cond, not, ◌&&◌, ◌||◌}
use native.Mathlib.Omega.{arith}
use lib.Dec.{eqb, ltb}
use lib.ListN.{length}
use borrow.Author.Tests.{ltb-true}
use Rattle.sets.proofs.Finite.{and_left, and_right}
use Rattle.theory.specs.Tables.{named, decide_now}
use Rattle.theory.specs.Keeper.{Verdict, Answer}
use Rattle.theory.specs.Keeper.Verdict.{grant, deny}
use Rattle.theory.specs.Keeper.Answer.{decided, done as revised, refused}
use Rattle.theory.specs.Limits.{scratch_words}
use Rattle.memory.specs.Layout.{terms_words, state_words, terms_of, state_of}
use Rattle.memory.specs.Checks.{good_memory, good_state, good_relations}
use Rattle.theory.specs.Terms.{same_size}
use Rattle.memory.specs.Outcome.{Outcome, checks, opens, revises}
use Rattle.memory.specs.Outcome.Outcome.{passed, refused as refusedOutcome}
use Rattle.theory.specs.NewNumbers.{renumbers}
use Rattle.calls.specs.Monitor.{answer}
use Rattle.calls.specs.Renumbering.{renumbering}
use Rattle.calls.specs.SetList.{Listing, singly, list_checks, listing, listed}
use Rattle.calls.specs.SetList.Listing.{counted, refused as refusedList}
use Rattle.calls.specs.declared.Record.{Record}
use Rattle.fields.specs.Split.{Lines, split, lines}
use Rattle.fields.specs.Split.Lines.{done, cut, line}
use Rattle.file.specs.Line.{parsed}
use Rattle.file.specs.Reading as file
use Rattle.file.specs.File.{File, after_line, nothing}
use Rattle.file.specs.Reading.{Test, Reading, tests, tried, complete, read_on, partly_at, levelled, reading}
use Rattle.reader.specs.Read.{short, outcome, read_gives}
use Rattle.writer.specs.Write.{Writing, fitted, written_text, stored_text, is_fresh, if_fresh, size_gives, write_gives, old_size_gives, old_write_gives, store_size_gives, store_gives}
use Rattle.writer.specs.Write.Writing.{bytes, refused as refusedWriting}
use Rattle.file.specs.declared.line.Line.{Line}
use Rattle.file.specs.declared.line.Line.TheVariants.{Members, Labels, Entry, Policy, Effect, Edge, Form, TableBit, PairBit, EventEdge, Mark, Malformed}
use Rattle.cuckooormolu.specs.Codes.{done_code, Low, ToldAnswer, ToldOutcome, ToldWriting, ToldListing}

-- ---- a low number for each refusal

abbrev pub LowAnswer : Answer → Type 0
LowAnswer (decided v) = Unit {0}
LowAnswer revised = Unit {0}
LowAnswer (refused n l) = Low n

abbrev pub LowOutcome : Outcome → Type 0
LowOutcome passed = Unit {0}
LowOutcome (refusedOutcome n l) = Low n

abbrev LowWriting : Writing → Type 0
LowWriting (bytes n) = Unit {0}
LowWriting (refusedWriting n l) = Low n

abbrev pub LowListing : Listing → Type 0
LowListing (counted n) = Unit {0}
LowListing (refusedList n l) = Low n

pub told_answer : (a : Answer) → LowAnswer a → ToldAnswer a
told_answer (decided grant) h = record {
  grants = ((λ e. refl), (λ e. refl));
  denies = ((λ e. absurd (omega arith)), (λ e. let z : ◌≡◌ {A = ℕ} 0 1 = cc in absurd (omega arith)));
  refuses = λ n l e. let z : ◌≡◌ {A = ℕ} 0 1 = cc in absurd (omega arith);
}
told_answer (decided deny) h = record {
  grants = ((λ e. absurd (omega arith)), (λ e. let z : ◌≡◌ {A = ℕ} 0 1 = cc in absurd (omega arith)));
  denies = ((λ e. refl), (λ e. refl));
  refuses = λ n l e. let z : ◌≡◌ {A = ℕ} 0 1 = cc in absurd (omega arith);
}
told_answer revised h = record {
  grants = ((λ e. absurd (omega arith)), (λ e. let z : ◌≡◌ {A = ℕ} 0 1 = cc in absurd (omega arith)));
  denies = ((λ e. absurd (omega arith)), (λ e. let z : ◌≡◌ {A = ℕ} 0 1 = cc in absurd (omega arith)));
  refuses = λ n l e. let z : ◌≡◌ {A = ℕ} 0 1 = cc in absurd (omega arith);
}
told_answer (refused n l) h = record {
  grants = ((λ e. absurd (omega arith)), (λ e. let z : ◌≡◌ {A = ℕ} 0 1 = cc in absurd (omega arith)));
  denies = ((λ e. absurd (omega arith)), (λ e. let z : ◌≡◌ {A = ℕ} 0 1 = cc in absurd (omega arith)));
  refuses = λ m k e. let z : n ≡ m = cc in (omega arith, omega arith);
}

pub told_outcome : (o : Outcome) → LowOutcome o → ToldOutcome o
told_outcome passed h = record {
  done = ((λ e. refl), (λ e. refl));
  refuses = λ n l e. let z : ◌≡◌ {A = ℕ} 0 1 = cc in absurd (omega arith);
}
told_outcome (refusedOutcome n l) h = record {
  done = ((λ e. absurd (omega arith)), (λ e. let z : ◌≡◌ {A = ℕ} 0 1 = cc in absurd (omega arith)));
  refuses = λ m k e. let z : n ≡ m = cc in (omega arith, omega arith);
}

told_writing : (w : Writing) → LowWriting w → ToldWriting w
told_writing (bytes n) h = record {
  done = ((λ e. refl), (λ e. refl));
  refuses = λ n l e. let z : ◌≡◌ {A = ℕ} 0 1 = cc in absurd (omega arith);
}
told_writing (refusedWriting n l) h = record {
  done = ((λ e. absurd (omega arith)), (λ e. let z : ◌≡◌ {A = ℕ} 0 1 = cc in absurd (omega arith)));
  refuses = λ m k e. let z : n ≡ m = cc in (omega arith, omega arith);
}

pub told_listing : (x : Listing) → LowListing x → ToldListing x
told_listing (counted n) h = record {
  done = ((λ e. refl), (λ e. refl));
  refuses = λ n l e. let z : ◌≡◌ {A = ℕ} 0 1 = cc in absurd (omega arith);
}
told_listing (refusedList n l) h = record {
  done = ((λ e. absurd (omega arith)), (λ e. let z : ◌≡◌ {A = ℕ} 0 1 = cc in absurd (omega arith)));
  refuses = λ m k e. let z : n ≡ m = cc in (omega arith, omega arith);
}

-- ---- the calls over memory

pub low : (n : ℕ) → (ltb 0 n && ltb n done_code) ≡ true → Low n
low n e = (ltb-true 0 n (and_left (ltb 0 n) (ltb n done_code) e), ltb-true n done_code (and_right (ltb 0 n) (ltb n done_code) e))

pub low_checked : (a b c : Bool) → LowOutcome (cond a (refusedOutcome 6 0) (cond b (refusedOutcome 7 0) (cond c (refusedOutcome 8 0) passed)))
low_checked true b c = low 6 refl
low_checked false true c = low 7 refl
low_checked false false true = low 8 refl
low_checked false false false = tt

low_checks : (terms state : List ℕ) → LowOutcome (checks terms state)
unfolding checks
low_checks terms state =
    low_checked (ltb (length terms) terms_words || ltb (length state) state_words) (not (good_memory terms)) (not (good_state (terms_of terms) state))

low_opens : (terms state : List ℕ) → LowOutcome (opens terms state)
unfolding opens
low_opens terms state =
    low_checked (ltb (length terms) terms_words || ltb (length state) state_words) (not (good_memory terms)) (not (good_relations (terms_of terms) state))

pub low_revising : (a b c d : Bool) → LowOutcome (cond a (refusedOutcome 6 0) (cond b (refusedOutcome 7 0) (cond c (refusedOutcome 8 0) (cond d (refusedOutcome 13 0) passed))))
low_revising true b c d = low 6 refl
low_revising false true c d = low 7 refl
low_revising false false true d = low 8 refl
low_revising false false false true = low 13 refl
low_revising false false false false = tt

low_revises : (old state new second : List ℕ) → LowOutcome (revises old state new second)
unfolding revises
low_revises old state new second =
    low_revising (ltb (length old) terms_words || (ltb (length state) state_words || (ltb (length new) terms_words || ltb (length second) state_words)))
    (not (good_memory old && good_memory new)) (not (good_state (terms_of old) state)) (not (same_size (terms_of old) (terms_of new)))

low_numbers : (a b c d : Bool) → LowOutcome (cond a (refusedOutcome 6 0) (cond b (refusedOutcome 7 0) (cond c (refusedOutcome 8 0) (cond d (refusedOutcome 15 0) passed))))
low_numbers true b c d = low 6 refl
low_numbers false true c d = low 7 refl
low_numbers false false true d = low 8 refl
low_numbers false false false true = low 15 refl
low_numbers false false false false = tt

low_renumbering : (terms state numbers second : List ℕ) → LowOutcome (renumbering terms state numbers second)
unfolding renumbering
low_renumbering terms state numbers second =
    low_numbers (ltb (length terms) terms_words || (ltb (length state) state_words || ltb (length second) state_words)) (not (good_memory terms))
    (not (good_state (terms_of terms) state)) (not (renumbers (terms_of terms).members numbers))

low_decided : (a b c d : Bool) (v : Verdict) →
    LowAnswer (cond a (refused 6 0) (cond b (refused 7 0) (cond c (refused 8 0) (cond d (refused 9 0) (decided v)))))
low_decided true b c d v = low 6 refl
low_decided false true c d v = low 7 refl
low_decided false false true d v = low 8 refl
low_decided false false false true v = low 9 refl
low_decided false false false false v = tt

low_answer : (terms state scratch : List ℕ) (j u v : ℕ) → LowAnswer (answer terms state scratch j u v)
unfolding answer
low_answer terms state scratch j u v =
    let T = terms_of terms in
    low_decided (ltb (length terms) terms_words || (ltb (length state) state_words || ltb (length scratch) scratch_words)) (not (good_memory terms))
    (not (good_state T state)) (not (named T j u v)) (cond (decide_now T (state_of state) j u v) grant deny)

pub low_short : (b : Bool) (o : Outcome) → LowOutcome o → LowOutcome (cond b (refusedOutcome 6 0) o)
low_short true o h = low 6 refl
low_short false o h = h

low_list_checks : (terms state scratch : List ℕ) → LowOutcome (list_checks terms state scratch)
unfolding list_checks
low_list_checks terms state scratch = low_short (ltb (length scratch) scratch_words) (checks terms state) (low_checks terms state)

pub low_listing : (o : Outcome) (n : ℕ) → LowOutcome o → LowListing (listing o n)
low_listing passed n h = tt
low_listing (refusedOutcome k l) n h = h

low_fitted : (short : Bool) (n : ℕ) (o : Outcome) → LowOutcome o → LowWriting (fitted short n o)
low_fitted true n passed h = low 6 refl
low_fitted false n passed h = tt
low_fitted short n (refusedOutcome k l) h = h

low_fresh : (fresh : Bool) (o : Outcome) (w : Writing) → LowWriting w → LowWriting (if_fresh fresh o w)
low_fresh fresh (refusedOutcome k l) w h = h
low_fresh true passed w h = h
low_fresh false passed w h = low 12 refl

-- ---- reading

abbrev pub LowReading : Reading → Type 0
LowReading (file.accepted f) = Unit {0}
LowReading (file.refused n l) = Low n

-- Each test has a low number.
unfoldable low_tests : List Test → Bool
low_tests [] = true
low_tests (t ∷ ts) = (ltb 0 t.number && ltb t.number done_code) && low_tests ts

low-tests : (f : File) (l : Line) → low_tests (tests f l) ≡ true
unfolding tests low_tests
low-tests f (Members n) = refl
low-tests f (Labels r e) = refl
low-tests f (Entry n o a b c) = refl
low-tests f (Policy j n) = refl
low-tests f (Effect j c k d) = refl
low-tests f (Edge k a b) = refl
low-tests f (Form n) = refl
low-tests f (TableBit t a b) = refl
low-tests f (PairBit t a b c) = refl
low-tests f (EventEdge j u v) = refl
low-tests f (Mark j) = refl
low-tests f Malformed = refl

pub low_either : (b : Bool) (x y : Reading) → LowReading x → LowReading y → LowReading (cond b x y)
low_either true x y p q = p
low_either false x y p q = q

low_tried : (ts : List Test) (n : ℕ) (r : Reading) → low_tests ts ≡ true → LowReading r → LowReading (tried ts n r)
unfolding tried low_tests
low_tried [] n r e h = h
low_tried (t ∷ ts) n r e h =
    let s = ltb 0 t.number && ltb t.number done_code in
    low_either t.passes (tried ts n r) (file.refused t.number n) (low_tried ts n r (and_right s (low_tests ts) e) h)
    (low t.number (and_left s (low_tests ts) e))

low_read : (f : File) (n : ℕ) (ls : Lines) → LowReading (read_on f n ls)
unfolding read_on
low_read f n done = low_either (complete f) (file.accepted f) (file.refused 1 n) tt (low 1 refl)
low_read f n (cut l) = low 1 refl
low_read f n (line l r) =
    let p = parsed (split 9 l) in
    low_tried (tests f p) n (read_on (after_line f p) (n + 1) r) (low-tests f p) (low_read (after_line f p) (n + 1) r)

low_levelled : (ls : Lines) (r : Reading) → LowReading r → LowReading (levelled ls r)
unfolding levelled
low_levelled ls (file.accepted f) h =
    low_either (eqb (partly_at f 1 ls) 0) (file.accepted f) (file.refused 11 (partly_at f 1 ls)) tt (low 11 refl)
low_levelled ls (file.refused n l) h = h

pub low_outcome : (b : Bool) (r : Reading) → LowReading r → LowOutcome (cond b (refusedOutcome 6 0) (outcome r))
low_outcome true r h = low 6 refl
low_outcome false (file.accepted f) h = tt
low_outcome false (file.refused n l) h = h

pub low_text : (text : List ℕ) → LowReading (reading text)
unfolding reading
low_text text = low_levelled (lines text) (read_on nothing 1 (lines text)) (low_read nothing 1 (lines text))

low_reading : (text terms state : List ℕ) → LowOutcome (read_gives text terms state)
unfolding read_gives
low_reading text terms state = low_outcome (short terms state) (reading text) (low_text text)

-- ---- the theorems

pub told_look : (terms state scratch : List ℕ) (j u v : ℕ) → ToldAnswer (answer terms state scratch j u v)
told_look terms state scratch j u v = told_answer (answer terms state scratch j u v) (low_answer terms state scratch j u v)

pub told_read : (text terms state : List ℕ) → ToldOutcome (read_gives text terms state)
told_read text terms state = told_outcome (read_gives text terms state) (low_reading text terms state)

pub told_check : (terms state : List ℕ) → ToldOutcome (checks terms state)
told_check terms state = told_outcome (checks terms state) (low_checks terms state)

pub told_open : (terms state : List ℕ) → ToldOutcome (opens terms state)
told_open terms state = told_outcome (opens terms state) (low_opens terms state)

pub told_revise : (old state new second : List ℕ) → ToldOutcome (revises old state new second)
told_revise old state new second = told_outcome (revises old state new second) (low_revises old state new second)

pub told_renumber : (terms state numbers second : List ℕ) → ToldOutcome (renumbering terms state numbers second)
told_renumber terms state numbers second = told_outcome (renumbering terms state numbers second) (low_renumbering terms state numbers second)

pub told_size : (terms state : List ℕ) → ToldWriting (old_size_gives terms state)
unfolding size_gives old_size_gives
told_size terms state =
    let o = checks terms state in
    told_writing (old_size_gives terms state)
    (low_fresh (is_fresh terms state) o (size_gives terms state) (low_fitted false (length (written_text terms state)) o (low_checks terms state)))

pub told_write : (terms state out : List ℕ) → ToldWriting (old_write_gives terms state out)
unfolding write_gives old_write_gives
told_write terms state out =
    let n = length (written_text terms state) in
    let o = checks terms state in
    told_writing (old_write_gives terms state out)
    (low_fresh (is_fresh terms state) o (write_gives terms state out) (low_fitted (ltb (length out) n) n o (low_checks terms state)))

pub told_store_size : (terms state : List ℕ) → ToldWriting (store_size_gives terms state)
unfolding store_size_gives
told_store_size terms state =
    told_writing (store_size_gives terms state) (low_fitted false (length (stored_text terms state)) (checks terms state) (low_checks terms state))

pub told_store : (terms state out : List ℕ) → ToldWriting (store_gives terms state out)
unfolding store_gives
told_store terms state out =
    let n = length (stored_text terms state) in
    told_writing (store_gives terms state out) (low_fitted (ltb (length out) n) n (checks terms state) (low_checks terms state))

pub told_list : (terms state scratch : List ℕ) (rs : List Record) → ToldListing (listed terms state scratch rs)
unfolding listed
told_list terms state scratch rs =
    told_listing (listed terms state scratch rs)
    (low_listing (list_checks terms state scratch) (singly terms state scratch rs).grants (low_list_checks terms state scratch))
