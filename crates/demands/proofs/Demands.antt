-- The statements of all top theorems in one file, under the titles of docs/GUARANTEES.md, each with the law that proves
-- it. What they speak of is defined in specs/ of the crates; tests/believed.py counts these definitions. The other half
-- of the promises are the contracts of the public functions, in src/. Names that mean two things in two crates have a
-- name of their own here.
use Prim.Native.Nat.{◌%◌, ◌*◌, ◌+◌, ◌/◌, ◌<◌, ◌≤◌, suc, ℕ}
use mathlib.Core.Bool.{Bool, ◌&&◌, ◌||◌, false, true}
use mathlib.Core.List.{List, [], ◌++◌, ◌∷◌, map}
use mathlib.Core.Logic.{◌↔◌}
use mathlib.Core.Path.{◌≡◌}
use lib.Dec.{eqb}
use lib.ListN.{drop, get_or, length, take}
use Rattle.sets.specs.Sets.{all_below, any_below, bit}
use Rattle.theory.specs.Cases.{AnyEnds, Anywhere, cases, expected, kept_answers}
use Rattle.theory.specs.Fit.{Good, ◌⇒◌}
use Rattle.theory.specs.Formula.{Formula, free, is_past, number}
use Rattle.theory.specs.Formula.Formula.{into, many, neg, or, out, prev, reach, since, top, var}
use Rattle.theory.specs.Keeper.{Answer, Book, Call, keep_all, keep_steps, keeper, keeper_holds}
use Rattle.theory.specs.Keeper.Answer.{refused}
use Rattle.theory.specs.Limits.{scratch_words}
use Rattle.theory.specs.Meaning.{Assignment, Record, Starts, alone, assign, from_first, holds, holds_throughout}
use Rattle.theory.specs.MembersRenumbered.{Renumbering, renumber_call}
use Rattle.theory.specs.Moment.{Moment, Relations, first}
use Rattle.theory.specs.NewNumbers.{renumber_moment}
use Rattle.theory.specs.Strangers.{AgreeWithin, Circle, Inside as InCircle, OneSided, Paired, Separate, SeparateFirst, WithoutReach}
use Rattle.theory.specs.Tables.{advance, opening, revised}
use Rattle.theory.specs.Terms.{Alike, Terms, formula}
use Rattle.fields.specs.Split.{lines}
use Rattle.memory.specs.Checks.{Inside, good_memory, good_state}
use Rattle.memory.specs.Layout.{state_of, state_words, table_at, terms_of, terms_words, words_of}
use Rattle.memory.specs.Outcome.{banks_open, banks_revise, checks, opens, revises}
use Rattle.memory.specs.Outcome.Outcome.{refused as refusedOutcome, passed}
use Rattle.file.specs.File.{File}
use Rattle.file.specs.Normal.{Unpadded, is_plain, normal_text}
use Rattle.file.specs.Preset.{ReadsPreset}
use Rattle.file.specs.Reading.{reading, tests}
use Rattle.file.specs.Reading.Reading.{accepted, refused as refusedReading}
use Rattle.file.specs.Refused.{RefusedText, numbers_rise}
use Rattle.file.specs.Said.{SaidBy, edges_said, said_lines, terms_said}
use Rattle.file.specs.Writing.{text_said}
use Rattle.file.specs.declared.line.Line.{Line}
use Rattle.calls.specs.Agreement.{Agrees, KeepsTerms, Lent, LentCall, LentStep, SameSteps, fed_all, fed_calls, fed_steps, opened, opened_book, serve_all, serve_steps}
use Rattle.calls.specs.MembersLater.{step_by}
use Rattle.calls.specs.Monitor.{answer, opened_state, scratch_after, state_after}
use Rattle.calls.specs.Reached.{Reaches}
use Rattle.calls.specs.Refused.{OpeningRefusal, Refusal, RenumberingRefusal, RevisionRefusal}
use Rattle.calls.specs.Renumbering.{renumbered_state, renumbering, undo}
use Rattle.calls.specs.Revising.{revised_state}
use Rattle.calls.specs.SetList.{Plain, blank, left as listLeft, list_checks, listed, ones, singly}
use Rattle.calls.specs.SetList.Listing.{counted, refused as refusedList}
use Rattle.calls.specs.Telling.{tells}
use Rattle.calls.specs.Telling.Telling.{refused as refusedTelling}
use Rattle.calls.specs.declared.Record.{Record as ListRecord}
use Rattle.banking.specs.BankList.{bank_left, bank_list_checks, bank_listed, bank_singly}
use Rattle.banking.specs.BankRefused.{ListRefusal, OpeningRefusal as BanksOpeningRefusal, Refusal as BankRefusal, RevisionRefusal as BanksRevisionRefusal}
use Rattle.banking.specs.BankRuns.{BanksAgree, BanksInUse, Lent as BanksLent, LentBankStep, fed_bank_steps, opened_books, opened_in_use, serve_bank_steps}
use Rattle.banking.specs.BankScratch.{SameBankSteps}
use Rattle.banking.specs.Banking.{bank_answer, cleared_after, other_after, own_after, own_opened, own_revised, relations_after, relations_revised}
use Rattle.banking.specs.Banks.{Bank, BankStep, Books, OfBank, Placed, book_of, first_books, keep_bank_steps}
use Rattle.banking.specs.Banks.Bank.{left, right}
use Rattle.plans.specs.Game.{Move, Reply, has_reply, keeper_rules, reaches, wins}
use Rattle.plans.specs.Game.Ruling.{refuse}
use Rattle.plans.specs.Plans.{ruling, scratch_after_ruling}
use Rattle.plans.specs.Refused.{PlanRefusal, TellingRefusal}
use Rattle.reader.specs.Memory.{memory_of}
use Rattle.reader.specs.Read.{read_gives, read_terms}
use Rattle.writer.specs.Write.{is_fresh, old_size_gives, old_write_gives, old_write_leaves, store_gives, store_leaves, store_size_gives, stored_text, written_text}
use Rattle.writer.specs.Write.Writing.{bytes, refused as refusedWriting}
use Rattle.text.specs.Banks.{banks_read_gives, loaded_banks, said_books}
use Rattle.text.specs.Recorded.{Recorded, after_steps, later_book, loaded}
use Rattle.text.specs.Text.{Back, read_state}
use Rattle.rulings.specs.Telling.{keeper_tells}
use Rattle.transcript.specs.Output.{output}
use Rattle.transcript.specs.Transcript.{answers, longest}
use Rattle.cuckooormolu.specs.Codes.{ToldAnswer, ToldListing, ToldOutcome, ToldRuling, ToldTelling, ToldWriting}

-- ======== Demand 1: total, each answer under its stated condition only, a refusal changes nothing

-- ---- Refusals

-- A look or a request is refused with number n exactly when the line is 0 and a reason for n fits; then all memory is
-- as lent.
pub call_refused_only : (terms state scratch : List ℕ) (j u v n l : ℕ) →
    (answer terms state scratch j u v ≡ refused n l →
    (l ≡ 0) × Refusal terms state scratch j u v n
    × (state_after terms state scratch j u v ≡ state) × (scratch_after terms state scratch j u v ≡ scratch))
    × (Refusal terms state scratch j u v n → answer terms state scratch j u v ≡ refused n 0)
call_refused_only = Rattle.calls.proofs.Refused.refused_only

-- So is an opening.
pub opening_refused_only : (terms state : List ℕ) (n l : ℕ) →
    (opens terms state ≡ refusedOutcome n l → (l ≡ 0) × OpeningRefusal terms state n × (opened_state terms state ≡ state))
    × (OpeningRefusal terms state n → opens terms state ≡ refusedOutcome n 0)
opening_refused_only = Rattle.calls.proofs.Refused.failed_only

-- So are new terms, with the second state as lent.
pub revision_refused_only : (old state new second : List ℕ) → (n l : ℕ) →
    (revises old state new second ≡ refusedOutcome n l → (l ≡ 0) × RevisionRefusal old state new second n
    × (revised_state old state new second ≡ second))
    × (RevisionRefusal old state new second n → revises old state new second ≡ refusedOutcome n 0)
revision_refused_only = Rattle.calls.proofs.RefusedRevision.revision_refused_only

-- So are new member numbers.
pub renumber_refused_only : (terms state numbers second : List ℕ) → (n l : ℕ) →
    (renumbering terms state numbers second ≡ refusedOutcome n l → (l ≡ 0) × RenumberingRefusal terms state numbers second n
    × (renumbered_state terms state numbers second ≡ second))
    × (RenumberingRefusal terms state numbers second n → renumbering terms state numbers second ≡ refusedOutcome n 0)
renumber_refused_only = Rattle.calls.proofs.RefusedRenumbering.renumber_refused_only

-- So is a look or a request of one of two banks, with all memory of both as lent.
pub bank_refused_only : (terms relations own other scratch spare : List ℕ) (j u v n l : ℕ) →
    (bank_answer terms relations own other scratch spare j u v ≡ refused n l →
    (l ≡ 0) × BankRefusal terms relations own other scratch spare j u v n
    × (relations_after terms relations own other scratch spare j u v ≡ relations)
    × (own_after terms relations own other scratch spare j u v ≡ own)
    × (other_after terms relations own other scratch spare j u v ≡ other)
    × ((lent : List ℕ) → cleared_after terms relations own other scratch spare j u v lent ≡ lent))
    × (BankRefusal terms relations own other scratch spare j u v n →
    bank_answer terms relations own other scratch spare j u v ≡ refused n 0)
bank_refused_only = Rattle.banking.proofs.Refused.bank_refused_only

-- So is a set list of a bank, whatever its records.
pub bank_list_refused_only : (terms relations own other scratch spare : List ℕ) (rs : List ListRecord) (n l : ℕ) →
    (bank_listed terms relations own other scratch spare rs ≡ refusedList n l →
    (l ≡ 0) × ListRefusal terms relations own other scratch spare n
    × (bank_left terms relations own other scratch spare rs
    ≡ record {
      records = rs;
      grants = 0;
      relations = relations;
      own = own;
      other = other;
      scratch = scratch;
      spare = spare;
    }))
    × (ListRefusal terms relations own other scratch spare n →
    bank_listed terms relations own other scratch spare rs ≡ refusedList n 0)
bank_list_refused_only = Rattle.banking.proofs.Refused.list_refused_only

-- So is the opening of both banks, which never writes the relations.
pub banks_opening_refused_only : (terms relations own other : List ℕ) → (n l : ℕ) →
    (banks_open terms relations own other ≡ refusedOutcome n l →
    (l ≡ 0) × BanksOpeningRefusal terms relations own other n
    × ((lent : List ℕ) → own_opened terms relations own other lent ≡ lent))
    × (BanksOpeningRefusal terms relations own other n → banks_open terms relations own other ≡ refusedOutcome n 0)
banks_opening_refused_only = Rattle.banking.proofs.RefusedBoth.opening_refused_only

-- So are new terms for both banks.
pub banks_revision_refused_only : (old relations own other new relations' own' other' : List ℕ) → (n l : ℕ) →
    (banks_revise old relations own other new relations' own' other' ≡ refusedOutcome n l →
    (l ≡ 0) × BanksRevisionRefusal old relations own other new relations' own' other' n
    × (relations_revised old relations own other new relations' own' other' ≡ relations')
    × ((x lent : List ℕ) → own_revised old relations own other new relations' own' other' x lent ≡ lent))
    × (BanksRevisionRefusal old relations own other new relations' own' other' n →
    banks_revise old relations own other new relations' own' other' ≡ refusedOutcome n 0)
banks_revision_refused_only = Rattle.banking.proofs.RefusedBoth.revision_refused_only

-- So is a plan, with scratch as lent.
pub plan_refused_only : (terms state scratch plan : List ℕ) (planner rival goal u v n l : ℕ) →
    (ruling terms state scratch plan planner rival goal u v ≡ refuse n l →
    (l ≡ 0) × PlanRefusal terms state scratch plan planner rival goal u v n
    × (scratch_after_ruling scratch (ruling terms state scratch plan planner rival goal u v) ≡ scratch))
    × (PlanRefusal terms state scratch plan planner rival goal u v n →
    ruling terms state scratch plan planner rival goal u v ≡ refuse n 0)
plan_refused_only = Rattle.plans.proofs.Refused.plan_refused_only

-- So is an entry that is to be told. Nothing is written.
pub telling_refused_only : (terms state : List ℕ) (n u v k l : ℕ) →
    (tells terms state n u v ≡ refusedTelling k l → (l ≡ 0) × TellingRefusal terms state n u v k)
    × (TellingRefusal terms state n u v k → tells terms state n u v ≡ refusedTelling k 0)
telling_refused_only = Rattle.plans.proofs.Refused.telling_refused_only

-- A text is refused with a number at a line exactly when a reason for these fits.
pub text_refused_only : (text : List ℕ) (n k : ℕ) → (reading text ≡ refusedReading n k) ↔ RefusedText text n k
text_refused_only = Rattle.file.proofs.Refused.refused_only

-- The tests of a line are in the order of their numbers, so the first that fails has the lowest number.
pub tests_rise : (f : File) (l : Line) → numbers_rise 1 (tests f l) ≡ true
tests_rise = Rattle.file.proofs.Refused.tests_rise

-- ---- Sizes

-- An output of the stated size is written in the old form, a shorter one is refused with 6, and what refuses the size
-- refuses the writing.
pub old_size_told : (terms state out : List ℕ) →
    ((n : ℕ) → old_size_gives terms state ≡ bytes n → n ≤ length out → old_write_gives terms state out ≡ bytes n)
    × ((n : ℕ) → old_size_gives terms state ≡ bytes n → length out < n → old_write_gives terms state out ≡ refusedWriting 6 0)
    × ((k l : ℕ) → old_size_gives terms state ≡ refusedWriting k l → old_write_gives terms state out ≡ refusedWriting k l)
old_size_told = Rattle.writer.proofs.Sized.old_size_told

-- An output of the stated size is stored.
pub store_size_enough : (terms state out : List ℕ) →
    (n : ℕ) → store_size_gives terms state ≡ bytes n → n ≤ length out → store_gives terms state out ≡ bytes n
store_size_enough = Rattle.writer.proofs.Sized.store_size_enough

-- A shorter one is refused with 6.
pub store_size_short : (terms state out : List ℕ) →
    (n : ℕ) → store_size_gives terms state ≡ bytes n → length out < n → store_gives terms state out ≡ refusedWriting 6 0
store_size_short = Rattle.writer.proofs.Sized.store_size_short

-- What refuses the size refuses the storing.
pub store_size_refused : (terms state out : List ℕ) →
    (k l : ℕ) → store_size_gives terms state ≡ refusedWriting k l → store_gives terms state out ≡ refusedWriting k l
store_size_refused = Rattle.writer.proofs.Sized.store_size_refused

-- No output of the program is longer than 15 bytes for each of 65,536 lines.
pub long_enough : (terms requests : List ℕ) → length (output terms requests) ≤ 983040
long_enough = Rattle.transcript.proofs.Long.long_enough

-- ---- Codes of the C functions

-- The codes for granted and denied are given for these answers only, and every refusal has a number from 1 to 99.
pub told_look : (terms state scratch : List ℕ) (j u v : ℕ) → ToldAnswer (answer terms state scratch j u v)
told_look = Rattle.cuckooormolu.proofs.Told.told_look

-- The code for done is given for done only, here by reading, and so below.
pub told_read : (text terms state : List ℕ) → ToldOutcome (read_gives text terms state)
told_read = Rattle.cuckooormolu.proofs.Told.told_read

-- By checking.
pub told_check : (terms state : List ℕ) → ToldOutcome (checks terms state)
told_check = Rattle.cuckooormolu.proofs.Told.told_check

-- By opening.
pub told_open : (terms state : List ℕ) → ToldOutcome (opens terms state)
told_open = Rattle.cuckooormolu.proofs.Told.told_open

-- By new terms.
pub told_revise : (old state new second : List ℕ) → ToldOutcome (revises old state new second)
told_revise = Rattle.cuckooormolu.proofs.Told.told_revise

-- By new member numbers.
pub told_renumber : (terms state numbers second : List ℕ) → ToldOutcome (renumbering terms state numbers second)
told_renumber = Rattle.cuckooormolu.proofs.Told.told_renumber

-- By asking for the size of the old form.
pub told_size : (terms state : List ℕ) → ToldWriting (old_size_gives terms state)
told_size = Rattle.cuckooormolu.proofs.Told.told_size

-- By writing it.
pub told_write : (terms state out : List ℕ) → ToldWriting (old_write_gives terms state out)
told_write = Rattle.cuckooormolu.proofs.Told.told_write

-- By asking for the size of the stored form.
pub told_store_size : (terms state : List ℕ) → ToldWriting (store_size_gives terms state)
told_store_size = Rattle.cuckooormolu.proofs.Told.told_store_size

-- By storing.
pub told_store : (terms state out : List ℕ) → ToldWriting (store_gives terms state out)
told_store = Rattle.cuckooormolu.proofs.Told.told_store

-- By a set list.
pub told_list : (terms state scratch : List ℕ) (rs : List ListRecord) → ToldListing (listed terms state scratch rs)
told_list = Rattle.cuckooormolu.proofs.Told.told_list

-- A look or a request of a bank.
pub told_bank_look :
    (terms relations own other scratch spare : List ℕ) (j u v : ℕ) →
    ToldAnswer (bank_answer terms relations own other scratch spare j u v)
told_bank_look = Rattle.cuckooormolu.proofs.ToldBanks.told_bank_look

-- Reading into two banks.
pub told_banks_read :
    (text terms relations first second : List ℕ) → ToldOutcome (banks_read_gives text terms relations first second)
told_banks_read = Rattle.cuckooormolu.proofs.ToldBanks.told_banks_read

-- Opening both.
pub told_banks_open : (terms relations own other : List ℕ) → ToldOutcome (banks_open terms relations own other)
told_banks_open = Rattle.cuckooormolu.proofs.ToldBanks.told_banks_open

-- New terms for both.
pub told_banks_revise :
    (old relations own other new edges third fourth : List ℕ) →
    ToldOutcome (banks_revise old relations own other new edges third fourth)
told_banks_revise = Rattle.cuckooormolu.proofs.ToldBanks.told_banks_revise

-- A set list of a bank.
pub told_bank_list :
    (terms relations own other scratch spare : List ℕ) (rs : List ListRecord) →
    ToldListing (bank_listed terms relations own other scratch spare rs)
told_bank_list = Rattle.cuckooormolu.proofs.ToldBanks.told_bank_list

-- The codes for an accepted and a rejected plan are given for these rulings only.
pub told_plan : (terms state scratch plan : List ℕ) (planner rival goal u v : ℕ) →
    ToldRuling (ruling terms state scratch plan planner rival goal u v)
told_plan = Rattle.cuckooormolu.proofs.ToldPlans.told_plan

-- The codes for an entry that holds and one that fails are given for these only.
pub told_tell : (terms state : List ℕ) (n u v : ℕ) → ToldTelling (tells terms state n u v)
told_tell = Rattle.cuckooormolu.proofs.ToldPlans.told_tell

-- ---- Set lists and scratch

-- Where the checks pass, a set list leaves what single requests one after another leave, counts the answers 1, and
-- answers 0, 1 or 9.
pub as_single_requests : (terms state scratch : List ℕ) (rs : List ListRecord) →
    list_checks terms state scratch ≡ passed →
    (listLeft terms state scratch rs ≡ singly terms state scratch rs)
    × (listed terms state scratch rs ≡ counted (ones (listLeft terms state scratch rs).records))
    × ((i : ℕ) → i < length rs → Plain (get_or (listLeft terms state scratch rs).records i blank).answer)
as_single_requests = Rattle.calls.proofs.AsSingle.as_single_requests

-- Where a check fails, the list gets the number and line that every single request would get, and all memory is as
-- lent.
pub refused_whole : (terms state scratch : List ℕ) (rs : List ListRecord) →
    (n l : ℕ) → list_checks terms state scratch ≡ refusedOutcome n l →
    (listed terms state scratch rs ≡ refusedList n l)
    × (listLeft terms state scratch rs ≡ record { records = rs; grants = 0; state = state; scratch = scratch })
    × ((j u v : ℕ) → answer terms state scratch j u v ≡ refused n l)
refused_whole = Rattle.calls.proofs.AsSingle.refused_whole

-- Both of a set list of a bank.
pub bank_list_singly : (terms relations own other scratch spare : List ℕ) (rs : List ListRecord) →
    (bank_list_checks terms relations own other scratch spare ≡ passed →
    (bank_left terms relations own other scratch spare rs ≡ bank_singly terms relations own other scratch spare rs)
    × (bank_listed terms relations own other scratch spare rs
    ≡ counted (ones (bank_left terms relations own other scratch spare rs).records))
    × ((i : ℕ) → i < length rs →
    Plain (get_or (bank_left terms relations own other scratch spare rs).records i blank).answer))
    × ((n l : ℕ) → bank_list_checks terms relations own other scratch spare ≡ refusedOutcome n l →
    (bank_listed terms relations own other scratch spare rs ≡ refusedList n l)
    × (bank_left terms relations own other scratch spare rs
    ≡ record {
      records = rs;
      grants = 0;
      relations = relations;
      own = own;
      other = other;
      scratch = scratch;
      spare = spare;
    })
    × ((j u v : ℕ) → bank_answer terms relations own other scratch spare j u v ≡ refused n l))
bank_list_singly = Rattle.banking.proofs.ListSingly.bank_list_singly

-- Two lists of steps that differ only in scratches that are enough give the same answers, and leave the same memory,
-- word for word.
pub any_scratch : (ss ts : List LentStep) → SameSteps ss ts → (L : Lent) → serve_steps L ss ≡ serve_steps L ts
any_scratch = Rattle.calls.proofs.Scratch.any_scratch

-- So do two calls.
pub any_scratch_call : (terms : List ℕ) →
    (state small large : List ℕ) → scratch_words ≤ length small → scratch_words ≤ length large → (j u v : ℕ) →
    (answer terms state small j u v ≡ answer terms state large j u v)
    × (state_after terms state small j u v ≡ state_after terms state large j u v)
any_scratch_call = Rattle.calls.proofs.Scratch.any_scratch_call

-- So do two set lists.
pub any_scratch_list : (terms : List ℕ) →
    (state small large : List ℕ) → scratch_words ≤ length small → scratch_words ≤ length large → (rs : List ListRecord) →
    (listed terms state small rs ≡ listed terms state large rs)
    × ((listLeft terms state small rs).records ≡ (listLeft terms state large rs).records)
    × ((listLeft terms state small rs).state ≡ (listLeft terms state large rs).state)
any_scratch_list = Rattle.calls.proofs.Scratch.any_scratch_list

-- So do two lists of steps of two banks.
pub any_scratch_banks :
    (ss ts : List LentBankStep) → SameBankSteps ss ts → (P : BanksInUse) → serve_bank_steps P ss ≡ serve_bank_steps P ts
any_scratch_banks = Rattle.banking.proofs.BankScratch.any_scratch_banks

-- ---- Layout

-- Any moment inside the terms keeps the layout of every state that keeps it, true of a record or not.
pub advance_good : (T : Terms) (fine : Good T) →
    (m : List ℕ) → good_state T m ≡ true → (M : Moment) → Inside T M → (rest : List ℕ) →
    good_state T (words_of T (advance T (state_of m) M) ++ rest) ≡ true
advance_good = Rattle.calls.proofs.LayoutKept.advance_good

-- New terms of the same size begin with a state that keeps their layout, whatever state kept the old terms' layout.
pub revised_good :
    (T U : Terms) → Good T → Good U → T.members ≡ U.members → T.relations ≡ U.relations → T.events ≡ U.events →
    (m : List ℕ) → good_state T m ≡ true → (rest : List ℕ) →
    good_state U (words_of U (revised T (state_of m) U) ++ rest) ≡ true
revised_good = Rattle.calls.proofs.LayoutKept.revised_good

-- There are terms with all operators that open, and requests over them that are granted, denied, and denied and kept.
pub reached : Reaches 1 × Reaches 14 × Reaches 16
reached = Rattle.calls.proofs.Reached.reached

-- ---- The program

-- For every file with a record, what is printed is made of the answers of the keeper, who continues with that record.
pub output_recorded : (text requests : List ℕ) (B : Book) (has : Recorded text B) →
    length text ≤ longest → length requests ≤ longest →
    output text requests ≡ answers B.terms B.start B.moments 1 (lines requests)
output_recorded = Rattle.transcript.proofs.RecordedOutput.output_recorded

-- ======== Demand 2: a terms file means what the logic says; text and tables turn into each other exactly

-- ---- Text and memory

-- Writing what was read from a text of the old form gives the text's normal form, further bytes untouched.
pub returned : (text : List ℕ) (f : File) → reading text ≡ accepted f → f.stored ≡ false → (terms state out : List ℕ) →
    terms_words ≤ length terms → state_words ≤ length state → length (normal_text text) ≤ length out →
    (read_gives text terms state ≡ passed)
    × (old_write_gives (read_terms text terms state) (read_state text terms state) out ≡ bytes (length (normal_text text)))
    × (old_write_leaves (read_terms text terms state) (read_state text terms state) out
    ≡ normal_text text ++ drop (length (normal_text text)) out)
returned = Rattle.text.proofs.Returned.returned

-- So does storing what was read from a stored text.
pub returned_stored :
    (text : List ℕ) (f : File) → reading text ≡ accepted f → f.stored ≡ true → (terms state out : List ℕ) →
    terms_words ≤ length terms → state_words ≤ length state → length (normal_text text) ≤ length out →
    (read_gives text terms state ≡ passed)
    × (store_gives (read_terms text terms state) (read_state text terms state) out ≡ bytes (length (normal_text text)))
    × (store_leaves (read_terms text terms state) (read_state text terms state) out
    ≡ normal_text text ++ drop (length (normal_text text)) out)
returned_stored = Rattle.text.proofs.Returned.returned_stored

-- A text without a padded number is returned byte by byte, in either form.
pub returned_same :
    (text : List ℕ) (f : File) → reading text ≡ accepted f → is_plain text ≡ true → (terms state out : List ℕ) →
    terms_words ≤ length terms → state_words ≤ length state → length text ≤ length out →
    (f.stored ≡ false → Back old_write_gives old_write_leaves text terms state out text)
    × (f.stored ≡ true → Back store_gives store_leaves text terms state out text)
returned_same = Rattle.text.proofs.Returned.returned_same

-- The normal form of an accepted text gives the same words.
pub normal_words : (text : List ℕ) (f : File) → reading text ≡ accepted f → (terms state : List ℕ) →
    terms_words ≤ length terms → state_words ≤ length state →
    (read_gives (normal_text text) terms state ≡ passed)
    × (read_terms (normal_text text) terms state ≡ read_terms text terms state)
    × (read_state (normal_text text) terms state ≡ read_state text terms state)
normal_words = Rattle.text.proofs.Returned.normal_words

-- What is stored from good terms and a good state gives exactly the same named words when it is read.
pub reread_stored_memory :
    (terms state : List ℕ) (long_terms : terms_words ≤ length terms) (long_state : state_words ≤ length state)
    (g : good_memory terms ≡ true) (h : good_state (terms_of terms) state ≡ true) →
    (terms' state' : List ℕ) → terms_words ≤ length terms' → state_words ≤ length state' →
    (read_terms (stored_text terms state) terms' state' ≡ take terms_words terms ++ drop terms_words terms')
    × (read_state (stored_text terms state) terms' state' ≡ take state_words state ++ drop state_words state')
reread_stored_memory = Rattle.text.proofs.Reloaded.reread_stored_memory

-- So does the old form, where it is written: from a fresh start.
pub reread_fresh :
    (terms state : List ℕ) → terms_words ≤ length terms → state_words ≤ length state → good_memory terms ≡ true →
    good_state (terms_of terms) state ≡ true →
    is_fresh terms state ≡ true → (terms' state' : List ℕ) → terms_words ≤ length terms' → state_words ≤ length state' →
    (read_terms (written_text terms state) terms' state' ≡ take terms_words terms ++ drop terms_words terms')
    × (read_state (written_text terms state) terms' state' ≡ take state_words state ++ drop state_words state')
reread_fresh = Rattle.text.proofs.AcceptedMemory.reread_fresh

-- What is written from good memory is accepted, and gives the same terms and the state of moment 0 of the same
-- relations.
pub reread_memory :
    (terms state : List ℕ) → terms_words ≤ length terms → good_memory terms ≡ true →
    good_state (terms_of terms) state ≡ true →
    (f : File) × (reading (written_text terms state) ≡ accepted f) × (f.stored ≡ false)
    × (memory_of f.terms ≡ take terms_words terms)
    × (f.edges ≡ (state_of state).now.edge)
    × ((terms' state' : List ℕ) → terms_words ≤ length terms' → state_words ≤ length state' →
    (read_terms (written_text terms state) terms' state' ≡ take terms_words terms ++ drop terms_words terms')
    × (read_state (written_text terms state) terms' state'
    ≡ words_of (terms_of terms) (opening (terms_of terms) (state_of state).now.edge) ++ drop state_words state'))
reread_memory = Rattle.text.proofs.AcceptedMemory.reread_memory

-- Words of terms are good exactly if some accepted text yields them: the condition of refusal 7.
pub yields : (w : List ℕ) → terms_words ≤ length w →
    (good_memory w ≡ true → (text : List ℕ) × (f : File) × (reading text ≡ accepted f)
    × (memory_of f.terms ≡ take terms_words w))
    × ((text : List ℕ) (f : File) → reading text ≡ accepted f → memory_of f.terms ≡ take terms_words w →
    good_memory w ≡ true)
yields = Rattle.text.proofs.AcceptedMemory.yields

-- What reading gave, written in the file's own form, is the text in its normal form.
pub rewritten : (text : List ℕ) (f : File) (e : reading text ≡ accepted f) → text_said f ≡ normal_text text
rewritten = Rattle.file.proofs.Rewritten.rewritten

-- For a text without a padded number that is the text itself.
pub rewritten_same : (text : List ℕ) (f : File) (e : reading text ≡ accepted f) →
    is_plain text ≡ true → text_said f ≡ text
rewritten_same = Rattle.file.proofs.Rewritten.rewritten_same

-- The normal form has no padded number.
pub rewritten_plain : (text : List ℕ) (f : File) (e : reading text ≡ accepted f) → is_plain (normal_text text) ≡ true
rewritten_plain = Rattle.file.proofs.Rewritten.rewritten_plain

-- The normal form of an accepted text is accepted, and gives the same form, terms and state.
pub normal_accepted : (text : List ℕ) (f : File) (e : reading text ≡ accepted f) → (g : File) × Unpadded text f g
normal_accepted = Rattle.file.proofs.Rewritten.normal_accepted

-- Its lines say the same.
pub normal_said :
    (text : List ℕ) (f : File) → reading text ≡ accepted f → said_lines (lines (normal_text text)) ≡ said_lines (lines text)
normal_said = Rattle.file.proofs.Rewritten.normal_said

-- What reading makes of an accepted text is what its lines say, taken one by one and with no test.
pub said : (text : List ℕ) (f : File) → reading text ≡ accepted f → SaidBy (said_lines (lines text)) f
said = Rattle.file.proofs.Said.said

-- ---- The logic

-- Where every start is moment 0, the meaning is the table of docs/SCOPE.md without starts.
pub from-first : (N : ℕ) (γ : Record) →
    (f : Formula) (i : ℕ) (g : Assignment) (m : ℕ) → holds N from_first γ f i g m ≡ holds_throughout N γ f i g m
from-first = Rattle.theory.proofs.FromFirst.from-first

-- Every case marked in docs/SCOPE.md: the computed runs, what holds always, and what holds of effects for all
-- relations, directions and ends.
pub marked_cases : (kept_answers cases ≡ expected cases)
    × ((N : ℕ) (γ : Record) (i : ℕ) (g : Assignment) (m : ℕ) → Anywhere N γ i g m)
    × ((R : Relations) (k : ℕ) (back : Bool) (u v : ℕ) → AnyEnds R k back u v)
marked_cases = Rattle.theory.proofs.Cases.marked_cases

-- The text of the preset in docs/SCOPE.md gives the terms and first edges that the marked cases are about.
pub preset_read : ReadsPreset
preset_read = Rattle.file.proofs.Preset.preset_read

-- Up to its start a prev fails.
pub prev_start : (N : ℕ) (s : Starts) (γ : Record) (t : ℕ) (f : Formula) (g : Assignment) (m : ℕ) →
    (i : ℕ) → i ≤ s t → holds N s γ (prev t f) i g m ≡ false
prev_start = Rattle.theory.proofs.Record.prev_start

-- Later it is its operand one moment before.
pub prev_later : (N : ℕ) (s : Starts) (γ : Record) (t : ℕ) (f : Formula) (g : Assignment) (m : ℕ) →
    (i : ℕ) → s t ≤ i → holds N s γ (prev t f) (suc i) g m ≡ holds N s γ f i g m
prev_later = Rattle.theory.proofs.Record.prev_later

-- At its start a since is its second operand.
pub since_start : (N : ℕ) (s : Starts) (γ : Record) (t : ℕ) (f h : Formula) (g : Assignment) (m : ℕ) →
    (i : ℕ) → i ≡ s t → holds N s γ (since t f h) i g m ≡ holds N s γ h i g m
since_start = Rattle.theory.proofs.Record.since_start

-- Later it holds if its second operand does, or if its first does and it held one moment before.
pub since_later : (N : ℕ) (s : Starts) (γ : Record) (t : ℕ) (f h : Formula) (g : Assignment) (m : ℕ) →
    (i : ℕ) → s t ≤ i →
    holds N s γ (since t f h)
    (suc i) g m ≡ holds N s γ h (suc i) g m || (holds N s γ f (suc i) g m && holds N s γ (since t f h) i g m)
since_later = Rattle.theory.proofs.Record.since_later

-- Where every start is 0, a prev fails at moment 0.
pub prev_first : (N : ℕ) (γ : Record) →
    (t : ℕ) (f : Formula) (g : Assignment) (m : ℕ) → holds N from_first γ (prev t f) 0 g m ≡ false
prev_first = Rattle.theory.proofs.FromFirst.prev_first

-- And a since is its second operand there.
pub since_first : (N : ℕ) (γ : Record) →
    (t : ℕ) (f h : Formula) (g : Assignment) (m : ℕ) →
    holds N from_first γ (since t f h) 0 g m ≡ holds N from_first γ h 0 g m
since_first = Rattle.theory.proofs.FromFirst.since_first

-- The derived forms: f and h.
pub conjunction : (N : ℕ) (s : Starts) (γ : Record) (i : ℕ) (g : Assignment) (m : ℕ) →
    (f h : Formula) → holds N s γ (neg (or (neg f) (neg h))) i g m ≡ holds N s γ f i g m && holds N s γ h i g m
conjunction = Rattle.theory.proofs.Derived.conjunction

-- Some time so far.
pub once : (N : ℕ) (γ : Record) (i : ℕ) (g : Assignment) (m : ℕ) →
    (t : ℕ) (f : Formula) →
    holds N from_first γ (since t top f) i g m ≡ any_below (suc i) (λ j. holds N from_first γ f j g m)
once = Rattle.theory.proofs.Derived.once

-- At every moment so far.
pub all_along : (N : ℕ) (γ : Record) (i : ℕ) (g : Assignment) (m : ℕ) →
    (t : ℕ) (f : Formula) →
    holds N from_first γ (neg (since t top (neg f))) i g m ≡ all_below (suc i) (λ j. holds N from_first γ f j g m)
all_along = Rattle.theory.proofs.Derived.all_along

-- At every neighbour along an edge.
pub every_neighbour : (N : ℕ) (s : Starts) (γ : Record) (i : ℕ) (g : Assignment) (m : ℕ) → (l : ℕ) (f : Formula) →
    holds N s γ (neg (out l (neg f))) i g m ≡ all_below N (λ m'. γ i l m m' ⇒ holds N s γ f i g m')
every_neighbour = Rattle.theory.proofs.Derived.every_neighbour

-- At every neighbour against an edge.
pub every_neighbour_in : (N : ℕ) (s : Starts) (γ : Record) (i : ℕ) (g : Assignment) (m : ℕ) → (l : ℕ) (f : Formula) →
    holds N s γ (neg (into l (neg f))) i g m ≡ all_below N (λ m'. γ i l m' m ⇒ holds N s γ f i g m')
every_neighbour_in = Rattle.theory.proofs.Derived.every_neighbour_in

-- A reach along one edge is out.
pub reach_out : (N : ℕ) (s : Starts) (γ : Record) (i : ℕ) (g : Assignment) (m : ℕ) →
    (x l : ℕ) (f : Formula) → holds N s γ (reach x (out l (var x)) f) i g m ≡ holds N s γ (out l f) i g m
reach_out = Rattle.theory.proofs.Reach.reach_out

-- Against one edge it is in.
pub reach_into : (N : ℕ) (s : Starts) (γ : Record) (i : ℕ) (g : Assignment) (m : ℕ) →
    (x l : ℕ) (f : Formula) → holds N s γ (reach x (into l (var x)) f) i g m ≡ holds N s γ (into l f) i g m
reach_into = Rattle.theory.proofs.Reach.reach_into

-- Where x alone is free in f, no other variable matters in it.
pub reach_any : (N : ℕ) (s : Starts) (γ : Record) (i : ℕ) (g : Assignment) (m : ℕ) →
    (x : ℕ) (f h : Formula) → ((y : ℕ) → free f y ≡ true → y ≡ x) → (g₀ : Assignment) →
    holds N s γ (reach x f h) i g m ≡ any_below N (λ m'. holds N s γ f i (assign g₀ x m') m && holds N s γ h i g m')
reach_any = Rattle.theory.proofs.Reach.reach_any

-- Many of one is out.
pub many_one : (N : ℕ) (s : Starts) (γ : Record) (i : ℕ) (g : Assignment) (m : ℕ) (l : ℕ) (f : Formula) →
    holds N s γ (many l f 1) i g m ≡ holds N s γ (out l f) i g m
many_one = Rattle.theory.proofs.Many.many_one

-- Many of more than all members never holds.
pub many_none : (N : ℕ) (s : Starts) (γ : Record) (i : ℕ) (g : Assignment) (m : ℕ) (l : ℕ) (f : Formula) →
    (k : ℕ) → N < k → holds N s γ (many l f k) i g m ≡ false
many_none = Rattle.theory.proofs.Many.many_none

-- Many of k + 1 are many of k.
pub many_fewer : (N : ℕ) (s : Starts) (γ : Record) (i : ℕ) (g : Assignment) (m : ℕ) (l : ℕ) (f : Formula) →
    (k : ℕ) → holds N s γ (many l f (suc k)) i g m ≡ true → holds N s γ (many l f k) i g m ≡ true
many_fewer = Rattle.theory.proofs.Many.many_fewer

-- ======== Demand 3: nobody who keeps the whole record can find a difference

-- ---- From any file with a record

-- The answers to all lists of requests, looks, set lists, new terms and new numbers are those of the keeper, who
-- continues with the record, and the state in use agrees with the keeper's list.
pub demand_3 : (text : List ℕ) (B : Book) → Recorded text B →
    (terms state : List ℕ) → terms_words ≤ length terms → state_words ≤ length state → (ss : List LentStep) →
    ((serve_steps (loaded text terms state) ss).0 ≡ (keep_steps B (fed_steps ss)).0)
    × Agrees (later_book B ss).terms (later_book B ss).start (after_steps text terms state ss).before
    (after_steps text terms state ss).state (later_book B ss).moments
    × ((f : File) → reading text ≡ accepted f → take terms_words (read_terms text terms state) ≡ memory_of f.terms)
demand_3 = Rattle.text.proofs.Demand.demand_3

-- Every plan after them is ruled upon as the keeper rules.
pub demand_3_plans : (text : List ℕ) (B : Book) → Recorded text B →
    (terms state : List ℕ) → terms_words ≤ length terms → state_words ≤ length state → (ss : List LentStep) →
    (scratch plan : List ℕ) (planner rival goal u v : ℕ) →
    ruling (after_steps text terms state ss).terms (after_steps text terms state ss).state scratch plan planner rival goal u v
    ≡ keeper_rules (later_book B ss) (length scratch) plan planner rival goal u v
demand_3_plans = Rattle.rulings.proofs.Demand.demand_3_plans

-- Every entry is told as the keeper tells it.
pub demand_3_telling : (text : List ℕ) (B : Book) → Recorded text B →
    (terms state : List ℕ) → terms_words ≤ length terms → state_words ≤ length state → (ss : List LentStep) →
    (n u v : ℕ) →
    tells (after_steps text terms state ss).terms
    (after_steps text terms state ss).state n u v ≡ keeper_tells (later_book B ss) n u v
demand_3_telling = Rattle.rulings.proofs.Demand.demand_3_telling

-- After loading a file that a monitor wrote, the answers are those that it would have given had it never stopped.
pub never_stopped : (L : Lent) (out : List ℕ) (n : ℕ) → store_gives L.terms L.state out ≡ bytes n →
    (text : List ℕ) → text ≡ take n (store_leaves L.terms L.state out) →
    (terms' state' : List ℕ) → terms_words ≤ length terms' → state_words ≤ length state' → (ss : List LentStep) →
    (serve_steps (loaded text terms' state') ss).0 ≡ (serve_steps L ss).0
never_stopped = Rattle.text.proofs.Demand.never_stopped

-- So for a file that it wrote in the old form.
pub never_stopped_old : (L : Lent) (out : List ℕ) (n : ℕ) (g : old_write_gives L.terms L.state out ≡ bytes n) →
    (text : List ℕ) → text ≡ take n (old_write_leaves L.terms L.state out) →
    (terms' state' : List ℕ) → terms_words ≤ length terms' → state_words ≤ length state' → (ss : List LentStep) →
    (serve_steps (loaded text terms' state') ss).0 ≡ (serve_steps L ss).0
never_stopped_old = Rattle.text.proofs.Resuming.never_stopped_old

-- A file with a record is accepted.
pub recorded_accepted : {text : List ℕ} {B : Book} → Recorded text B → (f : File) × (reading text ≡ accepted f)
recorded_accepted = Rattle.text.proofs.Resuming.recorded_accepted

-- A monitor with a record can be saved after any list of steps.
pub recorded_checked :
    (text : List ℕ) (B : Book) → Recorded text B → (terms state : List ℕ) → terms_words ≤ length terms →
    state_words ≤ length state →
    (ss : List LentStep) → passed ≡ checks (after_steps text terms state ss).terms (after_steps text terms state ss).state
recorded_checked = Rattle.text.proofs.Resuming.recorded_checked

-- For an old file and single calls, where the keeper is given what the lines say.
pub demand_3_old : (text : List ℕ) (f : File) → reading text ≡ accepted f → f.stored ≡ false →
    (terms state : List ℕ) → terms_words ≤ length terms → state_words ≤ length state → (cs : List LentCall) →
    ((serve_all (read_terms text terms state) (read_state text terms state) cs).0
    ≡ (keeper (terms_said (said_lines (lines text))) (edges_said (said_lines (lines text))) (fed_all cs)).0)
    × Agrees (terms_said (said_lines (lines text))) from_first state
    (serve_all (read_terms text terms state) (read_state text terms state) cs).1
    (keeper (terms_said (said_lines (lines text))) (edges_said (said_lines (lines text))) (fed_all cs)).1
demand_3_old = Rattle.text.proofs.Demand.demand_3_old

-- ---- From any opening

-- For all memory that opens, and requests and looks.
pub demand_3_calls : (terms state : List ℕ) → opens terms state ≡ passed → (cs : List LentCall) →
    ((serve_all terms (opened_state terms state) cs).0 ≡ (keeper (terms_of terms) (state_of state).now.edge (fed_all cs)).0)
    × Agrees (terms_of terms) from_first state (serve_all terms (opened_state terms state) cs).1
    (keeper (terms_of terms) (state_of state).now.edge (fed_all cs)).1
demand_3_calls = Rattle.calls.proofs.Demand.demand_3

-- With set lists, new terms and new numbers.
pub demand_3_steps : (terms state : List ℕ) → opens terms state ≡ passed → (ss : List LentStep) →
    let after = serve_steps (opened terms state) ss in
    let byKeeper = keep_steps (opened_book terms state) (fed_steps ss) in
    (after.0 ≡ byKeeper.0) × Alike byKeeper.1.terms (terms_of after.1.terms)
    × Agrees (terms_of after.1.terms) byKeeper.1.start after.1.before after.1.state byKeeper.1.moments
demand_3_steps = Rattle.calls.proofs.Demand.demand_3_steps

-- Every plan after them.
pub demand_3_plans_opened :
    (terms state : List ℕ) → opens terms state ≡ passed → (ss : List LentStep) →
    (scratch plan : List ℕ) (planner rival goal u v : ℕ) →
    let after = (serve_steps (opened terms state) ss).1 in
    ruling after.terms after.state scratch plan planner rival goal u v
    ≡ keeper_rules (keep_steps (opened_book terms state) (fed_steps ss)).1 (length scratch) plan planner rival goal u v
demand_3_plans_opened = Rattle.plans.proofs.Demand.demand_3_plans

-- Every first graph inside the terms is the graph of some opening.
pub all_first_relations : (terms : List ℕ) → terms_words ≤ length terms → good_memory terms ≡ true → (R : Relations) →
    ((k a b : ℕ) → R k a b ≡ true → (k < (terms_of terms).relations) × (a < (terms_of terms).members)
    × (b < (terms_of terms).members)) → (rest : List ℕ) →
    (opens terms (words_of (terms_of terms) (opening (terms_of terms) R) ++ rest) ≡ passed)
    × ((state_of (words_of (terms_of terms) (opening (terms_of terms) R) ++ rest)).now.edge ≡ R)
all_first_relations = Rattle.calls.proofs.Demand.all_first_relations

-- A plan wins exactly if, whatever the rival replies, the goal is reached after one of the planner's moves.
pub whatever_the_rival_does :
    {S : Type 0} (stp : S → (j u v : ℕ) → S) (reached : S → Bool) (T : Terms) (planner rival : ℕ) →
    (ms : List Move) (s : S) →
    (wins stp reached T planner rival ms s ≡ true → (r : ℕ → Reply) → ((k : ℕ) → has_reply T (r k) ≡ true) →
    reaches stp reached planner rival ms r s ≡ true)
    × (((r : ℕ → Reply) → ((k : ℕ) → has_reply T (r k) ≡ true) → reaches stp reached planner rival ms r s ≡ true) →
    wins stp reached T planner rival ms s ≡ true)
whatever_the_rival_does = Rattle.plans.proofs.Rivals.whatever_the_rival_does

-- ---- What the bits of a table say

-- A table with two columns, for memory that agrees with a record.
pub says_of_two :
    (T : Terms) (fine : Good T) (s : Starts) (m₀ m : List ℕ) (Ms : List Moment) (h : Agrees T s m₀ m Ms) (n : ℕ)
    (l : n < T.entries) (p : is_past (T.entry n).op ≡ true) →
    (x y : ℕ) → x < y → ((z : ℕ) → free (formula T n) z ≡ (eqb z x || eqb z y)) →
    (a b c : ℕ) → a < T.members → b < T.members → c < T.members →
    bit (get_or m (table_at (number T.entry n) (4 * a + b / 4)) 0)
    (16 * (b % 4) + c) ≡ keeper_holds T s Ms n (assign (alone y c) x b) a
says_of_two = Rattle.calls.proofs.TwoVariables.says_of_two

-- So after every list of steps from every opening.
pub steps_say_of_two : (terms state : List ℕ) → opens terms state ≡ passed → (ss : List LentStep) →
    let T = terms_of (serve_steps (opened terms state) ss).1.terms in
    let m = (serve_steps (opened terms state) ss).1.state in
    let byKeeper = (keep_steps (opened_book terms state) (fed_steps ss)).1 in
    (n : ℕ) → n < T.entries → is_past (T.entry n).op ≡ true →
    (x y : ℕ) → x < y → ((z : ℕ) → free (formula T n) z ≡ (eqb z x || eqb z y)) →
    (a b c : ℕ) → a < T.members → b < T.members → c < T.members →
    bit (get_or m (table_at (number T.entry n) (4 * a + b / 4)) 0) (16 * (b % 4) + c)
    ≡ keeper_holds T byKeeper.start byKeeper.moments n (assign (alone y c) x b) a
steps_say_of_two = Rattle.calls.proofs.TwoVariables.steps_say_of_two

-- A table with one column.
pub says_of_one :
    (T : Terms) (fine : Good T) (s : Starts) (m₀ m : List ℕ) (Ms : List Moment) (h : Agrees T s m₀ m Ms) (n : ℕ)
    (l : n < T.entries) (p : is_past (T.entry n).op ≡ true) →
    (x : ℕ) → ((z : ℕ) → free (formula T n) z ≡ eqb z x) →
    (a b : ℕ) → a < T.members → b < T.members →
    bit (get_or m (table_at (number T.entry n) a) 0) b ≡ keeper_holds T s Ms n (alone x b) a
says_of_one = Rattle.calls.proofs.TwoVariables.says_of_one

-- A table without a free variable.
pub says_of_none :
    (T : Terms) (fine : Good T) (s : Starts) (m₀ m : List ℕ) (Ms : List Moment) (h : Agrees T s m₀ m Ms) (n : ℕ)
    (l : n < T.entries) (p : is_past (T.entry n).op ≡ true) →
    ((z : ℕ) → free (formula T n) z ≡ false) →
    (a b : ℕ) → a < T.members → b < T.members → (g : Assignment) →
    bit (get_or m (table_at (number T.entry n) a) 0) b ≡ keeper_holds T s Ms n g a
says_of_none = Rattle.calls.proofs.TwoVariables.says_of_none

-- ======== Members renumbered

-- If the members of a state and of all later calls are renumbered, the answers are the same.
pub renumbered_answers : (terms state numbers second : List ℕ) (e : renumbering terms state numbers second ≡ passed) →
    (ss : List LentStep) → KeepsTerms ss → (before before' : List ℕ) →
    (serve_steps (record { terms = terms; state = renumbered_state terms state numbers second; before = before' })
    (map (step_by numbers) ss)).0
    ≡ (serve_steps (record { terms = terms; state = state; before = before }) ss).0
renumbered_answers = Rattle.calls.proofs.MembersLater.renumbered_answers

-- The list that undoes a renumbering is accepted, and gives the first state back.
pub renumbering_undone : (terms state numbers second : List ℕ) (e : renumbering terms state numbers second ≡ passed) →
    (third : List ℕ) → state_words ≤ length third →
    (renumbering terms (renumbered_state terms state numbers second) (undo (terms_of terms).members numbers) third
    ≡ passed)
    × (renumbered_state terms (renumbered_state terms state numbers second) (undo (terms_of terms).members numbers) third
    ≡ take state_words state ++ drop state_words third)
renumbering_undone = Rattle.calls.proofs.MembersLater.renumbering_undone

-- With every graph and all later calls renumbered, the keeper's answers are the same.
pub renumbered_keeper : (T : Terms) (p q : ℕ → ℕ) (r : Renumbering T.members p q) (good : Good T) (s : Starts) →
    (cs : List Call) (Ms : List Moment) →
    ((keep_all T s (map (renumber_moment p q) Ms) (map (renumber_call p q) cs)).0 ≡ (keep_all T s Ms cs).0)
    × ((keep_all T s (map (renumber_moment p q) Ms) (map (renumber_call p q) cs)).1
    ≡ map (renumber_moment p q) (keep_all T s Ms cs).1)
renumbered_keeper = Rattle.theory.proofs.MembersRenumbered.renumbered_keeper

-- ======== Two banks

-- Demand 3 for each bank and its own record, from all memory that opens for two banks.
pub demand_3_banks :
    (terms : List ℕ) (W : BanksLent) → banks_open terms W.relations (W.own left) (W.own right) ≡ passed →
    (ss : List LentBankStep) →
    let after = serve_bank_steps (opened_in_use terms W) ss in
    let byKeeper = keep_bank_steps (opened_books terms W) (fed_bank_steps ss) in
    (after.0 ≡ byKeeper.0) × Alike byKeeper.1.terms (terms_of after.1.terms)
    × BanksAgree (terms_of after.1.terms) byKeeper.1.start after.1.before after.1.lent byKeeper.1.moments
demand_3_banks = Rattle.banking.proofs.Demand.demand_3_banks

-- From one terms file that is read into both banks, where the keeper is given what its lines say.
pub demand_3_banks_old :
    (text terms : List ℕ) (W : BanksLent)
    (done : banks_read_gives text terms W.relations (W.own left) (W.own right) ≡ passed) →
    (ss : List LentBankStep) →
    let after = serve_bank_steps (loaded_banks text terms W) ss in
    let byKeeper = keep_bank_steps (said_books text) (fed_bank_steps ss) in
    (after.0 ≡ byKeeper.0) × Alike byKeeper.1.terms (terms_of after.1.terms)
    × BanksAgree (terms_of after.1.terms) byKeeper.1.start after.1.before after.1.lent byKeeper.1.moments
demand_3_banks_old = Rattle.text.proofs.TwoBanks.demand_3_banks_old

-- In two runs in which bank b gets the same calls, and the other bank makes moments at the same places with equal
-- relations after them, bank b gets the same answers.
pub banks_isolated : (terms : List ℕ) (W X : BanksLent) →
    banks_open terms W.relations (W.own left) (W.own right) ≡ passed →
    banks_open terms X.relations (X.own left) (X.own right) ≡ passed →
    (R : Relations) → (state_of W.relations).now.edge ≡ R → (state_of X.relations).now.edge ≡ R →
    (b : Bank) (ss ts : List LentBankStep) →
    Placed b (first_books (terms_of terms) R) (first_books (terms_of terms) R) (fed_bank_steps ss) (fed_bank_steps ts) →
    (x₀ : BankStep) (a₀ : Answer) (n : ℕ) → OfBank b (get_or (fed_bank_steps ss) n x₀) →
    get_or (serve_bank_steps (opened_in_use terms W) ss).0 n a₀ ≡ get_or (serve_bank_steps (opened_in_use terms X) ts).0 n a₀
banks_isolated = Rattle.banking.proofs.Demand.banks_isolated

-- So for two runs that read the same terms file.
pub banks_isolated_old :
    (text terms terms' : List ℕ) (V' W : BanksLent) →
    banks_read_gives text terms V'.relations (V'.own left) (V'.own right) ≡ passed →
    banks_read_gives text terms' W.relations (W.own left) (W.own right) ≡ passed →
    (b : Bank) (ss ts : List LentBankStep) →
    Placed b (said_books text) (said_books text) (fed_bank_steps ss) (fed_bank_steps ts) →
    (x₀ : BankStep) (a₀ : Answer) (n : ℕ) → OfBank b (get_or (fed_bank_steps ss) n x₀) →
    get_or (serve_bank_steps (loaded_banks text terms V') ss).0 n a₀
    ≡ get_or (serve_bank_steps (loaded_banks text terms' W) ts).0 n a₀
banks_isolated_old = Rattle.text.proofs.TwoBanks.banks_isolated_old

-- So for the keeper.
pub keeper_isolated : (b : Bank) →
    (x₀ : BankStep) (a₀ : Answer) (xs ys : List BankStep) (B B' : Books) → book_of B b ≡ book_of B' b →
    Placed b B B' xs ys →
    (n : ℕ) → OfBank b (get_or xs n x₀) → get_or (keep_bank_steps B xs).0 n a₀ ≡ get_or (keep_bank_steps B' ys).0 n a₀
keeper_isolated = Rattle.banking.proofs.Isolated.isolated

-- ======== Strangers have no say

-- In two runs that agree inside a circle and never join it to the rest, every call inside the circle gets the same
-- answer.
pub strangers_have_no_say :
    (T : Terms) (without : WithoutReach T) (S : Circle) (text text' : List ℕ) (f f' : File)
    (is_read : reading text ≡ accepted f) (is-read' : reading text' ≡ accepted f') (form : f.stored ≡ false)
    (form' : f'.stored ≡ false) (says : terms_said (said_lines (lines text)) ≡ T)
    (says' : terms_said (said_lines (lines text')) ≡ T)
    (agree : AgreeWithin T S (edges_said (said_lines (lines text))) (edges_said (said_lines (lines text'))))
    (terms terms' state state' : List ℕ) (tl : terms_words ≤ length terms) (tl' : terms_words ≤ length terms')
    (sl : state_words ≤ length state) (sl' : state_words ≤ length state') (ss ss' : List LentStep) (keeps : KeepsTerms ss)
    (keeps' : KeepsTerms ss') (c₀ : Call) (a₀ : Answer) →
    Separate T S (keeper T (edges_said (said_lines (lines text))) (fed_calls ss)).1 →
    Separate T S (keeper T (edges_said (said_lines (lines text'))) (fed_calls ss')).1 →
    Paired T S (first (edges_said (said_lines (lines text))) ∷ []) (first (edges_said (said_lines (lines text'))) ∷ [])
    (fed_calls ss) (fed_calls ss') →
    (n : ℕ) → InCircle S (get_or (fed_calls ss) n c₀) →
    get_or (serve_steps (loaded text terms state) ss).0 n a₀
    ≡ get_or (serve_steps (loaded text' terms' state') ss').0 n a₀
strangers_have_no_say = Rattle.text.proofs.Strangers.strangers_have_no_say

-- So from the first edges alone, where every call has both ends on one side.
pub strangers_have_no_say_first :
    (T : Terms) (without : WithoutReach T) (S : Circle) (text text' : List ℕ) (f f' : File)
    (is_read : reading text ≡ accepted f) (is-read' : reading text' ≡ accepted f') (form : f.stored ≡ false)
    (form' : f'.stored ≡ false) (says : terms_said (said_lines (lines text)) ≡ T)
    (says' : terms_said (said_lines (lines text')) ≡ T)
    (agree : AgreeWithin T S (edges_said (said_lines (lines text))) (edges_said (said_lines (lines text'))))
    (terms terms' state state' : List ℕ) (tl : terms_words ≤ length terms) (tl' : terms_words ≤ length terms')
    (sl : state_words ≤ length state) (sl' : state_words ≤ length state') (ss ss' : List LentStep) (keeps : KeepsTerms ss)
    (keeps' : KeepsTerms ss') (c₀ : Call) (a₀ : Answer) →
    SeparateFirst T S (edges_said (said_lines (lines text))) → SeparateFirst T S (edges_said (said_lines (lines text'))) →
    Paired T S (first (edges_said (said_lines (lines text))) ∷ []) (first (edges_said (said_lines (lines text'))) ∷ [])
    (fed_calls ss) (fed_calls ss') →
    (n : ℕ) → InCircle S (get_or (fed_calls ss) n c₀) →
    get_or (serve_steps (loaded text terms state) ss).0 n a₀
    ≡ get_or (serve_steps (loaded text' terms' state') ss').0 n a₀
strangers_have_no_say_first = Rattle.text.proofs.Strangers.strangers_have_no_say_first

-- So for runs that continue from stored files whose records began in this way.
pub strangers_any_start :
    (T : Terms) (without : WithoutReach T) (S : Circle) (R Q : Relations) (agree : AgreeWithin T S R Q)
    (cs cs' : List Call) (text text' : List ℕ)
    (has : Recorded text (record { terms = T; start = from_first; moments = (keeper T R cs).1 }))
    (has' : Recorded text' (record { terms = T; start = from_first; moments = (keeper T Q cs').1 }))
    (terms terms' state state' : List ℕ) (tl : terms_words ≤ length terms) (tl' : terms_words ≤ length terms')
    (sl : state_words ≤ length state) (sl' : state_words ≤ length state') (ss ss' : List LentStep) (keeps : KeepsTerms ss)
    (keeps' : KeepsTerms ss') (c₀ : Call) (a₀ : Answer) →
    Separate T S (keeper T R (cs ++ fed_calls ss)).1 → Separate T S (keeper T Q (cs' ++ fed_calls ss')).1 →
    Paired T S (first R ∷ []) (first Q ∷ []) (cs ++ fed_calls ss) (cs' ++ fed_calls ss') →
    (n n' : ℕ) → length cs + n ≡ length cs' + n' → InCircle S (get_or (fed_calls ss) n c₀) →
    get_or (serve_steps (loaded text terms state) ss).0 n a₀ ≡ get_or (serve_steps (loaded text' terms' state') ss').0 n' a₀
strangers_any_start = Rattle.text.proofs.StrangersAnyStart.strangers_any_start

-- The first for the keeper's answers.
pub keeper_strangers :
    (T : Terms) (good : Good T) (without : WithoutReach T) (S : Circle) (c₀ : Call) (a₀ : Answer) (R Q : Relations)
    (agree : AgreeWithin T S R Q) →
    (cs ds : List Call) → Separate T S (keeper T R cs).1 → Separate T S (keeper T Q ds).1 →
    Paired T S (first R ∷ []) (first Q ∷ []) cs ds →
    (n : ℕ) → InCircle S (get_or cs n c₀) → get_or (keeper T R cs).0 n a₀ ≡ get_or (keeper T Q ds).0 n a₀
keeper_strangers = Rattle.theory.proofs.Strangers.strangers

-- The second.
pub keeper_strangers_first :
    (T : Terms) (good : Good T) (without : WithoutReach T) (S : Circle) (c₀ : Call) (a₀ : Answer) (R Q : Relations)
    (agree : AgreeWithin T S R Q) →
    SeparateFirst T S R → SeparateFirst T S Q → (cs ds : List Call) → Paired T S (first R ∷ []) (first Q ∷ []) cs ds →
    (n : ℕ) → InCircle S (get_or cs n c₀) → get_or (keeper T R cs).0 n a₀ ≡ get_or (keeper T Q ds).0 n a₀
keeper_strangers_first = Rattle.theory.proofs.Strangers.strangers_first

-- If no first edge joins the circle to the rest and every call has both ends on one side, no edge ever does.
pub separate_first : (T : Terms) (S : Circle) →
    (R : Relations) → SeparateFirst T S R → (cs : List Call) → OneSided S cs → Separate T S (keeper T R cs).1
separate_first = Rattle.theory.proofs.Separate.separate_first
