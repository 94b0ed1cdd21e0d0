-- No code of a call of a bank, or of both banks, can be mistaken for another.
use Prim.Native.Nat.{ℕ}
use mathlib.Core.Path.{refl}
use mathlib.Core.Bool.{not, ◌&&◌, ◌||◌}
use mathlib.Core.List.{List}
use lib.Dec.{ltb}
use lib.ListN.{length}
use Rattle.theory.specs.Terms.{same_size}
use Rattle.theory.specs.Limits.{scratch_words}
use Rattle.memory.specs.Layout.{terms_words, terms_of}
use Rattle.memory.specs.Checks.{good_memory, good_relations}
use Rattle.memory.specs.Outcome.{short_banks, good_banks, banks_check, banks_open, banks_revise}
use Rattle.calls.specs.declared.Record.{Record}
use Rattle.banking.specs.Banking.{bank_answer}
use Rattle.banking.specs.BankList.{bank_singly, bank_list_checks, bank_listed}
use Rattle.banking.proofs.BankAnswers.{each_answer}
use Rattle.file.specs.Reading as file
use Rattle.file.specs.Reading.{reading}
use Rattle.reader.specs.OldForm.{begins_stored, old_reading}
use Rattle.text.specs.Banks.{short_read, banks_read_gives}
use Rattle.cuckooormolu.specs.Codes.{ToldAnswer, ToldOutcome, ToldListing}
use Rattle.cuckooormolu.proofs.Told.{LowAnswer, LowOutcome, LowReading, told_answer, told_outcome, told_listing, low, low_checked, low_revising, low_short, low_listing, low_either, low_outcome, low_text}

low_bank_checks : (terms relations own other scratch spare : List ℕ) → LowOutcome (bank_list_checks terms relations own other scratch spare)
unfolding bank_list_checks banks_check
low_bank_checks terms relations own other scratch spare =
    low_short (ltb (length scratch) scratch_words || ltb (length spare) scratch_words) (banks_check terms relations own other)
    (low_checked (ltb (length terms) terms_words || short_banks relations own other) (not (good_memory terms)) (not (good_banks (terms_of terms) relations own other)))

low_old : (text : List ℕ) → LowReading (old_reading text)
unfolding old_reading
low_old text = low_either (begins_stored text) (file.refused 1 1) (reading text) (low 1 refl) (low_text text)

pub told_bank_look : (terms relations own other scratch spare : List ℕ) (j u v : ℕ) → ToldAnswer (bank_answer terms relations own other scratch spare j u v)
told_bank_look terms relations own other scratch spare j u v =
    told_answer (bank_answer terms relations own other scratch spare j u v)
    (each_answer terms relations own other scratch spare j u v LowAnswer (low 6 refl) (low 7 refl) (low 8 refl) (low 9 refl) tt tt)

pub told_banks_read : (text terms relations first second : List ℕ) → ToldOutcome (banks_read_gives text terms relations first second)
unfolding banks_read_gives
told_banks_read text terms relations first second =
    told_outcome (banks_read_gives text terms relations first second) (low_outcome (short_read terms relations first second) (old_reading text) (low_old text))

pub told_banks_open : (terms relations own other : List ℕ) → ToldOutcome (banks_open terms relations own other)
unfolding banks_open
told_banks_open terms relations own other =
    told_outcome (banks_open terms relations own other)
    (low_checked (ltb (length terms) terms_words || short_banks relations own other) (not (good_memory terms)) (not (good_relations (terms_of terms) relations)))

pub told_banks_revise : (old relations own other new edges third fourth : List ℕ) → ToldOutcome (banks_revise old relations own other new edges third fourth)
unfolding banks_revise
told_banks_revise old relations own other new edges third fourth =
    told_outcome (banks_revise old relations own other new edges third fourth)
    (low_revising ((ltb (length old) terms_words || short_banks relations own other) || (ltb (length new) terms_words || short_banks edges third fourth))
    (not (good_memory old && good_memory new)) (not (good_banks (terms_of old) relations own other)) (not (same_size (terms_of old) (terms_of new))))

pub told_bank_list : (terms relations own other scratch spare : List ℕ) (rs : List Record) → ToldListing (bank_listed terms relations own other scratch spare rs)
unfolding bank_listed
told_bank_list terms relations own other scratch spare rs =
    told_listing (bank_listed terms relations own other scratch spare rs)
    (low_listing (bank_list_checks terms relations own other scratch spare) (bank_singly terms relations own other scratch spare rs).grants
    (low_bank_checks terms relations own other scratch spare))
