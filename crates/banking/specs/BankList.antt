-- A set list of a bank (docs/SCOPE.md, Two banks): its records are requests of that bank one after another.
use Rattle.std.specs.Prelude.{ℕ, ◌+◌, cond, ◌||◌, List, [], ◌∷◌, ltb, length}
use Rattle.theory.specs.Limits.{scratch_words}
use Rattle.memory.specs.Outcome.{Outcome, has_passed, banks_check}
use Rattle.memory.specs.Outcome.Outcome.{refused}
use Rattle.calls.specs.Monitor.{granted}
use Rattle.calls.specs.SetList.{Listing, filled, listing}
use Rattle.calls.specs.declared.Record.{Record}
use Rattle.banking.specs.Banking.{bank_answer, relations_after, own_after, other_after, cleared_after}

-- The records at the end, how many were granted, and what is left of the memory of both banks and of both scratches.
pub record BankRun : Type 0 where
  pub records : List Record
  pub grants : ℕ
  pub relations : List ℕ
  pub own : List ℕ
  pub other : List ℕ
  pub scratch : List ℕ
  pub spare : List ℕ

-- Each record is a request of the bank over what the last one left.
unfoldable pub bank_singly : (terms relations own other scratch spare : List ℕ) → List Record → BankRun
bank_singly terms relations own other scratch spare [] =
    record { records = []; grants = 0; relations = relations; own = own; other = other; scratch = scratch; spare = spare }
bank_singly terms relations own other scratch spare (r ∷ rs) =
    let a = bank_answer terms relations own other scratch spare r.event r.from r.to in
    let later = bank_singly terms
    (relations_after terms relations own other scratch spare r.event r.from r.to)
    (own_after terms relations own other scratch spare r.event r.from r.to)
    (other_after terms relations own other scratch spare r.event r.from r.to)
    (cleared_after terms relations own other scratch spare r.event r.from r.to scratch)
    (cleared_after terms relations own other scratch spare r.event r.from r.to spare) rs in
    record {
      records = filled r a ∷ later.records;
      grants = cond (granted a) 1 0 + later.grants;
      relations = later.relations;
      own = later.own;
      other = later.other;
      scratch = later.scratch;
      spare = later.spare;
    }

module _ (terms relations own other scratch spare : List ℕ) where
  -- The checks that come before any record, of an empty list too: those of a request of the bank less 9.
  unfoldable pub bank_list_checks : Outcome
  bank_list_checks =
      cond (ltb (length scratch) scratch_words || ltb (length spare) scratch_words) (refused 6 0) (banks_check terms relations own other)

  -- What a set list gives: how many were granted, or which check failed.
  unfoldable pub bank_listed : List Record → Listing
  bank_listed rs = listing bank_list_checks (bank_singly terms relations own other scratch spare rs).grants

  -- What it leaves: single requests of the bank one after another, or, where a check fails, all memory as lent.
  unfoldable pub bank_left : List Record → BankRun
  bank_left rs =
      cond (has_passed bank_list_checks)
      (bank_singly terms relations own other scratch spare rs)
      (record { records = rs; grants = 0; relations = relations; own = own; other = other; scratch = scratch; spare = spare })
