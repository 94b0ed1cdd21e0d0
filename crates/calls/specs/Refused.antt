-- Why nothing is decided (docs/SCOPE.md, Refusals), as far as no text is read: line by line of the table.
use Rattle.std.specs.Prelude.{ℕ, ◌≤◌, ◌<◌, ◌≡◌, List, true, false, length, get_or}
use Rattle.theory.specs.Limits.{scratch_words}
use Rattle.theory.specs.Terms.{same_size}
use Rattle.memory.specs.Layout.{terms_words, state_words, terms_of}
use Rattle.memory.specs.Checks.{good_memory, good_state, good_relations}

-- The lent memory is as long as named.
pub record Long (terms state scratch : List ℕ) : Type 0 where
  pub terms_long : terms_words ≤ length terms
  pub state_long : state_words ≤ length state
  pub scratch_long : scratch_words ≤ length scratch

-- Why a look or a request is refused with a number: the first of these that fits.
pub data Refusal (terms state scratch : List ℕ) (j u v : ℕ) : (number : ℕ) → Type 0 where
  short_terms : length terms < terms_words → Refusal terms state scratch j u v 6
  short_state : length state < state_words → Refusal terms state scratch j u v 6
  short_scratch : length scratch < scratch_words → Refusal terms state scratch j u v 6
  bad_terms : Long terms state scratch → good_memory terms ≡ false → Refusal terms state scratch j u v 7
  bad_state : Long terms state scratch → good_memory terms ≡ true → good_state (terms_of terms) state ≡ false → Refusal terms state scratch j u v 8
  no_event : Long terms state scratch → good_memory terms ≡ true → good_state (terms_of terms) state ≡ true →
      (terms_of terms).events ≤ j → Refusal terms state scratch j u v 9
  no_initiator : Long terms state scratch → good_memory terms ≡ true → good_state (terms_of terms) state ≡ true →
      (terms_of terms).members ≤ u → Refusal terms state scratch j u v 9
  no_target : Long terms state scratch → good_memory terms ≡ true → good_state (terms_of terms) state ≡ true →
      (terms_of terms).members ≤ v → Refusal terms state scratch j u v 9

-- Why an opening is refused with a number.
pub data OpeningRefusal (terms state : List ℕ) : (number : ℕ) → Type 0 where
  short_terms : length terms < terms_words → OpeningRefusal terms state 6
  short_state : length state < state_words → OpeningRefusal terms state 6
  bad_terms : terms_words ≤ length terms → state_words ≤ length state → good_memory terms ≡ false → OpeningRefusal terms state 7
  bad_relations : terms_words ≤ length terms → state_words ≤ length state → good_memory terms ≡ true →
      good_relations (terms_of terms) state ≡ false → OpeningRefusal terms state 8

-- The memory that is lent with new terms is as long as named.
pub record LongToRevise (old state new second : List ℕ) : Type 0 where
  pub old_long : terms_words ≤ length old
  pub state_long : state_words ≤ length state
  pub new_long : terms_words ≤ length new
  pub second_long : state_words ≤ length second

-- Why new terms are refused with a number.
pub data RevisionRefusal (old state new second : List ℕ) : (number : ℕ) → Type 0 where
  short_old : length old < terms_words → RevisionRefusal old state new second 6
  short_state : length state < state_words → RevisionRefusal old state new second 6
  short_new : length new < terms_words → RevisionRefusal old state new second 6
  short_second : length second < state_words → RevisionRefusal old state new second 6
  bad_old : LongToRevise old state new second → good_memory old ≡ false → RevisionRefusal old state new second 7
  bad_new : LongToRevise old state new second → good_memory new ≡ false → RevisionRefusal old state new second 7
  bad_state : LongToRevise old state new second → good_memory old ≡ true → good_memory new ≡ true →
      good_state (terms_of old) state ≡ false → RevisionRefusal old state new second 8
  other_size : LongToRevise old state new second → good_memory old ≡ true → good_memory new ≡ true → good_state (terms_of old) state ≡ true →
      same_size (terms_of old) (terms_of new) ≡ false → RevisionRefusal old state new second 13

-- The memory that is lent with new numbers is as long as named.
pub record LongToRenumber (terms state second : List ℕ) : Type 0 where
  pub terms_long : terms_words ≤ length terms
  pub state_long : state_words ≤ length state
  pub second_long : state_words ≤ length second

-- Why new numbers are refused with a number: 15 where the list isn't as long as there are members,
-- or lacks some member's number.
pub data RenumberingRefusal (terms state numbers second : List ℕ) : (number : ℕ) → Type 0 where
  short_terms : length terms < terms_words → RenumberingRefusal terms state numbers second 6
  short_state : length state < state_words → RenumberingRefusal terms state numbers second 6
  short_second : length second < state_words → RenumberingRefusal terms state numbers second 6
  bad_terms : LongToRenumber terms state second → good_memory terms ≡ false → RenumberingRefusal terms state numbers second 7
  bad_state : LongToRenumber terms state second → good_memory terms ≡ true → good_state (terms_of terms) state ≡ false →
      RenumberingRefusal terms state numbers second 8
  other_length : LongToRenumber terms state second → good_memory terms ≡ true → good_state (terms_of terms) state ≡ true →
      (length numbers ≡ (terms_of terms).members → ⊥) → RenumberingRefusal terms state numbers second 15
  number_missing : LongToRenumber terms state second → good_memory terms ≡ true → good_state (terms_of terms) state ≡ true →
      (m : ℕ) → m < (terms_of terms).members → ((k : ℕ) → k < length numbers → get_or numbers k 0 ≡ m → ⊥) → RenumberingRefusal terms state numbers second 15
