-- What the program prints for a file with a record, of either form: the answers of the
-- keeper, who goes on with that record.
use Prim.Native.Nat.{ℕ, ◌≤◌}
use mathlib.Core.Path.{◌≡◌, refl, sym, ◌∙◌}
use mathlib.Core.List.{List}
use native.Mathlib.Nat.{le_of_eq}
use lib.ListN.{length, replicate, length-replicate}
use Rattle.theory.specs.Keeper.{Book}
use Rattle.memory.specs.Layout.{terms_words, state_words}
use Rattle.memory.specs.Outcome.Outcome.{passed}
use Rattle.fields.specs.Split.{lines}
use Rattle.reader.specs.Read.{read_gives, read_terms}
use Rattle.text.specs.Text.{read_state}
use Rattle.text.specs.Recorded.{Recorded}
use Rattle.text.proofs.Resuming.{recorded_accepted}
use Rattle.transcript.specs.Transcript.{longest, answers}
use Rattle.transcript.specs.Output.{output}
use Rattle.transcript.proofs.Served.{served_recorded}
use Rattle.transcript.proofs.Whole.{output_passed, requests_fit}

module _ (text requests : List ℕ) (B : Book) (has : Recorded text B) where
  abbrev words : List ℕ
  words = replicate terms_words 0

  abbrev state : List ℕ
  state = replicate state_words 0

  tl : terms_words ≤ length words
  tl = le_of_eq (sym (length-replicate {A = ℕ} terms_words 0))

  sl : state_words ≤ length state
  sl = le_of_eq (sym (length-replicate {A = ℕ} state_words 0))

  is_read : passed ≡ read_gives text words state
  unfolding read_gives
  is_read = rw (recorded_accepted has).1 refl

  -- For every file with a record within the limit of length, and all requests within it.
  pub output_recorded : length text ≤ longest → length requests ≤ longest →
      output text requests ≡ answers B.terms B.start B.moments 1 (lines requests)
  output_recorded h k =
      output_passed text requests h is_read
      ∙ requests_fit (read_terms text words state) (read_state text words state) requests k
      ∙ served_recorded text B has words state tl sl (lines requests)
