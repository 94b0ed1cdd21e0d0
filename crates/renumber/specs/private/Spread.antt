-- How the rows of a state are renumbered: what the private functions ask and leave.
use Rattle.std.specs.Prelude.{ℕ, ◌+◌, ◌*◌, ◌<◌, ◌≤◌, ◌≡◌, Bool, true, false, ◌&&◌, List, eqb, ltb, length, get_or, drop}
use Rattle.std.specs.Int.Bits.{bit_or}
use Rattle.sets.specs.Sets.{any_below, bit}
use Rattle.memory.specs.Layout.{state_words, block_words, event_at, event_word, event_of}
use Rattle.theory.specs.NewNumbers.{renumber_event}
use Rattle.theory.specs.Terms.{Terms, tables}
use Rattle.renumber.specs.private.PairRows.{goes_to, is_pairs}

-- m is the new number, by p, of one of the first n members of the set w.
unfoldable pub spread : (n : ℕ) → (p : ℕ → ℕ) → (w m : ℕ) → Bool
spread n p w m = any_below n (λ k. bit w k && (ltb m 64 && eqb m (p k)))

-- The first n words are as before, and the first k of them are there once more, n words on, with more in each.
pub record Doubled (before : List ℕ) (n more : ℕ) (after : List ℕ) (k : ℕ) : Type 0 where
  pub long : length after ≡ length before
  pub first : (v : ℕ) → v < n → get_or after v 0 ≡ get_or before v 0
  pub again : (v : ℕ) → v < k → get_or after (n + v) 0 ≡ bit_or (get_or before v 0) more

-- The new numbers of the eight members from b on, by those of them that are in a byte.
abbrev pub ByteOf : (p : ℕ → ℕ) → (b : ℕ) → List ℕ → ℕ → Type 0
ByteOf p b part n = (v m : ℕ) → v < n → bit (get_or part v 0) m ≡ spread 8 (λ k. p (b + k)) v m

-- The same for all 64 members: 256 words for each eight.
pub record Bytes (p : ℕ → ℕ) (bytes : List ℕ) : Type 0 where
  pub long : length bytes ≡ 2048
  pub words : (i v m : ℕ) → i < 8 → v < 256 → bit (get_or bytes (256 * i + v) 0) m ≡ spread 8 (λ k. p (8 * i + k)) v m

-- No two members have the same new number, and each has one below 64.
pub record Apart (p : ℕ → ℕ) : Type 0 where
  pub below : (a : ℕ) → a < 64 → p a < 64
  pub apart : (a b : ℕ) → a < 64 → b < 64 → p a ≡ p b → a ≡ b

-- The first n rows of a block have gone to the places of their new numbers, with each bit at its own, and
-- the places of the others are 0.
pub record Placed (p : ℕ → ℕ) (from into : List ℕ) (n : ℕ) : Type 0 where
  pub long : length into ≡ block_words
  pub words : (a m : ℕ) → a < n → bit (get_or into (p a) 0) m ≡ spread 64 p (get_or from a 0) m
  pub rest : (a : ℕ) → n ≤ a → a < block_words → get_or into (p a) 0 ≡ 0

-- The first n blocks have been moved: those of the set two by the rows in their quarters, the others by their rows.
-- Words from the event word on are kept.
pub record Moved (two : ℕ) (p : ℕ → ℕ) (state before after : List ℕ) (n : ℕ) : Type 0 where
  pub long : length after ≡ length before
  pub further : drop event_at after ≡ drop event_at before
  pub rows : (b a m : ℕ) → b < n → bit two b ≡ false → a < block_words →
      bit (get_or after (block_words * b + p a) 0) m ≡ spread 64 p (get_or state (block_words * b + a) 0) m
  pub pairs : (b i k : ℕ) → b < n → bit two b ≡ true → i < block_words →
      bit (get_or after (block_words * b + i) 0) k ≡ any_below 256 (λ d. goes_to p (λ a. get_or state (block_words * b + a) 0) d i k)

-- An event word with its members renumbered.
abbrev pub new_event : (p : ℕ → ℕ) → ℕ → ℕ
new_event p w = event_word (renumber_event p p (event_of w))

-- All words of a state have been rewritten: the 48 blocks, where tables with two columns are moved by the rows in
-- their quarters; the event word.
pub record Rewritten (T : Terms) (p : ℕ → ℕ) (state before after : List ℕ) : Type 0 where
  pub long : length after ≡ length before
  pub further : drop state_words after ≡ drop state_words before
  pub rows : (b a m : ℕ) → b < 48 → is_pairs T (tables T) b ≡ false → a < block_words →
      bit (get_or after (block_words * b + p a) 0) m ≡ spread 64 p (get_or state (block_words * b + a) 0) m
  pub pairs : (b i k : ℕ) → b < 48 → is_pairs T (tables T) b ≡ true → i < block_words →
      bit (get_or after (block_words * b + i) 0) k ≡ any_below 256 (λ d. goes_to p (λ a. get_or state (block_words * b + a) 0) d i k)
  pub event : get_or after event_at 0 ≡ new_event p (get_or state event_at 0)
