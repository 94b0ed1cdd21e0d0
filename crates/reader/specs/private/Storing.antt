-- What a line that has passed stores, and what the reader's words are at the end of the text.
use Rattle.std.specs.Prelude.{ℕ, ◌+◌, ◌*◌, ◌^◌, ◌≡◌, List, get_or, set}
use Rattle.std.specs.Int.Bits.{bit_or}
use Rattle.theory.specs.Columns.{pair_word, pair_bit}
use Rattle.memory.specs.Layout.{entry_at, policy_at, effect_at, mark_at, relation_at, table_at, event_at, event_unit, from_unit, words_of}
use Rattle.memory.specs.TableIndex.{Masked}
use Rattle.fields.specs.Split.{lines}
use Rattle.file.specs.File.{File, state_said, nothing}
use Rattle.file.specs.Reading.{Reading, read_on}
use Rattle.file.specs.Reading.Reading.{accepted}
use Rattle.reader.specs.Memory.{memory_of}
use Rattle.reader.specs.Read.{Filling, filling}
use Rattle.reader.specs.private.Stepping.{slot}
use Rattle.file.specs.declared.line.Line.{Line}
use Rattle.file.specs.declared.line.Line.TheVariants.{Members, Labels, Entry, Policy, Effect, Edge, Form, TableBit, PairBit, EventEdge, Mark, Malformed}
use Rattle.reader.specs.declared.step.Context.{Context}

-- Three words from a word on, and four; bit b of a word.
abbrev pub three : List ℕ → (at x y z : ℕ) → List ℕ
three w at x y z = set (set (set w at x) (at + 1) y) (at + 2) z

abbrev pub four : List ℕ → (at x y z v : ℕ) → List ℕ
four w at x y z v = set (three w at x y z) (at + 3) v

abbrev pub with_bit_at : List ℕ → (at b : ℕ) → List ℕ
with_bit_at w at b = set w at (bit_or (get_or w at 0) (2 ^ b))

-- In the words of the terms, in those of the state, and in the sets of free variables.
unfoldable pub stored_terms : Context → Line → List ℕ → List ℕ
stored_terms c (Members n) w = set w 0 n
stored_terms c (Labels r e) w = set (set w 1 r) 2 e
stored_terms c (Entry n o a b d) w = four (set w 3 (n + 1)) (entry_at n) o a b d
stored_terms c (Policy j n) w = set w (policy_at j) n
stored_terms c (Effect j a k d) w = three w (effect_at j (slot c j)) a k d
stored_terms c (Edge k a b) w = w
stored_terms c (Form n) w = w
stored_terms c (TableBit t a b) w = w
stored_terms c (PairBit t a b d) w = w
stored_terms c (EventEdge j u v) w = w
stored_terms c (Mark j) w = set w (mark_at j) 1
stored_terms c Malformed w = w

unfoldable pub stored_state : Line → List ℕ → List ℕ
stored_state (Members n) w = w
stored_state (Labels r e) w = w
stored_state (Entry n o a b c) w = w
stored_state (Policy j n) w = w
stored_state (Effect j a k d) w = w
stored_state (Edge k a b) w = with_bit_at w (relation_at k a) b
stored_state (Form n) w = w
stored_state (TableBit t a b) w = with_bit_at w (table_at t a) b
stored_state (PairBit t a b c) w = with_bit_at w (table_at t (pair_word a b)) (pair_bit b c)
stored_state (EventEdge j u v) w = set w event_at (1 + j * event_unit + u * from_unit + v)
stored_state (Mark j) w = w
stored_state Malformed w = w

unfoldable pub stored_sets : Line → (m : ℕ) → List ℕ → List ℕ
stored_sets (Members n) m w = w
stored_sets (Labels r e) m w = w
stored_sets (Entry n o a b c) m w = set w n m
stored_sets (Policy j n) m w = w
stored_sets (Effect j a k d) m w = w
stored_sets (Edge k a b) m w = w
stored_sets (Form n) m w = w
stored_sets (TableBit t a b) m w = w
stored_sets (PairBit t a b c) m w = w
stored_sets (EventEdge j u v) m w = w
stored_sets (Mark j) m w = w
stored_sets Malformed m w = w

-- What comes of the lines of a text, before refusal 11 is looked for.
abbrev pub all_read : List ℕ → Reading
all_read text = read_on nothing 1 (lines text)

-- The words hold what f says: its terms and its state; and masks has the sets of free variables.
pub record Holds (f : File) (terms state masks : List ℕ) : Type 0 where
  pub terms_are : terms ≡ memory_of f.terms
  pub state-is : state ≡ words_of f.terms (state_said f)
  pub masked : Masked f.terms masks

-- Reading the lines of a text gives o; where all of them pass, the words hold what they say.
pub record Reads (text : List ℕ) (o : Filling) (terms state masks : List ℕ) : Type 0 where
  pub given : o ≡ filling (all_read text)
  pub filled : (f : File) → all_read text ≡ accepted f → Holds f terms state masks
