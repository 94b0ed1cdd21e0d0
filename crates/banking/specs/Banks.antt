-- Two banks, one circle (docs/SCOPE.md, Two banks): the keeper of a record for each bank, and two runs side by side.
use Rattle.std.specs.Prelude.{ℕ, ◌≤◌, ◌≡◌, ◌⊎◌, Bool, true, false, cond, not, ◌||◌, List, [], ◌∷◌, ◌++◌, map, ltb}
use Rattle.theory.specs.Meaning.{Starts, from_first}
use Rattle.theory.specs.Terms.{Terms, same_size}
use Rattle.theory.specs.Limits.{scratch_words, least_terms}
use Rattle.theory.specs.Moment.{Relations, Moment, first}
use Rattle.theory.specs.Moment.Event.{none}
use Rattle.theory.specs.Keeper.{Call, Answer, Book, judge, revised_start}
use Rattle.theory.specs.Keeper.Answer.{done, refused}

pub data Bank : Type 0 where
  left : Bank
  right : Bank

abbrev pub other : Bank → Bank
other left = right
other right = left

abbrev pub same : Bank → Bank → Bool
same left left = true
same left right = false
same right left = false
same right right = true

-- The moment without its event edge.
abbrev pub quiet : Moment → Moment
quiet M = record { edge = M.edge; event = none }

-- A call of one bank, as the keeper is fed it. The other bank's scratch is lent too.
pub record BankCall : Type 0 where
  pub bank : Bank
  pub call : Call
  pub other_scratch : ℕ

-- The moments made by a call of bank b, as bank d has them: in the other bank without an event edge.
abbrev pub as_seen : (d b : Bank) → List Moment → List Moment
as_seen d b Ms = cond (same d b) Ms (map quiet Ms)

-- A record for each bank.
abbrev pub Records : Type 0
Records = Bank → List Moment

-- A call goes by the other bank's scratch (6), and then by the bank's own record.
abbrev pub judge_bank : Terms → (Bank → Starts) → Records → BankCall → Answer × List Moment
judge_bank T s L c = cond (ltb c.other_scratch scratch_words) (refused 6 0, []) (judge T (s c.bank) (L c.bank) c.call)

-- A moment made in one bank is a moment in the other too, without an event edge there.
unfoldable pub keep_bank : Terms → (Bank → Starts) → Records → BankCall → Answer × Records
keep_bank T s L c = ((judge_bank T s L c).0, λ d. L d ++ as_seen d c.bank (judge_bank T s L c).1)

-- ---- new terms for both banks together

-- What the keeper of two banks holds: the terms, and for each bank the start of each past-time entry, and its list of
-- graphs.
pub record Books : Type 0 where
  pub terms : Terms
  pub start : Bank → Starts
  pub moments : Records

-- One bank's book.
abbrev pub book_of : Books → Bank → Book
book_of B d = record { terms = B.terms; start = B.start d; moments = B.moments d }

-- Both banks start together at moment 0.
abbrev pub first_books : Terms → Relations → Books
first_books T R = record { terms = T; start = λ d. from_first; moments = λ d. first R ∷ [] }

-- How many words the relations have, and each bank's own.
abbrev pub least_relations : ℕ
least_relations = 1024

abbrev pub least_own : ℕ
least_own = 2049

-- New terms, as the keeper is fed them: how many words of terms, of second relations and of each bank's second own
-- words are lent, whether an accepted file yields such words of terms, and what they say.
pub record BankOffer : Type 0 where
  pub words : ℕ
  pub relations : ℕ
  pub own : Bank → ℕ
  pub sound : Bool
  pub terms : Terms

abbrev pub short_offer : BankOffer → Bool
short_offer o = ltb o.words least_terms || (ltb o.relations least_relations || (ltb (o.own left) least_own || ltb (o.own right) least_own))

-- A step of a run: a call of one bank, or new terms for both.
pub data BankStep : Type 0 where
  call : BankCall → BankStep
  revise : BankOffer → BankStep

abbrev pub with_records : Books → Records → Books
with_records B L = record { terms = B.terms; start = B.start; moments = L }

-- The records go on as they are; each bank's entries go on from their starts, or start now, by its own book.
abbrev pub revised_books : Books → Terms → Books
revised_books B U = record { terms = U; start = λ d. revised_start (book_of B d) U; moments = B.moments }

unfoldable pub keep_bank_step : Books → BankStep → Answer × Books
keep_bank_step B (call c) = let now = keep_bank B.terms B.start B.moments c in (now.0, with_records B now.1)
keep_bank_step B (revise o) =
    cond (short_offer o) (refused 6 0, B)
    (cond (not o.sound) (refused 7 0, B)
    (cond (not (same_size B.terms o.terms)) (refused 13 0, B)
    (done, revised_books B o.terms)))

unfoldable pub keep_bank_steps : Books → List BankStep → List Answer × Books
keep_bank_steps B [] = ([], B)
keep_bank_steps B (x ∷ xs) =
    let now = keep_bank_step B x in
    let later = keep_bank_steps now.1 xs in
    (now.0 ∷ later.0, later.1)

-- ---- two runs side by side

-- The same call of bank b, a look too, in both runs, with enough scratch.
pub record SameCall (b : Bank) (c d : BankCall) : Type 0 where
  pub bank-left : c.bank ≡ b
  pub bank_right : d.bank ≡ b
  pub look : c.call.look ≡ d.call.look
  pub event : c.call.event ≡ d.call.event
  pub from : c.call.from ≡ d.call.from
  pub to : c.call.to ≡ d.call.to
  pub scratch_left : scratch_words ≤ c.call.scratch
  pub scratch_right : scratch_words ≤ d.call.scratch
  pub other_left : scratch_words ≤ c.other_scratch
  pub other_right : scratch_words ≤ d.other_scratch

-- A moment in both or in neither, with equal relations after it, whichever the event edges are.
abbrev pub Matching : List Moment → List Moment → Type 0
Matching [] [] = Unit {0}
Matching [] (N ∷ Ns) = ⊥
Matching (M ∷ Ms) [] = ⊥
Matching (M ∷ Ms) (N ∷ Ns) = ((k x y : ℕ) → M.edge k x y ≡ N.edge k x y) × Matching Ms Ns

-- A call of the other bank in each run.
pub record OtherBank (b : Bank) (B B' : Books) (c d : BankCall) : Type 0 where
  pub bank-left : c.bank ≡ other b
  pub bank_right : d.bank ≡ other b
  pub made : Matching (judge_bank B.terms B.start B.moments c).1 (judge_bank B'.terms B'.start B'.moments d).1

-- The same new terms in both runs, with enough memory in both or in neither.
pub record SameTerms (o p : BankOffer) : Type 0 where
  pub short : short_offer o ≡ short_offer p
  pub sound : o.sound ≡ p.sound
  pub terms : o.terms ≡ p.terms

-- One place of two runs, where the books so far are B and B'.
abbrev pub Place : Bank → (B B' : Books) → (x y : BankStep) → Type 0
Place b B B' (call c) (call d) = SameCall b c d ⊎ OtherBank b B B' c d
Place b B B' (call c) (revise p) = ⊥
Place b B B' (revise o) (call d) = ⊥
Place b B B' (revise o) (revise p) = SameTerms o p

-- The two lists of steps, place by place.
abbrev pub Placed : Bank → (B B' : Books) → (xs ys : List BankStep) → Type 0
Placed b B B' [] [] = Unit {0}
Placed b B B' [] (y ∷ ys) = ⊥
Placed b B B' (x ∷ xs) [] = ⊥
Placed b B B' (x ∷ xs) (y ∷ ys) = Place b B B' x y × Placed b (keep_bank_step B x).1 (keep_bank_step B' y).1 xs ys

-- A step of bank b: a call of it, or new terms.
abbrev pub OfBank : Bank → BankStep → Type 0
OfBank b (call c) = c.bank ≡ b
OfBank b (revise o) = Unit {0}
