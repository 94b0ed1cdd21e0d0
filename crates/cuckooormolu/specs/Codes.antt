-- The code numbers that a host is given: a refusal's own number, 1 to 99 (docs/SCOPE.md, Refusals), or one of seven
-- numbers that no refusal has and that are not 0.
use Rattle.std.specs.Prelude.{ℕ, ◌<◌, ◌≡◌, ◌↔◌}
use Rattle.theory.specs.Keeper.{Answer}
use Rattle.theory.specs.Keeper.Verdict.{grant, deny}
use Rattle.theory.specs.Keeper.Answer.{decided, done as revised, refused}
use Rattle.memory.specs.Outcome.{Outcome}
use Rattle.memory.specs.Outcome.Outcome.{passed, refused as refusedOutcome}
use Rattle.calls.specs.SetList.{Listing}
use Rattle.calls.specs.SetList.Listing.{counted, refused as refusedList}
use Rattle.calls.specs.Telling.{Telling}
use Rattle.calls.specs.Telling.Telling.{holds, fails, refused as refusedTelling}
use Rattle.plans.specs.Game.{Ruling}
use Rattle.plans.specs.Game.Ruling.{accept, reject, refuse}
use Rattle.writer.specs.Write.{Writing}
use Rattle.writer.specs.Write.Writing.{bytes, refused as refusedWriting}

abbrev pub done_code : ℕ
done_code = 100

abbrev pub denied_code : ℕ
denied_code = 200

abbrev pub granted_code : ℕ
granted_code = 300

-- A verdict on a plan and what is told of an entry are no answers to a request: their codes are numbers of their own,
-- so that a host cannot take one for a permission.
abbrev pub rejected_code : ℕ
rejected_code = 400

abbrev pub accepted_code : ℕ
accepted_code = 500

abbrev pub fails_code : ℕ
fails_code = 600

abbrev pub holds_code : ℕ
holds_code = 700

abbrev pub code_of : Answer → ℕ
code_of (decided grant) = granted_code
code_of (decided deny) = denied_code
code_of revised = done_code
code_of (refused n l) = n

abbrev pub outcome_code : Outcome → ℕ
outcome_code passed = done_code
outcome_code (refusedOutcome n l) = n

-- The line of a refusal; 0 where nothing is refused.
abbrev pub outcome_line : Outcome → ℕ
outcome_line passed = 0
outcome_line (refusedOutcome n l) = l

-- A writing's code, and its count of bytes; 0 where it is refused.
abbrev pub writing_code : Writing → ℕ
writing_code (bytes n) = done_code
writing_code (refusedWriting n l) = n

abbrev pub writing_count : Writing → ℕ
writing_count (bytes n) = n
writing_count (refusedWriting n l) = 0

-- A set list's code, and its count of grants; 0 where it is refused.
abbrev pub listing_code : Listing → ℕ
listing_code (counted n) = done_code
listing_code (refusedList n l) = n

abbrev pub listing_count : Listing → ℕ
listing_count (counted n) = n
listing_count (refusedList n l) = 0

abbrev pub ruling_code : Ruling → ℕ
ruling_code accept = accepted_code
ruling_code reject = rejected_code
ruling_code (refuse n l) = n

abbrev pub telling_code : Telling → ℕ
telling_code holds = holds_code
telling_code fails = fails_code
telling_code (refusedTelling n l) = n

-- ---- what a host may conclude from a code

abbrev pub Low : ℕ → Type 0
Low n = (0 < n) × (n < done_code)

pub record ToldAnswer (a : Answer) : Type 0 where
  pub grants : (code_of a ≡ granted_code) ↔ (a ≡ decided grant)
  pub denies : (code_of a ≡ denied_code) ↔ (a ≡ decided deny)
  pub refuses : (n l : ℕ) → a ≡ refused n l → Low n

pub record ToldOutcome (o : Outcome) : Type 0 where
  pub done : (outcome_code o ≡ done_code) ↔ (o ≡ passed)
  pub refuses : (n l : ℕ) → o ≡ refusedOutcome n l → Low n

pub record ToldWriting (w : Writing) : Type 0 where
  pub done : (writing_code w ≡ done_code) ↔ (w ≡ bytes (writing_count w))
  pub refuses : (n l : ℕ) → w ≡ refusedWriting n l → Low n

pub record ToldListing (x : Listing) : Type 0 where
  pub done : (listing_code x ≡ done_code) ↔ (x ≡ counted (listing_count x))
  pub refuses : (n l : ℕ) → x ≡ refusedList n l → Low n

-- A code of these two is that of no grant, denial or call that is done.
abbrev pub NoAnswer : ℕ → Type 0
NoAnswer n = (¬ (n ≡ done_code)) × (¬ (n ≡ denied_code)) × (¬ (n ≡ granted_code))

pub record ToldRuling (g : Ruling) : Type 0 where
  pub accepts : (ruling_code g ≡ accepted_code) ↔ (g ≡ accept)
  pub rejects : (ruling_code g ≡ rejected_code) ↔ (g ≡ reject)
  pub refuses : (n l : ℕ) → g ≡ refuse n l → Low n
  pub no_answer : NoAnswer (ruling_code g)

pub record ToldTelling (t : Telling) : Type 0 where
  pub affirmed : (telling_code t ≡ holds_code) ↔ (t ≡ holds)
  pub denied : (telling_code t ≡ fails_code) ↔ (t ≡ fails)
  pub refuses : (n l : ℕ) → t ≡ refusedTelling n l → Low n
  pub no_answer : NoAnswer (telling_code t)
