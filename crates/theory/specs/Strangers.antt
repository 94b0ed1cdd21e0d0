-- Strangers have no say: what is said of two runs over the same terms, a set of members and the two lists of calls
-- (docs/SCOPE.md, Strangers). The field's word is noninterference.
use Rattle.std.specs.Prelude.{ℕ, ◌<◌, ◌≤◌, ◌≡◌, ◌⊎◌, Bool, true, false, List, [], ◌∷◌, ltb, length}
use Rattle.theory.specs.Limits.{scratch_words}
use Rattle.theory.specs.Terms.{Terms}
use Rattle.theory.specs.Moment.{Relations, Moment}
use Rattle.theory.specs.Keeper.{Call, record_of, judge, keep}
use Rattle.theory.specs.Meaning.{from_first}
use Rattle.theory.specs.Formula.{reach_operator}

-- A set of members. What it says of numbers from N on makes no difference: a call that names one is refused.
abbrev pub Circle : Type 0
Circle = (member : ℕ) → Bool

-- No entry is a reach.
abbrev pub WithoutReach : Terms → Type 0
WithoutReach T = (n : ℕ) → n < T.entries → (T.entry n).op ≡ reach_operator → ⊥

-- ---- the records

-- No edge, relation or event, at any moment of the record joins S to the rest. (Past its end a record has no edges.)
abbrev pub Separate : Terms → Circle → List Moment → Type 0
Separate T S Ms = (i l a b : ℕ) → a < T.members → b < T.members → record_of T Ms i l a b ≡ true → S a ≡ S b

-- No first edge does.
abbrev pub SeparateFirst : Terms → Circle → Relations → Type 0
SeparateFirst T S R = (k a b : ℕ) → k < T.relations → a < T.members → b < T.members → R k a b ≡ true → S a ≡ S b

-- The first relations inside S agree.
abbrev pub AgreeWithin : Terms → Circle → Relations → Relations → Type 0
AgreeWithin T S R Q = (k a b : ℕ) → k < T.relations → a < T.members → b < T.members → S a ≡ true → S b ≡ true → R k a b ≡ Q k a b

-- ---- the calls

-- Enough scratch is lent.
abbrev pub Enough : Call → Type 0
Enough c = scratch_words ≤ c.scratch

-- Both ends are in S; both are outside; both are on one side.
abbrev pub Inside : Circle → Call → Type 0
Inside S c = (S c.from ≡ true) × (S c.to ≡ true)

abbrev pub Outside : Circle → Call → Type 0
Outside S c = (S c.from ≡ false) × (S c.to ≡ false)

abbrev pub OneSided : Circle → List Call → Type 0
OneSided S [] = Unit {0}
OneSided S (c ∷ cs) = (S c.from ≡ S c.to) × OneSided S cs

-- The calls are the same, with both ends in S. What scratch they are lent beyond enough is no part of them.
pub record SameWithin (S : Circle) (c d : Call) : Type 0 where
  pub look : c.look ≡ d.look
  pub event : c.event ≡ d.event
  pub from : c.from ≡ d.from
  pub to : c.to ≡ d.to
  pub inside : Inside S c

-- After the record Ms the call makes a moment.
abbrev pub makes : Terms → List Moment → Call → Bool
makes T Ms c = ltb 0 (length (judge T from_first Ms c).1)

-- The calls have both ends outside S in each run, and make a moment in both or in neither.
pub record BothOutside (T : Terms) (S : Circle) (Ms Ns : List Moment) (c d : Call) : Type 0 where
  pub left : Outside S c
  pub right : Outside S d
  pub both : makes T Ms c ≡ makes T Ns d

-- The two lists of calls, place by place, where the records so far are Ms and Ns.
abbrev pub Paired : Terms → Circle → (Ms Ns : List Moment) → (cs ds : List Call) → Type 0
Paired T S Ms Ns [] [] = Unit {0}
Paired T S Ms Ns [] (d ∷ ds) = ⊥
Paired T S Ms Ns (c ∷ cs) [] = ⊥
Paired T S Ms Ns (c ∷ cs) (d ∷ ds) =
    Enough c × Enough d × (SameWithin S c d ⊎ BothOutside T S Ms Ns c d) × Paired T S (keep T from_first Ms c).1 (keep T from_first Ns d).1 cs ds
