-- `Listing` for a set list of a bank, over terms t.
use mathlib.Core.Path.{◌≡◌, refl, ap, ◌∙◌}
use Prim.Native.Nat.{ℕ, ◌+◌, ◌<◌, ◌^◌}
use mathlib.Core.Bool.{cond}
use mathlib.Core.List.{List, [], ◌∷◌}
use lib.Dec.{eqb, lit<}
use lib.ListN.{length, get_or, set}
use Rattle.theory.specs.Keeper.{Answer}
use Rattle.memory.specs.Outcome.{Outcome, outcome_of, has_passed}
use Rattle.memory.specs.Outcome.Outcome.{passed}
use Rattle.calls.specs.Monitor.{granted}
use Rattle.calls.specs.SetList.{listing_of, answer_number, filled, listing, gain_of, blank}
use Rattle.calls.specs.SetList.Listing.{counted}
use Rattle.calls.specs.declared.Record.{Record}
use Rattle.std.specs.Prelude.{Result, Ok, Err}
use Rattle.memory.specs.declared.refusal.Refusal.{Refusal}
use Rattle.banking.specs.Banking.{bank_answer, relations_after, own_after, other_after, cleared_after}
use Rattle.banking.specs.BankList.{BankRun, bank_singly, bank_list_checks, bank_listed, bank_left}
use Rattle.banking.proofs.BankAnswers.{each_answer}
use Rattle.monitor.proofs.Records.{put_answer}
use Rattle.monitor.proofs.Listing as loop
use Rattle.monitor.proofs.Listing.{Ran, each}

-- ---- an answer

module _ (t relations own other scratch spare : List ℕ) (j u v : ℕ) where
  abbrev answer : Answer
  answer = bank_answer t relations own other scratch spare j u v

  -- A number of 1 is a grant.
  one_granted : gain_of (answer_number answer) ≡ cond (granted answer) 1 0
  unfolding gain_of
  one_granted =
      each_answer t relations own other scratch spare j u v (λ a. ◌≡◌ {A = ℕ} (cond (eqb (answer_number a) 1) 1 0) (cond (granted a) 1 0)) refl refl refl refl refl refl

  pub number_small : answer_number answer < 2 ^ 32
  number_small = each_answer t relations own other scratch spare j u v (λ a. answer_number a < 2 ^ 32) (lit< tt) (lit< tt) (lit< tt) (lit< tt) (lit< tt) (lit< tt)

-- ---- the loop

-- Relations, own words, the other bank's, scratch and spare.
abbrev pub Mem : Type 0
Mem = List ℕ × (List ℕ × (List ℕ × (List ℕ × (List ℕ × Unit {0}))))

-- Nothing more is kept of the memory from turn to turn.
abbrev pub Free : Mem → Type 0
Free m = Unit {0}

module _ (t : List ℕ) where
  module _ {X : Type 0} (f : (relations own other scratch spare : List ℕ) → (j u v : ℕ) → X) where
    abbrev of : Mem → Record → X
    of m r = f m.0 m.1.0 m.1.1.0 m.1.1.1.0 m.1.1.1.1.0 r.event r.from r.to

  abbrev ask : Mem → Record → Answer
  ask = of (bank_answer t)

  abbrev after : Mem → Record → Mem
  after m r = (
    of (relations_after t) m r,
    (of (own_after t) m r, (of (other_after t) m r, (of (cleared_after t) m r m.1.1.1.0, (of (cleared_after t) m r m.1.1.1.1.0, tt)))),
  )

  -- What `step` ensures of the record e.
  abbrev pub Said : Mem → Record → ℕ → Mem → Type 0
  Said m e r m' =
      (r ≡ answer_number (ask m e)) × (m'.0 ≡ of (relations_after t) m e) × (m'.1.0 ≡ of (own_after t) m e) × (m'.1.1.0 ≡ of (other_after t) m e)
      × (m'.1.1.1.0 ≡ of (cleared_after t) m e m.1.1.1.0) × (m'.1.1.1.1.0 ≡ of (cleared_after t) m e m.1.1.1.1.0)

  abbrev as_run : Ran Mem → BankRun
  as_run X = record {
    records = X.records;
    grants = X.grants;
    relations = X.mem.0;
    own = X.mem.1.0;
    other = X.mem.1.1.0;
    scratch = X.mem.1.1.1.0;
    spare = X.mem.1.1.1.1.0;
  }

  abbrev run : Mem → List Record → BankRun
  run m = bank_singly t m.0 m.1.0 m.1.1.0 m.1.1.1.0 m.1.1.1.1.0

  each_singly : (m : Mem) (rs : List Record) → as_run (each ask after m rs) ≡ run m rs
  unfolding bank_singly each
  each_singly m [] = refl
  each_singly m (r ∷ rs) =
      ap (λ (X : BankRun). record {
        records = filled r (ask m r) ∷ X.records;
        grants = cond (granted (ask m r)) 1 0 + X.grants;
        relations = X.relations;
        own = X.own;
        other = X.other;
        scratch = X.scratch;
        spare = X.spare;
      }) (each_singly (after m r) rs)

  module _ (ys₀ : List Record) (m₀ : Mem) (Kept : Mem → Type 0) where
    abbrev pub Facts : ℕ → ℕ → List Record → Mem → Type 0
    Facts i g ys m = loop.Facts ask after ys₀ m₀ Kept i g ys m

    pub begins : Kept m₀ → Facts 0 0 ys₀ m₀
    begins = loop.begins ask after ys₀ m₀ Kept

    pub turn : (i g : ℕ) (ys : List Record) (m : Mem) (r : ℕ) (m' : Mem) → Said m (get_or ys i blank) r m' → Kept m' → Facts i g ys m → i < length ys →
        Facts (i + 1) (g + gain_of r) (set ys i (put_answer (get_or ys i blank) r)) m'
    turn i g ys m r m' said =
        loop.turn ask after ys₀ m₀ Kept (λ m z. one_granted t m.0 m.1.0 m.1.1.0 m.1.1.1.0 m.1.1.1.1.0 z.event z.from z.to) i g ys m r m' said.0
        (λ j. (said.1 j, (said.2 j, (said.3 j, (said.4 j, (said.5 j, tt))))))

    abbrev checks : Outcome
    checks = bank_list_checks t m₀.0 m₀.1.0 m₀.1.1.0 m₀.1.1.1.0 m₀.1.1.1.1.0

    abbrev leaves : BankRun
    leaves = bank_left t m₀.0 m₀.1.0 m₀.1.1.0 m₀.1.1.1.0 m₀.1.1.1.1.0 ys₀

    abbrev pub Ended : Result ℕ Refusal → List Record → Mem → Type 0
    Ended r ys m =
        (listing_of r ≡ bank_listed t m₀.0 m₀.1.0 m₀.1.1.0 m₀.1.1.1.0 m₀.1.1.1.1.0 ys₀) × (ys ≡ leaves.records) × (m.0 ≡ leaves.relations)
        × (m.1.0 ≡ leaves.own) × (m.1.1.0 ≡ leaves.other) × (m.1.1.1.0 ≡ leaves.scratch) × (m.1.1.1.1.0 ≡ leaves.spare)

    -- What is left, by the outcome of the checks.
    abbrev by : Outcome → BankRun
    by o = cond (has_passed o) (run m₀ ys₀) (as_run (record { records = ys₀; grants = 0; mem = m₀ }))

    pub ends : (g : ℕ) (ys : List Record) (m : Mem) → passed ≡ checks → Facts (length ys₀) g ys m → Ended (Ok g) ys m
    unfolding bank_listed bank_left
    ends g ys m p F =
        let q = ap as_run (loop.ran ask after ys₀ m₀ Kept g ys m F) ∙ each_singly m₀ ys₀ in
        let o = q ∙ ap by p in (
          ap (λ (R : BankRun). counted R.grants) q ∙ ap (λ (o : Outcome). listing o (run m₀ ys₀).grants) p,
          ap (λ (R : BankRun). R.records) o,
          ap (λ (R : BankRun). R.relations) o,
          ap (λ (R : BankRun). R.own) o,
          ap (λ (R : BankRun). R.other) o,
          ap (λ (R : BankRun). R.scratch) o,
          ap (λ (R : BankRun). R.spare) o,
        )

    -- A refused check leaves all as lent.
    pub refuses : (r : Refusal) → outcome_of (Err r) ≡ checks → Ended (Err r) ys₀ m₀
    unfolding bank_listed bank_left
    refuses r p =
        let o = ap by p in (
          ap (λ (o : Outcome). listing o (run m₀ ys₀).grants) p,
          ap (λ (R : BankRun). R.records) o,
          ap (λ (R : BankRun). R.relations) o,
          ap (λ (R : BankRun). R.own) o,
          ap (λ (R : BankRun). R.other) o,
          ap (λ (R : BankRun). R.scratch) o,
          ap (λ (R : BankRun). R.spare) o,
        )
