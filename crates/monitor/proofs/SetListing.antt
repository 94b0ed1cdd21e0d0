-- `Listing` for a set list of one monitor: over terms t, from the state st₀ and the scratch sc₀.
use mathlib.Core.Path.{◌≡◌, refl, sym, ap, ◌∙◌, subst}
use Prim.Native.Nat.{ℕ, ◌+◌, ◌<◌}
use mathlib.Core.Bool.{cond}
use mathlib.Core.List.{List, [], ◌∷◌}
use lib.ListN.{length, get_or, set}
use Rattle.theory.specs.Keeper.{Answer}
use Rattle.memory.specs.Outcome.{Outcome, outcome_of, has_passed}
use Rattle.memory.specs.Outcome.Outcome.{passed}
use Rattle.calls.specs.Monitor.{answer, granted, state_after, scratch_after}
use Rattle.calls.specs.SetList.{listing_of, list_checks, filled, Run, singly, listing, listed, left, gain_of, blank}
use Rattle.calls.specs.SetList.Listing.{counted}
use Rattle.calls.specs.private.Listing.{MemoryPassed}
use Rattle.calls.specs.declared.Record.{Record}
use Rattle.std.specs.Prelude.{Result, Ok, Err}
use Rattle.memory.specs.declared.refusal.Refusal.{Refusal}
use Rattle.monitor.proofs.Records.{put_answer}
use Rattle.monitor.proofs.Listing as loop
use Rattle.monitor.proofs.Listing.{Ran, each}
use Rattle.calls.proofs.OneByOne.{one_granted, AsRequest, after_passed}

-- State and scratch.
abbrev pub Mem : Type 0
Mem = List ℕ × List ℕ

module _ (t : List ℕ) where
  abbrev ask : Mem → Record → Answer
  ask m r = answer t m.0 m.1 r.event r.from r.to

  abbrev after : Mem → Record → Mem
  after m r = (state_after t m.0 m.1 r.event r.from r.to, scratch_after t m.0 m.1 r.event r.from r.to)

  abbrev as_run : Ran Mem → Run
  as_run X = record { records = X.records; grants = X.grants; state = X.mem.0; scratch = X.mem.1 }

  each_singly : (m : Mem) (rs : List Record) → as_run (each ask after m rs) ≡ singly t m.0 m.1 rs
  unfolding singly each
  each_singly m [] = refl
  each_singly m (r ∷ rs) =
      ap (λ (X : Run). record { records = filled r (ask m r) ∷ X.records; grants = cond (granted (ask m r)) 1 0 + X.grants; state = X.state; scratch = X.scratch })
      (each_singly (after m r) rs)

module _ (t : List ℕ) (ys₀ : List Record) (st₀ sc₀ index : List ℕ) where
  -- Memory that has passed the checks passes them.
  abbrev Kept : Mem → Type 0
  Kept m = MemoryPassed t index m.0 m.1

  abbrev pub Facts : ℕ → ℕ → List Record → List ℕ → List ℕ → Type 0
  Facts i g ys st sc = loop.Facts (ask t) (after t) ys₀ (st₀, sc₀) Kept i g ys (st, sc)

  pub begins : MemoryPassed t index st₀ sc₀ → Facts 0 0 ys₀ st₀ sc₀
  begins = loop.begins (ask t) (after t) ys₀ (st₀, sc₀) Kept

  -- What `step` ensures of the record e.
  abbrev pub Said : List ℕ → List ℕ → Record → ℕ → List ℕ → List ℕ → Type 0
  Said st sc e r st' sc' = AsRequest t st sc e.event e.from e.to r st' sc'

  pub turn : (i g : ℕ) (ys : List Record) (st sc : List ℕ) (r : ℕ) (st' sc' : List ℕ) → Said st sc (get_or ys i blank) r st' sc' → Facts i g ys st sc →
      i < length ys → Facts (i + 1) (g + gain_of r) (set ys i (put_answer (get_or ys i blank) r)) st' sc'
  turn i g ys st sc r st' sc' said F l =
      let e : Record = get_or ys i blank in
      let left : ◌≡◌ {A = Mem} (st', sc') (after t (st, sc) e) = λ j. (said.1 j, said.2 j) in
      loop.turn (ask t) (after t) ys₀ (st₀, sc₀) Kept (λ m z. one_granted t m.0 m.1 z.event z.from z.to) i g ys (st, sc) r (st', sc') said.0 left
      (subst (λ (m : Mem). MemoryPassed t index m.0 m.1) (sym left) (after_passed t st sc e.event e.from e.to index F.kept)) F l

  abbrev lent : Run
  lent = record { records = ys₀; grants = 0; state = st₀; scratch = sc₀ }

  abbrev pub Ended : Result ℕ Refusal → List Record → List ℕ → List ℕ → Type 0
  Ended r ys st sc =
      (listing_of r ≡ listed t st₀ sc₀ ys₀) × (ys ≡ (left t st₀ sc₀ ys₀).records) × (st ≡ (left t st₀ sc₀ ys₀).state) × (sc ≡ (left t st₀ sc₀ ys₀).scratch)

  pub ends : (g : ℕ) (ys : List Record) (st sc : List ℕ) → passed ≡ list_checks t st₀ sc₀ → Facts (length ys₀) g ys st sc → Ended (Ok g) ys st sc
  unfolding listed left
  ends g ys st sc p F =
      let q = ap (as_run t) (loop.ran (ask t) (after t) ys₀ (st₀, sc₀) Kept g ys (st, sc) F) ∙ each_singly t (st₀, sc₀) ys₀ in
      let o = ap (λ (o : Outcome). cond (has_passed o) (singly t st₀ sc₀ ys₀) lent) p in (
        ap (λ (R : Run). counted R.grants) q ∙ ap (λ (o : Outcome). listing o (singly t st₀ sc₀ ys₀).grants) p,
        ap (λ (R : Run). R.records) (q ∙ o),
        ap (λ (R : Run). R.state) (q ∙ o),
        ap (λ (R : Run). R.scratch) (q ∙ o),
      )

  -- A refused check leaves all as lent.
  pub refuses : (r : Refusal) → outcome_of (Err r) ≡ list_checks t st₀ sc₀ → Ended (Err r) ys₀ st₀ sc₀
  unfolding listed left
  refuses r p =
      let o = ap (λ (o : Outcome). cond (has_passed o) (singly t st₀ sc₀ ys₀) lent) p in (
        ap (λ (o : Outcome). listing o (singly t st₀ sc₀ ys₀).grants) p,
        ap (λ (R : Run). R.records) o,
        ap (λ (R : Run). R.state) o,
        ap (λ (R : Run). R.scratch) o,
      )
