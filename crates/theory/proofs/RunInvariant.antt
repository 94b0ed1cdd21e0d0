-- The invariant of a run: the monitor's moment is the keeper's last, and its tables say what the past-time entries
-- mean there, each from its start.
use Prim.Native.Nat.{ℕ, suc, ◌≤◌, ◌<◌}
use native.Mathlib.Omega.{arith}
use mathlib.Core.Path.{◌≡◌, refl, sym, ap, ◌∙◌}
use mathlib.Core.List.{List, [], ◌∷◌, ◌++◌}
use mathlib.Core.Bool.{true, false}
use lib.ListN.{length, length-append, get_or-append}
use lib.Seq.{get_or-append_seam}
use Rattle.theory.specs.Formula.{Formula, number, below, is_past, bare, columns}
use Rattle.theory.specs.Formula.Formula.{prev}
use Rattle.theory.specs.Meaning.{Graph, Record, Starts, from_first, Assignment, holds}
use Rattle.theory.specs.Columns.{standing, member}
use Rattle.theory.specs.Terms.{Terms, formula}
use Rattle.theory.specs.Moment.{Relations, Moment, graph, first}
use Rattle.theory.specs.Keeper.{target, record_of, last, last_moment, keeper_holds}
use Rattle.theory.specs.Tables.{Tables, holds_now, prev_tables, State, opening, decide_now, advance}
use Rattle.theory.specs.Fit.{Good}
use Rattle.theory.proofs.Unfolding.{spelled_prev, table_spelled, visible_below, visible_spelled}
use Rattle.theory.proofs.Good.{column_free}
use Rattle.theory.proofs.Record.{prev_start, prev_later, holds_up_to}
use Rattle.theory.proofs.Places.{among_alone, inside_among, inside_member}
use Rattle.theory.proofs.MeaningNow.{Same, SameAt, Right, now_holds}
use Rattle.theory.proofs.Sweeps.{prev_untouched, since_untouched, prev_keeps, prev_worked, since_worked, meant, meant_before}

-- Two past-time entries with the same fully spelled-out formula start together.
abbrev pub Together : Terms → Starts → Type 0
Together T s =
    (k n : ℕ) → k < T.entries → n < T.entries → is_past (T.entry k).op ≡ true → is_past (T.entry n).op ≡ true →
    bare (formula T k) ≡ bare (formula T n) → s (number T.entry k) ≡ s (number T.entry n)

pub record Kept (T : Terms) (s : Starts) (S : State) (Ms : List Moment) : Type 0 where
  pub some : 0 < length Ms
  pub now : S.now ≡ last_moment Ms
  pub begun : (t : ℕ) → s t ≤ last Ms
  pub together : Together T s
  pub tables : (n : ℕ) → n < T.entries → is_past (T.entry n).op ≡ true →
      SameAt T.members (columns (formula T n)) (S.table (number T.entry n)) (λ a b. keeper_holds T s Ms n (standing (formula T n) a b) (member (formula T n) a))
  pub unused : (t a b : ℕ) → number T.entry T.entries ≤ t → S.table t a b ≡ false

-- One moment more.
module _ (Ms : List Moment) (M : Moment) (some : 0 < length Ms) where
  last_new : last (Ms ++ (M ∷ [])) ≡ suc (last Ms)
  last_new = rw length-append (omega arith)

  last_length : last (Ms ++ (M ∷ [])) ≡ length Ms
  last_length = rw length-append (omega arith)

  moment_new : last_moment (Ms ++ (M ∷ [])) ≡ M
  moment_new = rw last_length (get_or-append_seam Ms M [] (first (λ k a b. false)))

  module _ (T : Terms) (s : Starts) where
    record_old : (j l a b : ℕ) → j ≤ last Ms → record_of T Ms j l a b ≡ record_of T (Ms ++ (M ∷ [])) j l a b
    record_old j l a b h =
        ap (λ (L : Moment). graph T L l a b) (sym (get_or-append Ms (M ∷ []) (first (λ k a b. false)) j (omega arith)))

    -- What held at the last moment held one moment before the new one.
    held : (t : ℕ) → s t ≤ last Ms → (f : Formula) (g : Assignment) (m : ℕ) →
        holds T.members s (record_of T Ms) f (last Ms) g m ≡ holds T.members s (record_of T (Ms ++ (M ∷ []))) (prev t f) (last (Ms ++ (M ∷ []))) g m
    held t l f g m =
        holds_up_to T.members s (record_of T Ms) (record_of T (Ms ++ (M ∷ []))) f (last Ms) g m record_old
        ∙ sym (ap (λ i. holds T.members s (record_of T (Ms ++ (M ∷ []))) (prev t f) i g m) last_new
        ∙ prev_later T.members s (record_of T (Ms ++ (M ∷ []))) t f g m (last Ms) l)

module _ (T : Terms) (good : Good T) (s : Starts) where
  pub right : (S : State) (Ms : List Moment) → Kept T s S Ms → (n : ℕ) → n < T.entries → is_past (T.entry n).op ≡ true →
      Right T.members s (record_of T Ms) (last Ms) S.table (formula T n)
  right S Ms kept n l p = record {
    fit = (good.entry n l).columns-fit p;
    all = column_free T good n l;
    bits = rw (table_spelled T.entry n p) (kept.tables n l p);
  }

  now_same : (S : State) (Ms : List Moment) → Kept T s S Ms → (l : ℕ) →
      Same T.members (graph T S.now l) (record_of T Ms (last Ms) l)
  now_same S Ms kept l a b _ _ = ap (λ (M : Moment). graph T M l a b) kept.now

  -- Any entry, read from the tables, is what the record says.
  pub entry_kept : (S : State) (Ms : List Moment) → Kept T s S Ms → (n u v : ℕ) → n < T.entries → u < T.members → v < T.members →
      holds_now T.members (graph T S.now) S.table (formula T n) (target v) u ≡ keeper_holds T s Ms n (target v) u
  entry_kept S Ms kept n u v nl ul vl =
      now_holds T.members (graph T S.now) S.table s (record_of T Ms) (last Ms) (now_same S Ms kept)
      (formula T n) (target v) u (among_alone T.members 0 v vl) ul
      (visible_spelled T.entry (Right T.members s (record_of T Ms) (last Ms) S.table) n
      (λ k kl p. right S Ms kept k (omega (arith, nl)) p))

  pub decide_kept : (S : State) (Ms : List Moment) → Kept T s S Ms → (j u v : ℕ) → j < T.events → u < T.members → v < T.members →
      decide_now T S j u v ≡ keeper_holds T s Ms (T.policy j) (target v) u
  decide_kept S Ms kept j u v jl ul vl = entry_kept S Ms kept (T.policy j) u v (good.policy_exists j jl) ul vl

  -- Any next moment, whatever made it.
  pub advance_kept : (S : State) (Ms : List Moment) → Kept T s S Ms → (M : Moment) → Kept T s (advance T S M) (Ms ++ (M ∷ []))
  unfolding advance
  advance_kept S Ms kept M = record {
    some = rw length-append (omega arith);
    now = now;
    begun = begun;
    together = kept.together;
    tables = since_worked T good s γ (last Ms') begun G (λ l a b _ _. ap (λ (L : Moment). graph T L l a b) now) X prevs sinces T.entries (omega arith);
    unused = λ t a b h. since_untouched T G T.entries X t h a b ∙ prev_untouched T G₀ T.entries S.table t h a b ∙ kept.unused t a b h;
  }
    where
      Ms' : List Moment
      Ms' = Ms ++ (M ∷ [])

      γ : Record
      γ = record_of T Ms'

      G₀ : Graph
      G₀ = graph T S.now

      G : Graph
      G = graph T M

      X : Tables
      X = prev_tables T G₀ T.entries S.table

      begun : (t : ℕ) → s t ≤ last Ms'
      begun t = omega (arith, kept.begun t, last_new Ms M kept.some)

      now : M ≡ last_moment Ms'
      now = sym (moment_new Ms M kept.some)

      prevs : (k : ℕ) → k < T.entries → (T.entry k).op ≡ 6 → SameAt T.members (columns (formula T k)) (X (number T.entry k)) (meant T s γ (last Ms') k)
      prevs k l e a b i =
          prev_worked T G₀ good T.entries (omega arith) S.table k l e a b i
          ∙ now_holds T.members G₀ S.table s (record_of T Ms) (last Ms) (now_same S Ms kept)
          (below T.entry k (T.entry k).a) (standing (formula T k) a b) (member (formula T k) a)
          (inside_among T.members (columns (formula T k)) a b i) (inside_member T.members (columns (formula T k)) a b i)
          (visible_below T.entry (Right T.members s (record_of T Ms) (last Ms) S.table) k
          (λ n nl p. right S Ms kept n (omega arith) p) (T.entry k).a)
          ∙ held Ms M kept.some T s (number T.entry k) (kept.begun (number T.entry k)) (below T.entry k (T.entry k).a) (standing (formula T k) a b) (member (formula T k) a)
          ∙ ap (λ φ. holds T.members s γ φ (last Ms') (standing (formula T k) a b) (member (formula T k) a)) (sym (spelled_prev T.entry k e))

      sinces : (k : ℕ) → k < T.entries → (T.entry k).op ≡ 7 → SameAt T.members (columns (formula T k)) (X (number T.entry k)) (meant_before T s γ (last Ms') k)
      sinces k l e a b i =
          prev_keeps T G₀ T.entries S.table k e a b
          ∙ kept.tables k l (rw e) a b i
          ∙ held Ms M kept.some T s (number T.entry k) (kept.begun (number T.entry k)) (formula T k) (standing (formula T k) a b) (member (formula T k) a)

module _ (T : Terms) (good : Good T) where
  pub opening_kept : (R : Relations) → Kept T from_first (opening T R) (first R ∷ [])
  unfolding opening
  opening_kept R = record {
    some = omega arith;
    now = refl;
    begun = λ t. omega arith;
    together = λ k n _ _ _ _ _. refl;
    tables = since_worked T good from_first γ 0 (λ t. omega arith) G (λ l a b _ _. refl) (λ t a b. false) prevs sinces T.entries (omega arith);
    unused = λ t a b h. since_untouched T G T.entries (λ t a b. false) t h a b;
  }
    where
      γ : Record
      γ = record_of T (first R ∷ [])

      G : Graph
      G = graph T (first R)

      prevs : (k : ℕ) → k < T.entries → (T.entry k).op ≡ 6 → SameAt T.members (columns (formula T k)) (λ a b. false) (meant T from_first γ 0 k)
      prevs k l e a b _ =
          sym (prev_start T.members from_first γ (number T.entry k) (below T.entry k (T.entry k).a) (standing (formula T k) a b) (member (formula T k) a) 0 (omega arith))
          ∙ ap (λ φ. holds T.members from_first γ φ 0 (standing (formula T k) a b) (member (formula T k) a)) (sym (spelled_prev T.entry k e))

      sinces : (k : ℕ) → k < T.entries → (T.entry k).op ≡ 7 → SameAt T.members (columns (formula T k)) (λ a b. false) (meant_before T from_first γ 0 k)
      sinces k l e a b _ = sym (prev_start T.members from_first γ (number T.entry k) (formula T k) (standing (formula T k) a b) (member (formula T k) a) 0 (omega arith))
