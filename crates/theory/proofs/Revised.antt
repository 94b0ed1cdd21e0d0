-- New terms while playing: the state that they begin with is kept.
use Prim.Native.Nat.{ℕ, zero, suc, ◌-◌, ◌≤◌, ◌<◌}
use native.Mathlib.Omega.{arith}
use mathlib.Core.Path.{◌≡◌, refl, sym, ap, ap₂, ◌∙◌, subst}
use mathlib.Core.List.{List}
use mathlib.Core.Logic.{◌⊎◌, inl, inr}
use mathlib.Core.Bool.{Bool, true, false, cond, ◌&&◌, ◌||◌}
use lib.Dec.{eqb, ltb}
use lib.ListN.{get_or}
use borrow.Author.Tests.{eqb-true, ne_eqb, ltb-true}
use Rattle.sets.proofs.Finite.{last_or_below}
use Rattle.theory.specs.Formula.{Formula, number, below, is_past, bare, columns}
use Rattle.theory.specs.Meaning.{Graph, Record, Starts, Assignment, holds}
use Rattle.theory.specs.Columns.{inside, member_at, standing_at, standing, member}
use Rattle.theory.specs.Terms.{Terms, formula, past_entry, first_same}
use Rattle.theory.specs.Moment.{Moment, event_edge, graph, first}
use Rattle.theory.specs.Keeper.{Book, record_of, last, revised_start}
use Rattle.theory.specs.Tables.{Tables, operand_now, since_bits, State, taken, start_bits, start_step, start_tables, revised}
use Rattle.theory.specs.Fit.{Good}
use Rattle.theory.proofs.Unfolding.{or_cases, number_le, number_lt, spelled_prev, spelled_since, table_spelled, visible_below}
use Rattle.theory.proofs.Good.{column_free}
use Rattle.theory.proofs.Record.{prev_start, since_start}
use Rattle.theory.proofs.Places.{inside_among, inside_member}
use Rattle.theory.proofs.MeaningNow.{Same, SameAt, Right, now_holds}
use Rattle.theory.proofs.Sweeps.{stored, untouched, meant}
use Rattle.theory.proofs.Renumbered.{columns_bare, past_same}
use Rattle.theory.proofs.RunInvariant.{Together, Kept}
use Rattle.theory.proofs.CarriedOver.{first_cong, first_has, start_new, taken_meaning}

module _ (T : Terms) (S : State) (U : Terms) where
  pub start_untouched : (n : ℕ) (X : Tables) (t : ℕ) → number U.entry n ≤ t → (a b : ℕ) → start_tables T S U n X t a b ≡ X t a b
  unfolding start_tables
  start_untouched zero X t h a b = refl
  start_untouched (suc n) X t h a b =
      untouched (number U.entry n) (start_bits T S U n (start_tables T S U n X)) (start_tables T S U n X) (is_past (U.entry n).op) t
      (λ p z. omega (arith, number_lt U.entry n (suc n) (omega arith) p)) a b
      ∙ start_untouched n X t (omega (arith, number_le U.entry n (suc n) (omega arith))) a b

module _ (B : Book) (S : State) (kept : Kept B.terms B.start S B.moments) (U : Terms) (good : Good U)
    (em : B.terms.members ≡ U.members) (er : B.terms.relations ≡ U.relations) (ee : B.terms.events ≡ U.events)
  where
    abbrev T : Terms
    T = B.terms

    abbrev s : Starts
    s = revised_start B U

    abbrev i : ℕ
    i = last B.moments

    abbrev γ : Record
    γ = record_of U B.moments

    abbrev G : Graph
    G = graph U S.now

    same_record : record_of T B.moments ≡ γ
    same_record = λ d j l a b. let M = get_or B.moments j (first (λ k a b. false)) in cond (ltb l (er d)) (M.edge l a b) (event_edge (ee d) M.event (l - er d) a b)

    now_same : (l : ℕ) → Same U.members (G l) (γ i l)
    now_same l a b _ _ = ap (λ (M : Moment). graph U M l a b) kept.now

    -- Each start is one that was, or now.
    revised_begun : (t : ℕ) → s t ≤ i
    revised_begun t = let k : ℕ = first_same T (formula U (past_entry U t)) in go (ltb k T.entries) (number T.entry k)
      where
        go : (c : Bool) (t : ℕ) → cond c (B.start t) i ≤ i
        go true t = kept.begun t
        go false t = omega arith

    -- The bits of one entry, from right tables of the lower ones.
    module _ (n : ℕ) (nl : n < U.entries) (p : is_past (U.entry n).op ≡ true) (X : Tables)
        (lower : (j : ℕ) → j < n → is_past (U.entry j).op ≡ true → Right U.members s γ i X (formula U j)) (a b : ℕ) (z : inside U.members (columns (formula U n)) a b ≡ true)
      where
        abbrev k : ℕ
        k = taken T S U n

        abbrev φ : Formula
        φ = formula U n

        over : ltb k T.entries ≡ true → S.table (number T.entry k) a b ≡ meant U s γ i n a b
        over c =
            let kl : k < T.entries = ltb-true k T.entries c in
            let e : bare (formula T k) ≡ bare φ = first_has T φ kl in
            let cs : columns (formula T k) ≡ columns φ = columns_bare (formula T k) φ e in
            let g : Assignment = standing (formula T k) a b in
            let m : ℕ = member (formula T k) a in
            kept.tables k kl (past_same T.entry U.entry k n e ∙ p) a b (ap₂ (λ (N : ℕ) (xs : List ℕ). inside N xs a b) em cs ∙ z)
            ∙ ap₂ (λ (N : ℕ) (δ : Record). holds N B.start δ (formula T k) i g m) em same_record
            ∙ sym (taken_meaning B U U.members γ kept.together n k nl kl (sym e) i g m)
            ∙ ap (λ (xs : List ℕ). holds U.members s γ φ i (standing_at xs a b) (member_at xs a)) cs

        starts_now : ltb k T.entries ≡ false → i ≡ s (number U.entry n)
        starts_now c = sym (start_new B U n nl p ∙ ap (λ (d : Bool). cond d (B.start (number T.entry k)) i) c)

        anew : ltb k T.entries ≡ false → eqb (U.entry n).op 7 && operand_now U G n (U.entry n).b X a b ≡ meant U s γ i n a b
        anew c =
            let t : ℕ = number U.entry n in
            let f : Formula = below U.entry n (U.entry n).a in
            let h : Formula = below U.entry n (U.entry n).b in
            let g : Assignment = standing φ a b in
            let m : ℕ = member φ a in
            or_cases (eqb (U.entry n).op 6) (eqb (U.entry n).op 7) p
            (λ q. let six : (U.entry n).op ≡ 6 = eqb-true (U.entry n).op 6 q in
            ap (λ (d : Bool). d && operand_now U G n (U.entry n).b X a b) (ne_eqb (U.entry n).op 7 (λ z. omega arith))
            ∙ sym (prev_start U.members s γ t f g m i (omega (arith, starts_now c)))
            ∙ ap (λ (ψ : Formula). holds U.members s γ ψ i g m) (sym (spelled_prev U.entry n six)))
            (λ q. let seven : (U.entry n).op ≡ 7 = eqb-true (U.entry n).op 7 q in
            ap (λ (d : Bool). d && operand_now U G n (U.entry n).b X a b) q
            ∙ now_holds U.members G X s γ i now_same h g m (inside_among U.members (columns φ) a b z) (inside_member U.members (columns φ) a b z)
            (visible_below U.entry (Right U.members s γ i X) n lower (U.entry n).b)
            ∙ sym (since_start U.members s γ t f h g m i (starts_now c))
            ∙ ap (λ (ψ : Formula). holds U.members s γ ψ i g m) (sym (spelled_since U.entry n seven)))

        start-bits : start_bits T S U n X a b ≡ meant U s γ i n a b
        start-bits = go (ltb k T.entries) refl
          where
            go : (c : Bool) → ltb k T.entries ≡ c →
                cond c (S.table (number T.entry k) a b) (eqb (U.entry n).op 7 && operand_now U G n (U.entry n).b X a b) ≡ meant U s γ i n a b
            go true c = over c
            go false c = anew c

    start_worked : (n : ℕ) → n ≤ U.entries → (k : ℕ) → k < n → is_past (U.entry k).op ≡ true →
        SameAt U.members (columns (formula U k)) (start_tables T S U n (λ t a b. false) (number U.entry k)) (meant U s γ i k)
    unfolding start_tables
    start_worked zero le k h p a b z = absurd (omega arith)
    start_worked (suc n) le k h p a b z = go (start_worked n (omega arith)) (last_or_below k n h)
      where
        Y : Tables
        Y = start_tables T S U n (λ t a b. false)

        Done : Type 0
        Done = (k : ℕ) → k < n → is_past (U.entry k).op ≡ true → SameAt U.members (columns (formula U k)) (Y (number U.entry k)) (meant U s γ i k)

        lower : Done → (j : ℕ) → j < n → is_past (U.entry j).op ≡ true → Right U.members s γ i Y (formula U j)
        lower ih j jl q = record {
          fit = (good.entry j (omega arith)).columns-fit q;
          all = column_free U good j (omega arith);
          bits = rw (table_spelled U.entry j q) (ih j jl q);
        }

        go : Done → (k < n) ⊎ (k ≡ n) → start_step T S U n Y (number U.entry k) a b ≡ meant U s γ i k a b
        go ih (inl kl) =
            untouched (number U.entry n) (start_bits T S U n Y) Y (is_past (U.entry n).op) (number U.entry k)
            (λ _ y. omega (arith, number_lt U.entry k n kl p)) a b
            ∙ ih k kl p a b z
        go ih (inr kn) =
            subst (λ j. inside U.members (columns (formula U j)) a b ≡ true → is_past (U.entry j).op ≡ true →
            start_step T S U n Y (number U.entry j) a b ≡ meant U s γ i j a b) (sym kn)
            (λ y q. stored (number U.entry n) (start_bits T S U n Y) Y (is_past (U.entry n).op) q a b
            ∙ start-bits n le q Y (lower ih) a b y)
            z p

    -- Two new entries with the same formula take from the same old one.
    revised_together : Together U s
    revised_together k n kl nl p q e =
        start_new B U k kl p
        ∙ ap (λ (j : ℕ). cond (ltb j T.entries) (B.start (number T.entry j)) i) (first_cong T (formula U k) (formula U n) e)
        ∙ sym (start_new B U n nl q)

    pub revised_kept : Kept U (revised_start B U) (revised T S U) B.moments
    unfolding revised
    revised_kept = record {
      some = kept.some;
      now = kept.now;
      begun = revised_begun;
      together = revised_together;
      tables = start_worked U.entries (omega arith);
      unused = λ t a b h. start_untouched T S U U.entries (λ t a b. false) t h a b;
    }

-- For the program: what works out a since table gives the table that a new since begins with,
-- where its own table is still 0.
pub start_since : (U : Terms) (G : Graph) (n : ℕ) (X : Tables) (a b : ℕ) → X (number U.entry n) a b ≡ false →
    since_bits U G n X a b ≡ operand_now U G n (U.entry n).b X a b
start_since U G n X a b e =
    ap (λ (x : Bool). operand_now U G n (U.entry n).b X a b || (operand_now U G n (U.entry n).a X a b && x)) e
    ∙ go (operand_now U G n (U.entry n).b X a b) (operand_now U G n (U.entry n).a X a b)
  where
    go : (x y : Bool) → x || (y && false) ≡ x
    go true y = refl
    go false true = refl
    go false false = refl
