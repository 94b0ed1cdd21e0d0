-- Terms that agree as far as they count entries and events: whatever reads terms reads the same in both.
use Prim.Native.Nat.{ℕ, zero, suc, ◌≤◌, ◌<◌}
use native.Mathlib.Omega.{arith}
use mathlib.Core.Path.{◌≡◌, refl, sym, ap, ap₂, subst, ◌∙◌, fun_ext}
use mathlib.Core.Bool.{Bool, true, false, cond, not, ◌&&◌, ◌||◌}
use mathlib.Core.List.{List, [], ◌∷◌, ◌++◌}
use lib.Dec.{eqb, ltb, leb}
use borrow.Author.Tests.{ltb-true, leb-false}
use Rattle.theory.specs.Formula.{Formula, Entry, node, first_operand, second_operand, third_operand, is_past, number, below, spelled, highest, bare, same, columns}
use Rattle.theory.specs.Meaning.{Graph, Starts, holds}
use Rattle.theory.specs.Columns.{columns_fit, standing, member, inside}
use Rattle.theory.specs.Terms.{Terms, Effect, labels, formula}
use Rattle.theory.specs.Moment.{Moment, graph, affect_all, denied}
use Rattle.theory.specs.Moment.Event.{happened}
use Rattle.theory.specs.Limits.{scratch_words}
use Rattle.theory.specs.Keeper.{Call, Answer, Book, record_of, last, last_moment, target, judge, keep, keep_all, revised_start}
use Rattle.theory.specs.Keeper.Verdict.{grant, deny}
use Rattle.theory.specs.Keeper.Answer.{decided, refused}
use Rattle.theory.specs.Terms.{past_entry, first_same, same_size, Alike}
use Rattle.theory.specs.Fit.{operand_fits, only_free, reach_fits, Good, GoodEntry, Within}
use Rattle.theory.specs.Tables.{Tables, State, store, holds_now, operand_now, since_tables, start_bits, start_step, start_tables, revised}
use Rattle.theory.proofs.Good.{second_lower, third_lower}
use Rattle.theory.proofs.RunInvariant.{Kept}
use Rattle.theory.proofs.Lowest.{lowest_cong}

-- ---- tables of entries that agree: the formula of an entry depends on the entries up to it

module _ (g h : ℕ → Entry) where
  pub number_agree : (n : ℕ) → ((k : ℕ) → k < n → g k ≡ h k) → number g n ≡ number h n
  unfolding number
  number_agree zero e = refl
  number_agree (suc n) e =
      ap₂ (λ (x : Entry) (m : ℕ). cond (is_past x.op) (suc m) m) (e n (omega arith)) (number_agree n (λ k l. e k (omega arith)))

  pub below_agree : (n : ℕ) → ((k : ℕ) → k < n → g k ≡ h k) → below g n ≡ below h n
  unfolding below
  below_agree zero e = refl
  below_agree (suc n) e =
      let p = number_agree n (λ k l. e k (omega arith)) in
      let q = below_agree n (λ k l. e k (omega arith)) in
      let r = e n (omega arith) in
      λ i k. elim (eqb k n) [ true ↦ node (p i) (q i) (r i).op (r i).a (r i).b (r i).c | false ↦ q i k ]

  pub spelled_agree : (n : ℕ) → ((k : ℕ) → k ≤ n → g k ≡ h k) → spelled g n ≡ spelled h n
  unfolding spelled
  spelled_agree n e =
      let p = number_agree n (λ k l. e k (omega arith)) in
      let q = below_agree n (λ k l. e k (omega arith)) in
      let r = e n (omega arith) in
      λ i. node (p i) (q i) (r i).op (r i).a (r i).b (r i).c

-- ---- terms

highest_alike : (n : ℕ) {p q : ℕ → Bool} → ((k : ℕ) → k < n → p k ≡ q k) → highest n p ≡ highest n q
unfolding highest
highest_alike zero h = refl
highest_alike (suc n) h = ap₂ (λ c k. cond c n k) (h n (omega arith)) (highest_alike n (λ k l. h k (omega arith)))

-- ---- terms with the counts of T, alike

-- The counts of T with what U says of each entry and event.
abbrev pub met : Terms → Terms → Terms
met T U = record {
  members = T.members;
  relations = T.relations;
  events = T.events;
  entries = T.entries;
  entry = U.entry;
  policy = U.policy;
  effects = U.effects;
  kept = U.kept;
}

module _ (T U : Terms) (a : Alike T U) where
  pub met-is : met T U ≡ U
  met-is = λ d. record {
    members = a.members d;
    relations = a.relations d;
    events = a.events d;
    entries = a.entries d;
    entry = U.entry;
    policy = U.policy;
    effects = U.effects;
    kept = U.kept;
  }

  abbrev W : Terms
  W = met T U

  pub same_number : (n : ℕ) → n ≤ T.entries → number T.entry n ≡ number W.entry n
  same_number n l = number_agree T.entry W.entry n (λ k h. a.entry k (omega arith))

  same_below : (n : ℕ) → n ≤ T.entries → below T.entry n ≡ below W.entry n
  same_below n l = below_agree T.entry W.entry n (λ k h. a.entry k (omega arith))

  pub same_formula : (n : ℕ) → n < T.entries → formula T n ≡ formula W n
  same_formula n l = spelled_agree T.entry W.entry n (λ k h. a.entry k (omega arith))

  same_policy : Good T → (j : ℕ) → j < T.events → formula T (T.policy j) ≡ formula W (W.policy j)
  same_policy g j l = same_formula (T.policy j) (g.policy_exists j l) ∙ ap (formula W) (a.policy j l)

  -- ---- goodness

  good_met : Good T → Good W
  good_met g = record {
    some_member = g.some_member;
    few_members = g.few_members;
    few_relations = g.few_relations;
    some_event = g.some_event;
    few_events = g.few_events;
    few_entries = g.few_entries;
    few_tables = subst (λ n. n < 33) (same_number T.entries (omega arith)) g.few_tables;
    entry = λ n l. entry n l (g.entry n l);
    policy_exists = λ j l. subst (λ n. n < T.entries) (a.policy j l) (g.policy_exists j l);
    policy_free = λ j l. subst (λ φ. only_free 0 φ ≡ true) (same_policy g j l) (g.policy_free j l);
    effects = λ j l. subst (Within T.relations) (a.effects j l) (g.effects j l);
  }
    where
      entry : (n : ℕ) → n < T.entries → GoodEntry T n → GoodEntry W n
      entry n l h =
          let same : T.entry n ≡ W.entry n = a.entry n l in
          record {
            known = subst (λ (e : Entry). e.op < 12) same h.known;
            first = subst (λ (e : Entry). operand_fits (first_operand e.op) (labels T) n e.a ≡ true) same h.first;
            second = subst (λ (e : Entry). operand_fits (second_operand e.op) (labels T) n e.b ≡ true) same h.second;
            third = subst (λ (e : Entry). operand_fits (third_operand e.op) (labels T) n e.c ≡ true) same h.third;
            columns-fit = λ p. subst (λ φ. columns_fit T.members (columns φ) ≡ true) (same_formula n l) (h.columns-fit (subst (λ (e : Entry). is_past e.op ≡ true) (sym same) p));
            reaches = λ p.
                let op-is : (T.entry n).op ≡ 10 = ap (λ (e : Entry). e.op) same ∙ p in
                let lb : (T.entry n).b < T.entries = (let q = second_lower h (ap second_operand op-is) in omega arith) in
                let lc : (T.entry n).c < T.entries = (let q = third_lower h (ap third_operand op-is) in omega arith) in
                subst (λ (e : Entry). reach_fits e.a (formula W e.b) (formula W e.c) ≡ true) same
                (subst (λ φ. reach_fits (T.entry n).a φ (formula W (T.entry n).c) ≡ true) (same_formula (T.entry n).b lb)
                (subst (λ φ. reach_fits (T.entry n).a (formula T (T.entry n).b) φ ≡ true) (same_formula (T.entry n).c lc) (h.reaches op-is)));
          }

  -- ---- the keeper

  judge_met : Good T → (s : Starts) (Ms : List Moment) (c : Call) → judge T s Ms c ≡ judge W s Ms c
  unfolding judge
  judge_met g s Ms c = go (leb T.events c.event) refl
    where
      -- What becomes of a call of an event with policy φ and effects es, kept or not.
      kept : Formula → List Effect → Bool → Answer × List Moment
      kept φ es k =
          cond (not (holds T.members s (record_of T Ms) φ (last Ms) (target c.to) c.from))
          (decided deny, cond (not c.look && k) (denied (last_moment Ms) c.event c.from c.to ∷ []) [])
          (cond c.look (decided grant, [])
          (decided grant, record { edge = affect_all c.from c.to es (last_moment Ms).edge; event = happened c.event c.from c.to } ∷ []))

      -- A call, where it is told whether its event is out of range, and what becomes of it if it is in range.
      called : Bool → Answer × List Moment → Answer × List Moment
      called b k = cond (ltb c.scratch scratch_words) (refused 6 0, []) (cond (b || leb T.members c.from || leb T.members c.to) (refused 9 0, []) k)

      go : (b : Bool) → leb T.events c.event ≡ b →
          called b (kept (formula T (T.policy c.event)) (T.effects c.event) (T.kept c.event))
          ≡ called b (kept (formula W (W.policy c.event)) (W.effects c.event) (W.kept c.event))
      go true e = refl
      go false e =
          let l : c.event < T.events = leb-false T.events c.event e in
          λ d. called false (kept (same_policy g c.event l d) (a.effects c.event l d) (a.kept c.event l d))

  keep_met : Good T → (s : Starts) (Ms : List Moment) (c : Call) → keep T s Ms c ≡ keep W s Ms c
  unfolding keep
  keep_met g s Ms c = ap (λ (r : Answer × List Moment). (r.0, Ms ++ r.1)) (judge_met g s Ms c)

  keep_all_met : Good T → (s : Starts) (Ms : List Moment) (cs : List Call) → keep_all T s Ms cs ≡ keep_all W s Ms cs
  unfolding keep_all
  keep_all_met g s Ms [] = refl
  keep_all_met g s Ms (c ∷ cs) =
      (λ d. ((keep_met g s Ms c d).0 ∷ (keep_all T s (keep_met g s Ms c d).1 cs).0, (keep_all T s (keep_met g s Ms c d).1 cs).1))
      ∙ (λ d. ((keep W s Ms c).0 ∷ (keep_all_met g s (keep W s Ms c).1 cs d).0, (keep_all_met g s (keep W s Ms c).1 cs d).1))

  -- ---- tables

  pub same_past : (t : ℕ) → past_entry T t ≡ past_entry W t
  same_past t = highest_alike T.entries (λ n l d. is_past (a.entry n l d).op && eqb (same_number n (omega arith) d) t)

  pub since_met : (G : Graph) (X : Tables) (n : ℕ) → n ≤ T.entries → since_tables T G n X ≡ since_tables W G n X
  unfolding since_tables
  since_met G X zero l = refl
  since_met G X (suc n) l =
      let Y : since_tables T G n X ≡ since_tables W G n X = since_met G X n (omega arith) in
      let e : T.entry n ≡ W.entry n = a.entry n l in
      let s : number T.entry n ≡ number W.entry n = same_number n (omega arith) in
      let f : below T.entry n ≡ below W.entry n = same_below n (omega arith) in
      let φ : formula T n ≡ formula W n = same_formula n l in
      λ d. cond (eqb (e d).op 7)
      (store (s d) (λ i b. holds_now T.members G (Y d) (f d (e d).b) (standing (φ d) i b) (member (φ d) i)
      || (holds_now T.members G (Y d) (f d (e d).a) (standing (φ d) i b) (member (φ d) i) && Y d (s d) i b)) (Y d))
      (Y d)

  past_back : (n : ℕ) → n < T.entries → is_past (W.entry n).op ≡ true → is_past (T.entry n).op ≡ true
  past_back n l p = ap (λ (e : Entry). is_past e.op) (a.entry n l) ∙ p

  kept_met : (s : Starts) (S : State) (Ms : List Moment) → Kept T s S Ms → Kept W s S Ms
  kept_met s S Ms kept = record {
    some = kept.some;
    now = kept.now;
    begun = kept.begun;
    together = λ k n kl nl p q e.
        ap s (sym (same_number k (omega arith)))
        ∙ kept.together k n kl nl (past_back k kl p) (past_back n nl q) (ap bare (same_formula k kl) ∙ e ∙ sym (ap bare (same_formula n nl)))
        ∙ ap s (same_number n (omega arith));
    tables = λ n l p b c i.
        ap (λ t. S.table t b c) (sym (same_number n (omega arith)))
        ∙ kept.tables n l (past_back n l p) b c (subst (λ φ. inside T.members (columns φ) b c ≡ true) (sym (same_formula n l)) i)
        ∙ (λ d. holds T.members s (record_of T Ms) (same_formula n l d) (last Ms) (standing (same_formula n l d) b c) (member (same_formula n l d) b));
    unused = λ t b c h. kept.unused t b c (subst (λ n. n ≤ t) (sym (same_number T.entries (omega arith))) h);
  }

  -- ---- the same of the terms themselves

  pub good_alike : Good T → Good U
  good_alike g = subst Good met-is (good_met g)

  pub keep_alike : Good T → (s : Starts) (Ms : List Moment) (c : Call) → keep T s Ms c ≡ keep U s Ms c
  keep_alike g s Ms c = keep_met g s Ms c ∙ ap (λ X. keep X s Ms c) met-is

  pub keep_all_alike : Good T → (s : Starts) (Ms : List Moment) (cs : List Call) → keep_all T s Ms cs ≡ keep_all U s Ms cs
  keep_all_alike g s Ms cs = keep_all_met g s Ms cs ∙ ap (λ X. keep_all X s Ms cs) met-is

  pub kept_alike : (s : Starts) (S : State) (Ms : List Moment) → Kept T s S Ms → Kept U s S Ms
  kept_alike s S Ms kept = subst (λ X. Kept X s S Ms) met-is (kept_met s S Ms kept)

  -- ---- new terms

  first_met : (φ : Formula) → first_same T φ ≡ first_same W φ
  unfolding first_same
  first_met φ = lowest_cong T.entries (λ k. same (formula T k) φ) (λ k. same (formula W k) φ) (λ k l. ap (λ (ψ : Formula). same ψ φ) (same_formula k l))

  -- What is looked up by the table of the first old entry with a formula.
  taken_met : {A : Type 0} (φ : Formula) (at : ℕ → A) (other : A) →
      cond (ltb (first_same T φ) T.entries) (at (number T.entry (first_same T φ))) other
      ≡ cond (ltb (first_same W φ) T.entries) (at (number W.entry (first_same W φ))) other
  taken_met φ at other =
      go (first_same T φ) (ltb (first_same T φ) T.entries) refl
      ∙ ap (λ (k : ℕ). cond (ltb k T.entries) (at (number W.entry k)) other) (first_met φ)
    where
      go : (k : ℕ) (c : Bool) → ltb k T.entries ≡ c →
          cond (ltb k T.entries) (at (number T.entry k)) other ≡ cond (ltb k T.entries) (at (number W.entry k)) other
      go k true e =
          let l : k < T.entries = ltb-true k T.entries e in
          ap (λ (t : ℕ). cond (ltb k T.entries) (at t) other) (same_number k (omega arith))
      go k false e = rw e

  abbrev book : Terms → Starts → List Moment → Book
  book X s Ms = record { terms = X; start = s; moments = Ms }

  pub start_alike : (s : Starts) (Ms : List Moment) (Z : Terms) → revised_start (book T s Ms) Z ≡ revised_start (book U s Ms) Z
  start_alike s Ms Z =
      fun_ext (λ t. taken_met (formula Z (past_entry Z t)) s (last Ms)) ∙ ap (λ (X : Terms). revised_start (book X s Ms) Z) met-is

  pub size_alike : (Z : Terms) → same_size T Z ≡ same_size U Z
  size_alike Z = λ d. eqb (a.members d) Z.members && (eqb (a.relations d) Z.relations && eqb (a.events d) Z.events)

  start_bits_met : (S : State) (Z : Terms) (n : ℕ) (X : Tables) → start_bits T S Z n X ≡ start_bits W S Z n X
  start_bits_met S Z n X = fun_ext (λ x. fun_ext (λ y.
      taken_met (formula Z n) (λ t. S.table t x y) (eqb (Z.entry n).op 7 && operand_now Z (graph Z S.now) n (Z.entry n).b X x y)))

  start_met : (S : State) (Z : Terms) (n : ℕ) (X : Tables) → start_tables T S Z n X ≡ start_tables W S Z n X
  unfolding start_tables
  start_met S Z zero X = refl
  start_met S Z (suc n) X =
      ap (λ (D : ℕ → ℕ → Bool). cond (is_past (Z.entry n).op) (store (number Z.entry n) D (start_tables T S Z n X)) (start_tables T S Z n X))
      (start_bits_met S Z n (start_tables T S Z n X))
      ∙ ap (start_step W S Z n) (start_met S Z n X)

  -- The state that new terms Z begin with, after terms that are alike.
  pub revised_alike : (S : State) (Z : Terms) → revised T S Z ≡ revised U S Z
  unfolding revised
  revised_alike S Z =
      ap (λ (X : Tables). record { now = S.now; table = X }) (start_met S Z Z.entries (λ t x y. false))
      ∙ ap (λ (Y : Terms). revised Y S Z) met-is

pub alike_sym : {T U : Terms} → Alike T U → Alike U T
alike_sym a = record {
  members = sym a.members;
  relations = sym a.relations;
  events = sym a.events;
  entries = sym a.entries;
  entry = λ n l. sym (a.entry n (rw a.entries l));
  policy = λ j l. sym (a.policy j (rw a.events l));
  effects = λ j l. sym (a.effects j (rw a.events l));
  kept = λ j l. sym (a.kept j (rw a.events l));
}

pub alike_trans : {T U X : Terms} → Alike T U → Alike U X → Alike T X
alike_trans a b = record {
  members = a.members ∙ b.members;
  relations = a.relations ∙ b.relations;
  events = a.events ∙ b.events;
  entries = a.entries ∙ b.entries;
  entry = λ n l. a.entry n l ∙ b.entry n (rw (sym a.entries) l);
  policy = λ j l. a.policy j l ∙ b.policy j (rw (sym a.events) l);
  effects = λ j l. a.effects j l ∙ b.effects j (rw (sym a.events) l);
  kept = λ j l. a.kept j l ∙ b.kept j (rw (sym a.events) l);
}

pub alike_refl : (T : Terms) → Alike T T
alike_refl T = record {
  members = refl;
  relations = refl;
  events = refl;
  entries = refl;
  entry = λ n l. refl;
  policy = λ j l. refl;
  effects = λ j l. refl;
  kept = λ j l. refl;
}
