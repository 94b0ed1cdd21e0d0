-- The steps from one moment to the next over the lent memory: each turn of the sweeps and of the
-- effects, and what the loops come to.
use Prim.Native.Nat.{ℕ, zero, suc, ◌+◌, ◌-◌, ◌*◌, ◌/◌, ◌%◌, ◌≤◌, ◌<◌}
use native.Mathlib.Omega.{arith}
use native.Mathlib.Numerals.{add-one}
use mathlib.Core.Path.{◌≡◌, refl, sym, ap, subst, ◌∙◌}
use mathlib.Core.List.{List, [], ◌∷◌}
use mathlib.Core.Bool.{Bool, true, false, cond}
use lib.Dec.{eqb, ltb}
use lib.ListN.{length, get_or, drop, set}
use borrow.Author.Tests.{eq-eqb, ne_eqb}
use Rattle.sets.specs.Sets.{bit}
use Rattle.theory.specs.Formula.{number, is_past, columns}
use Rattle.theory.specs.Meaning.{assign}
use Rattle.theory.specs.Terms.{Terms, Effect, formula}
use Rattle.theory.specs.Moment.{Relations, graph, affect, affect_all}
use Rattle.theory.specs.Moment.Event.{happened, tried}
use Rattle.memory.specs.Layout.{terms_words, state_words, own_words, relation_at, effect_at, effects_from, event_at, event_of, terms_of, state_of}
use Rattle.theory.specs.Terms.{tables}
use Rattle.memory.specs.Checks.{good_memory, good_event, state_tests, good_state}
use Rattle.theory.specs.Tables.{named, Tables, State, holds_now, decide_now, prev_bits, since_bits, prev_step, prev_tables, since_tables, made, advance}
use Rattle.theory.specs.Fit.{Good, Within, more}
use Rattle.memory.specs.TableIndex.{index_table, Indexed}
use Rattle.deciding.specs.private.Rows.{Ready, Table, now_at, next_prev, next_since}
use Rattle.deciding.specs.private.Moving.{known, HasState, Movable, Becomes, put, tabled, edged, prev_at, prev_moved, effect_of, affected, all_affected, evented, entered, since_at, since_below, since_moved}
use Rattle.theory.proofs.Unfolding.{number_lt}
use Rattle.theory.proofs.Good.{every_at}
use Rattle.memory.proofs.Accepted.{good}
use Rattle.theory.proofs.Places.{among_assign}
use Rattle.theory.proofs.Past.{past_is}
use Rattle.theory.proofs.MeaningNow.{SameAt}
use Rattle.memory.proofs.Words.{canonical}
use Rattle.deciding.proofs.SameDecision.{has_long, ready, relations_of, past_of, seen, seen_prev, seen_since, Named}
use Rattle.deciding.proofs.Stored.{table_stored, edge_stored}

-- Memory that keeps the layout has the state that it holds.
known_event : (T : Terms) (w : ℕ) → good_event T w ≡ true → known T (event_of w) ≡ true
known_event T zero e = refl
known_event T (suc n) e = go (ltb (n / 4096) 16) e
  where
    go : (c : Bool) → named T (cond c (n / 4096) (n / 4096 - 16)) (n / 64 % 64) (n % 64) ≡ true →
        known T (cond c (happened (n / 4096) (n / 64 % 64) (n % 64)) (tried (n / 4096 - 16) (n / 64 % 64) (n % 64))) ≡ true
    go true e = e
    go false e = e

pub held : (T : Terms) → T.members < 65 → (m : List ℕ) → state_words ≤ length m → good_state T m ≡ true → HasState T (state_of m) (drop state_words m) m
unfolding good_state state_of
held T few m long g = record {
  words = canonical T few m long g;
  event = known_event T (get_or m event_at 0) (every_at (state_tests T m) g 3);
}

pub movable : (terms index m : List ℕ) → terms_words ≤ length terms → good_memory terms ≡ true → Indexed (terms_of terms) index →
    state_words ≤ length m → good_state (terms_of terms) m ≡ true → Movable terms index m
movable terms index m lt g p lm s = record {
  long_terms = lt;
  good = g;
  indexed = p;
  state = state_of m;
  rest = drop state_words m;
  has = held (terms_of terms) (good terms g).few_members m lm s;
}

module _ {terms index m : List ℕ} (c : Movable terms index m) where
  pub fine : Good (terms_of terms)
  fine = good terms c.good

  pub long : state_words ≤ length m
  long = has_long c.has

  pub readied : Ready terms index (relations_of m) (past_of m)
  readied = ready terms index fine c.has c.long_terms c.good c.indexed

  has_moved : {S : State} {rest m' : List ℕ} → HasState (terms_of terms) S rest m' → Movable terms index m'
  has_moved {S} {rest} has =
      record { long_terms = c.long_terms; good = c.good; indexed = c.indexed; state = S; rest = rest; has = has }

  pub moved : {m' : List ℕ} {f : Terms → State → State} → Becomes terms f m m' → Movable terms index m'
  moved b = has_moved (b.each c.state c.rest c.has)

-- An entry asked of the two parts.
pub asked : (T : Terms) → Good T → (m : List ℕ) → state_words ≤ length m → good_state T m ≡ true → (n u v : ℕ) → n < T.entries → u < T.members → v < T.members →
    now_at T (relations_of m) (past_of m) (assign (λ x. 0) 0 v) n u
    ≡ holds_now T.members (graph T (state_of m).now) (state_of m).table (formula T n) (assign (λ x. 0) 0 v) u
asked T fine m long g n u v nl ul vl =
    seen T fine (held T fine.few_members m long g) (assign (λ x. 0) 0 v) n u nl (among_assign T.members (λ x. 0) 0 v (λ x. fine.some_member) vl) ul

-- And the policy that a request asks.
pub granted : (T : Terms) → Good T → (m : List ℕ) → state_words ≤ length m → good_state T m ≡ true → (j u v : ℕ) → Named T j u v →
    {i : ℕ} {r : Bool} → i ≡ T.policy j → r ≡ now_at T (relations_of m) (past_of m) (assign (λ x. 0) 0 v) i u → r ≡ decide_now T (state_of m) j u v
granted T fine m long g j u v n p h =
    h ∙ ap (λ i. now_at T (relations_of m) (past_of m) (assign (λ x. 0) 0 v) i u) p
    ∙ asked T fine m long g (T.policy j) u v (fine.policy_exists j n.event) n.from n.to

-- ---- one turn of each sweep

module _ {terms index m : List ℕ} (c : Movable terms index m) (n : ℕ) (nl : n < (terms_of terms).entries) where
  abbrev T : Terms
  T = terms_of terms

  abbrev place : ℕ
  place = 1024 + 64 * index_table (get_or index n 0)

  module _ (past : is_past (T.entry n).op ≡ true) where
    there : number T.entry n < tables T
    there = number_lt T.entry n T.entries nl past

    -- Its place in a bank's own words.
    pub own_fits : 64 * index_table (get_or index n 0) + 64 ≤ own_words
    own_fits = rw (c.indexed.table n nl past).0 (omega (arith, there, (fine c).few_tables))

  pub prev_stays : ((T.entry n).op ≡ 6 → ⊥) → Becomes terms (prev_at n) m m
  prev_stays h = record { each = λ S rest has. rw (ne_eqb (T.entry n).op 6 h) has }

  pub since_stays : ((T.entry n).op ≡ 7 → ⊥) → Becomes terms (since_at n) m m
  since_stays h = record { each = λ S rest has. rw (ne_eqb (T.entry n).op 7 h) has }

  module _ (vs : List ℕ) {m' : List ℕ} (e : m' ≡ put place vs m) where
    pub prev_turned : (T.entry n).op ≡ 6 → Table T.members (columns (formula T n)) (next_prev T (relations_of m) (past_of m) n) vs → Becomes terms (prev_at n) m m'
    prev_turned o new = record {
      each = λ S rest has. rw (e, (c.indexed.table n nl (rw o)).0, eq-eqb (T.entry n).op 6 o)
          (table_stored T (fine c) has (number T.entry n) (there (rw o)) (next_prev T (relations_of m) (past_of m) n)
          (prev_bits T (graph T S.now) n S.table) (subst (λ j. SameAt T.members (columns (formula T j)) (next_prev T (relations_of m) (past_of m) n) (prev_bits T (graph T S.now) n S.table)) (sym (past_is T n nl (rw o))) (seen_prev T (fine c) has n nl o)) vs
          (subst (λ j. Table T.members (columns (formula T j)) (next_prev T (relations_of m) (past_of m) n) vs) (sym (past_is T n nl (rw o))) new));
    }

    pub since_turned : (T.entry n).op ≡ 7 → Table T.members (columns (formula T n)) (next_since T (relations_of m) (past_of m) n) vs → Becomes terms (since_at n) m m'
    since_turned o new = record {
      each = λ S rest has. rw (e, (c.indexed.table n nl (rw o)).0, eq-eqb (T.entry n).op 7 o)
          (table_stored T (fine c) has (number T.entry n) (there (rw o)) (next_since T (relations_of m) (past_of m) n)
          (since_bits T (graph T S.now) n S.table) (subst (λ j. SameAt T.members (columns (formula T j)) (next_since T (relations_of m) (past_of m) n) (since_bits T (graph T S.now) n S.table)) (sym (past_is T n nl (rw o))) (seen_since T (fine c) has n nl o)) vs
          (subst (λ j. Table T.members (columns (formula T j)) (next_since T (relations_of m) (past_of m) n) vs) (sym (past_is T n nl (rw o))) new));
    }

-- ---- the sweeps

-- The prev tables from entry n up are moved: the sweep below n is what is left of the whole.
pub record Downward (terms : List ℕ) (n : ℕ) (m₀ m : List ℕ) : Type 0 where
  pub each : (S : State) (rest : List ℕ) → HasState (terms_of terms) S rest m₀ → (X : Tables) × HasState (terms_of terms) (tabled S X) rest m
      × (prev_tables (terms_of terms) (graph (terms_of terms) S.now) n X ≡ (prev_moved (terms_of terms) S).table)

pub down_movable : {n : ℕ} {terms index m₀ m : List ℕ} → Movable terms index m₀ → Downward terms n m₀ m → Movable terms index m
down_movable c d = has_moved c (d.each c.state c.rest c.has).1

module _ {w m₀ : List ℕ} where
  pub downward : Downward w (terms_of w).entries m₀ m₀
  downward = record { each = λ S rest has. (S.table, has, refl) }

  pub down_more : {m m' : List ℕ} (n k : ℕ) → n ≡ suc k → Downward w n m₀ m → Becomes w (prev_at k) m m' → Downward w k m₀ m'
  unfolding prev_tables
  down_more n k e d b = record {
    each = λ S rest has.
        let x = d.each S rest has in
        let G = graph (terms_of w) S.now in
        (prev_step (terms_of w) G k x.0, b.each (tabled S x.0) rest x.1, sym (ap (λ n. prev_tables (terms_of w) G n x.0) e) ∙ x.2);
  }

  pub down_all : {m : List ℕ} → Downward w 0 m₀ m → Becomes w prev_moved m₀ m
  unfolding prev_tables
  down_all {m} d =
      record { each = λ S rest has. let x = d.each S rest has in subst (λ X. HasState (terms_of w) (tabled S X) rest m) x.2 x.1 }

  pub upward : Becomes w (since_below 0) m₀ m₀
  unfolding since_tables
  upward = record { each = λ S rest has. has }

  pub up_more : {m m' : List ℕ} (n : ℕ) → Becomes w (since_below n) m₀ m → Becomes w (since_at n) m m' → Becomes w (since_below (n + 1)) m₀ m'
  unfolding since_tables
  up_more n d b = rw (add-one n) (record { each = λ S rest has. b.each (since_below n (terms_of w) S) rest (d.each S rest has) })

  pub up_all : {m : List ℕ} (n : ℕ) → n ≡ (terms_of w).entries → Becomes w (since_below n) m₀ m → Becomes w since_moved m₀ m
  up_all {m} n e d =
      record { each = λ S rest has. subst (λ k. HasState (terms_of w) (since_below k (terms_of w) S) rest m) e (d.each S rest has) }

-- ---- the effects

-- One effect: r is the word of the edge's member, with the edge added or deleted.
pub end_member : (N : ℕ) (c : Bool) {x y : ℕ} → x < N → y < N → cond c x y < N
end_member N true p q = p
end_member N false p q = q

module _ (w : List ℕ) (g : Good (terms_of w)) (at u v : ℕ) (kl : get_or w (at + 1) 0 < (terms_of w).relations)
    (ul : u < (terms_of w).members) (vl : v < (terms_of w).members) (m : List ℕ) (r : ℕ) where
  abbrev e : Effect
  e = effect_of w at

  pub effect_made : ((b : ℕ) → bit r b ≡ cond (eqb b (cond e.back u v)) e.adds (bit (get_or m (relation_at e.relation (cond e.back v u)) 0) b)) →
      Becomes w (affected u v e) m (set m (relation_at e.relation (cond e.back v u)) r)
  effect_made bits = record {
    each = λ S rest has.
        edge_stored (terms_of w) g has e.adds e.relation (cond e.back v u) (cond e.back u v) kl
        (end_member (terms_of w).members e.back vl ul) (end_member (terms_of w).members e.back ul vl) r bits;
  }

-- The effects before number i are made, and those from i on are what is left of the whole.
pub record Effecting (w : List ℕ) (j u v i : ℕ) (m₀ m : List ℕ) : Type 0 where
  pub within : Within (terms_of w).relations (effects_from w (effect_at j i) (4 - i))
  pub each : (S : State) (rest : List ℕ) → HasState (terms_of w) S rest m₀ → (R : Relations) × HasState (terms_of w) (edged S R) rest m
      × (affect_all u v (effects_from w (effect_at j i) (4 - i)) R ≡ affect_all u v ((terms_of w).effects j) S.now.edge)

-- Effect number i, where there is one, and those after it.
here : (w : List ℕ) (j i : ℕ) → i < 4 → (get_or w (effect_at j i) 0 ≡ 0 → ⊥) →
    effects_from w (effect_at j i) (4 - i) ≡ effect_of w (effect_at j i) ∷ effects_from w (effect_at j (i + 1)) (4 - (i + 1))
unfolding effects_from
here w j i l h =
    let left : 4 - i ≡ suc (4 - (i + 1)) = omega arith in
    let next : effect_at j i + 3 ≡ effect_at j (i + 1) = omega arith in
    rw (left, ne_eqb (get_or w (effect_at j i) 0) 0 h, next)

head : {r : ℕ} {e : Effect} {es : List Effect} → Within r (e ∷ es) → (e.relation < r) × Within r es
head (more l ws) = (l, ws)

module _ {w : List ℕ} {j u v : ℕ} {m₀ : List ℕ} where
  pub effecting : Good (terms_of w) → j < (terms_of w).events → Effecting w j u v 0 m₀ m₀
  unfolding terms_of
  effecting fine l = record { within = fine.effects j l; each = λ S rest has. (S.now.edge, has, refl) }

  module _ {m : List ℕ} (i : ℕ) (l : i < 4) (h : get_or w (effect_at j i) 0 ≡ 0 → ⊥) (f : Effecting w j u v i m₀ m) where
    pub effect_relation : get_or w (effect_at j i + 1) 0 < (terms_of w).relations
    effect_relation = (head (rw (here w j i l h) at f.within)).0

    pub effect_more : {m' : List ℕ} → Becomes w (affected u v (effect_of w (effect_at j i))) m m' → Effecting w j u v (i + 1) m₀ m'
    unfolding affect_all
    effect_more b = record {
      within = (head (rw (here w j i l h) at f.within)).1;
      each = λ S rest has.
          let x = f.each S rest has in (
            affect u v (effect_of w (effect_at j i)) x.0,
            b.each (edged S x.0) rest x.1,
            sym (ap (λ es. affect_all u v es x.0) (here w j i l h)) ∙ x.2,
          );
    }

  module _ {m : List ℕ} (i : ℕ) (f : Effecting w j u v i m₀ m) where
    all_made : effects_from w (effect_at j i) (4 - i) ≡ [] → Becomes w (all_affected j u v) m₀ m
    unfolding affect_all
    all_made e = record {
      each = λ S rest has.
          let x = f.each S rest has in
          subst (λ R. HasState (terms_of w) (edged S R) rest m) (sym (ap (λ es. affect_all u v es x.0) e) ∙ x.2) x.1;
    }

    pub four_made : 4 ≤ i → Becomes w (all_affected j u v) m₀ m
    unfolding effects_from
    four_made l = let left : 4 - i ≡ 0 = omega arith in all_made (rw left)

    pub fewer_made : i < 4 → get_or w (effect_at j i) 0 ≡ 0 → Becomes w (all_affected j u v) m₀ m
    unfolding effects_from
    fewer_made l e = let left : 4 - i ≡ suc (3 - i) = omega arith in all_made (rw (left, e))

-- The moment of a grant and of a kept denial.
pub entered_granted : {terms m m₁ m₂ : List ℕ} {g : Bool} (j u v : ℕ) → g ≡ true → Becomes terms (all_affected j u v) m m₁
    → Becomes terms (evented (happened j u v)) m₁ m₂ → Becomes terms (entered g j u v) m m₂
entered_granted {terms} {m} {m₁} {m₂} j u v e p q =
    subst (λ (c : Bool). Becomes terms (entered c j u v) m m₂) (sym e) (record { each = λ S rest has. q.each _ rest (p.each S rest has) })

pub entered_denied : {terms m m₁ : List ℕ} {g : Bool} (j u v : ℕ) → g ≡ false → Becomes terms (evented (tried j u v)) m m₁
    → Becomes terms (entered g j u v) m m₁
entered_denied {terms} {m} {m₁} j u v e q = subst (λ (c : Bool). Becomes terms (entered c j u v) m m₁) (sym e) (record { each = λ S rest has. q.each S rest has })

-- The steps to the next moment.
pub stepped : {terms m m₁ m₂ m₃ : List ℕ} (g : Bool) (j u v : ℕ) → Becomes terms prev_moved m m₁ → Becomes terms (entered g j u v) m₁ m₂ → Becomes terms since_moved m₂ m₃
    → Becomes terms (λ T S. advance T S (made T S.now g j u v)) m m₃
unfolding advance
stepped {terms} {m} {m₁} {m₂} {m₃} g j u v p q r = record { each = λ S rest has. r.each _ rest (q.each _ rest (p.each S rest has)) }
