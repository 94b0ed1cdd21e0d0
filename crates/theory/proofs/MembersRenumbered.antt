-- Members renumbered: the meaning over a renumbered record, the keeper's answers, and the tables.
use Prim.Native.Nat.{ℕ, suc, ◌-◌, ◌≤◌, ◌<◌}
use native.Mathlib.Omega.{arith}
use mathlib.Core.Path.{◌≡◌, refl, sym, ap, ap₂, subst, fun_ext, ◌∙◌}
use mathlib.Core.Bool.{Bool, true, false, cond, not, ◌&&◌, ◌||◌}
use mathlib.Core.List.{List, [], ◌∷◌, ◌++◌, map}
use lib.Dec.{eqb, ltb, leb}
use lib.ListN.{get_or, length-map, get_or-map}
use borrow.Author.Tests.{ltb-true, ltb-false, eq-eqb, eqb-true, le-leb, lt-leb}
use Rattle.sets.proofs.Finite.{bool_iff, any_cong, all_cong, or_left, or_right, count_cong}
use Rattle.theory.specs.Formula.{Formula, number, is_past, free, columns}
use Rattle.theory.specs.Formula.Formula.{top, var, neg, or, out, into, prev, since, bind, at, reach, many}
use Rattle.theory.specs.Meaning.{Record, Starts, Assignment, assign, alone, holds}
use Rattle.theory.specs.Columns.{standing, member, inside, word_under, bit_under}
use Rattle.theory.specs.Terms.{Terms, Effect, formula}
use Rattle.theory.specs.Moment.{Relations, Event, Moment, event_edge, graph, affect, affect_all, next, first}
use Rattle.theory.specs.Moment.Event.{none, happened, tried}
use Rattle.theory.specs.Keeper.{Call, Answer, record_of, last, last_moment, keeper_holds, target, judge, keep, keep_all}
use Rattle.theory.specs.Tables.{State, made}
use Rattle.theory.proofs.Unfolding.{EachReach}
use Rattle.theory.proofs.Good.{column_free}
use Rattle.theory.proofs.CallByTests.{unnamed, granted, answered, counted, made_by, judged, named}
use Rattle.theory.proofs.RunInvariant.{Kept}
use Rattle.theory.proofs.Past.{past_is}
use Rattle.theory.proofs.MembersPlaces.{under_inside, under_member, under_standing}
use Rattle.theory.specs.NewNumbers.{renumber_event, renumber_moment}
use Rattle.theory.specs.MembersRenumbered.{renumber_state, renumber_call, Renumbering}
use Rattle.theory.specs.Fit.{Good}
use Rattle.theory.proofs.Permuted.{Permutes, any_permuted, count_permuted}
use Rattle.theory.proofs.Regular.{Only, policy_target, regular}

pub permutes : {N : ℕ} {p q : ℕ → ℕ} → Renumbering N p q → Permutes N p q
permutes r = record { new = r.new; old = r.old; back = λ k _. r.back k; forth = λ k _. r.forth k }

module _ (N : ℕ) (p q : ℕ → ℕ) (r : Renumbering N p q) where
  same_new : (a u : ℕ) → eqb a (p u) ≡ eqb (q a) u
  same_new a u =
      bool_iff _ _
      (λ e. eq-eqb (q a) u (ap q (eqb-true a (p u) e) ∙ r.back u))
      (λ e. eq-eqb a (p u) (sym (r.forth a) ∙ ap p (eqb-true (q a) u e)))

  pub same_both : (a u : ℕ) → eqb (p a) (p u) ≡ eqb a u
  same_both a u = same_new (p a) u ∙ ap (λ x. eqb x u) (r.back a)

  same_bound : (m : ℕ) → leb N (p m) ≡ leb N m
  same_bound m = go (ltb m N) refl
    where
      go : (c : Bool) → ltb m N ≡ c → leb N (p m) ≡ leb N m
      go true e = lt-leb N (p m) (r.new m (ltb-true m N e)) ∙ sym (lt-leb N m (ltb-true m N e))
      go false e = stays (ltb (p m) N) refl
        where
          stays : (c : Bool) → ltb (p m) N ≡ c → leb N (p m) ≡ leb N m
          stays true f = absurd (let l : q (p m) < N = r.old (p m) (ltb-true (p m) N f) in let z = r.back m in let g = ltb-false m N e in omega arith)
          stays false f = le-leb N (p m) (ltb-false (p m) N f) ∙ sym (le-leb N m (ltb-false m N e))

  -- The meaning over a renumbered record, at the new number, where the free variables stand for the new numbers.
  module _ (s : Starts) (γ δ : Record) (edge : (i l a b : ℕ) → δ i l a b ≡ γ i l (q a) (q b)) where
    moved : (i l a b : ℕ) → δ i l (p a) (p b) ≡ γ i l a b
    moved i l a b = edge i l (p a) (p b) ∙ ap₂ (γ i l) (r.back a) (r.back b)

    bound : (x m y : ℕ) (g h : Assignment) (F : Bool) → F ≡ true → (not (eqb y x) && F ≡ true → h y ≡ p (g y)) →
        assign h x (p m) y ≡ p (assign g x m y)
    bound x m y g h F f e = go (eqb y x) refl
      where
        go : (c : Bool) → eqb y x ≡ c → cond c (p m) (h y) ≡ p (cond c m (g y))
        go true z = refl
        go false z = e (rw (z, f))

    pub holds_renumbered : (f : Formula) → EachReach Only f → (i : ℕ) (g h : Assignment) (m : ℕ) →
        ((x : ℕ) → free f x ≡ true → h x ≡ p (g x)) → holds N s δ f i h (p m) ≡ holds N s γ f i g m
    unfolding holds free
    holds_renumbered top w i g h m v = refl
    holds_renumbered (var x) w i g h m v = ap (eqb (p m)) (v x (eq-eqb x x refl)) ∙ same_both m (g x)
    holds_renumbered (neg f) w i g h m v = ap not (holds_renumbered f w i g h m v)
    holds_renumbered (or f k) w i g h m v =
        ap₂ ◌||◌ (holds_renumbered f w.0 i g h m (λ x e. v x (or_left (free f x) (free k x) e)))
        (holds_renumbered k w.1 i g h m (λ x e. v x (or_right (free f x) (free k x) e)))
    holds_renumbered (out l f) w i g h m v =
        sym (any_permuted (permutes r) (λ k. δ i l (p m) k && holds N s δ f i h k))
        ∙ any_cong N (λ k _. ap₂ ◌&&◌ (moved i l m k) (holds_renumbered f w i g h k v))
    holds_renumbered (into l f) w i g h m v =
        sym (any_permuted (permutes r) (λ k. δ i l k (p m) && holds N s δ f i h k))
        ∙ any_cong N (λ k _. ap₂ ◌&&◌ (moved i l k m) (holds_renumbered f w i g h k v))
    holds_renumbered (prev t f) w i g h m v = ap (λ x. ltb (s t) i && x) (holds_renumbered f w (i - 1) g h m v)
    holds_renumbered (since t f k) w i g h m v =
        any_cong (suc i) (λ j _. ap (λ x. leb (s t) j && x) (ap₂ ◌&&◌ (holds_renumbered k w.1 j g h m (λ x e. v x (or_right (free f x) (free k x) e)))
        (all_cong i (λ n _. ap (λ b. leb (suc n) j || b)
        (holds_renumbered f w.0 (suc n) g h m (λ x e. v x (or_left (free f x) (free k x) e)))))))
    holds_renumbered (bind x f) w i g h m v =
        holds_renumbered f w i (assign g x m) (assign h x (p m)) m (λ y e. bound x m y g h (free f y) e (v y))
    holds_renumbered (at x f) w i g h m v =
        ap (holds N s δ f i h) (v x (or_left (eqb x x) (free f x) (eq-eqb x x refl)))
        ∙ holds_renumbered f w i g h (g x) (λ y e. v y (or_right (eqb y x) (free f y) e))
    holds_renumbered (reach x f k) w i g h m v =
        sym (any_permuted (permutes r) (λ n. holds N s δ f i (alone x n) (p m) && holds N s δ k i h n))
        ∙ any_cong N (λ n _. ap₂ ◌&&◌
        (holds_renumbered f w.1 i (alone x n) (alone x (p n)) m (λ y e. rw (eq-eqb y x (w.0 y e))))
        (holds_renumbered k w.2 i g h n v))
    holds_renumbered (many l f c) w i g h m v =
        ap (leb c) (sym (count_permuted (permutes r) (λ k. δ i l (p m) k && holds N s δ f i h k))
        ∙ count_cong N (λ k _. ap₂ ◌&&◌ (moved i l m k) (holds_renumbered f w i g h k v)))

-- ---- moments and records

module _ (T : Terms) (p q : ℕ → ℕ) (r : Renumbering T.members p q) where
  abbrev pub ren : Moment → Moment
  ren = renumber_moment p q

  event_renumbered : (e : ℕ) (E : Event) (j a b : ℕ) → event_edge e (renumber_event p q E) j a b ≡ event_edge e E j (q a) (q b)
  event_renumbered e none j a b = refl
  event_renumbered e (happened i u v) j a b = rw (same_new T.members p q r a u, same_new T.members p q r b v)
  event_renumbered e (tried i u v) j a b = rw (same_new T.members p q r a u, same_new T.members p q r b v)

  pub graph_renumbered : (M : Moment) (l a b : ℕ) → graph T (ren M) l a b ≡ graph T M l (q a) (q b)
  graph_renumbered M l a b = ap (cond (ltb l T.relations) (M.edge l (q a) (q b))) (event_renumbered T.events M.event (l - T.relations) a b)

  record_renumbered : (Ms : List Moment) (i l a b : ℕ) → record_of T (map ren Ms) i l a b ≡ record_of T Ms i l (q a) (q b)
  record_renumbered Ms i l a b =
      ap (λ (M : Moment). graph T M l a b) (get_or-map ren Ms i (first (λ k a b. false)))
      ∙ graph_renumbered (get_or Ms i (first (λ k a b. false))) l a b

  last_renumbered : (Ms : List Moment) → last (map ren Ms) ≡ last Ms
  last_renumbered Ms = ap (λ n. n - 1) (length-map Ms ren)

  last_moment_renumbered : (Ms : List Moment) → last_moment (map ren Ms) ≡ ren (last_moment Ms)
  last_moment_renumbered Ms =
      ap (λ i. get_or (map ren Ms) i (first (λ k a b. false))) (last_renumbered Ms) ∙ get_or-map ren Ms (last Ms) (first (λ k a b. false))

  -- ---- effects

  end_renumbered : (a u v : ℕ) (c : Bool) → eqb a (cond c (p v) (p u)) ≡ eqb (q a) (cond c v u)
  end_renumbered a u v true = same_new T.members p q r a v
  end_renumbered a u v false = same_new T.members p q r a u

  affect_renumbered : (u v : ℕ) (es : List Effect) (R Q : Relations) → ((k a b : ℕ) → Q k a b ≡ R k (q a) (q b)) →
      (k a b : ℕ) → affect_all (p u) (p v) es Q k a b ≡ affect_all u v es R k (q a) (q b)
  unfolding affect_all
  affect_renumbered u v [] R Q h k a b = h k a b
  affect_renumbered u v (e ∷ es) R Q h k a b =
      affect_renumbered u v es (affect u v e R) (affect (p u) (p v) e Q)
      (λ k a b. rw (end_renumbered a u v e.back, end_renumbered b v u e.back, h k a b)) k a b

  next_renumbered : (M : Moment) (j u v : ℕ) → next T (ren M) j (p u) (p v) ≡ ren (next T M j u v)
  next_renumbered M j u v =
      ap (λ (R : Relations). record { edge = R; event = happened j (p u) (p v) })
      (fun_ext (λ k. fun_ext (λ a. fun_ext (λ b. affect_renumbered u v (T.effects j) M.edge (ren M).edge (λ k a b. refl) k a b))))

  pub made_renumbered : (M : Moment) (g : Bool) (j u v : ℕ) → made T (ren M) g j (p u) (p v) ≡ ren (made T M g j u v)
  made_renumbered M true j u v = next_renumbered M j u v
  made_renumbered M false j u v = refl

  -- ---- one call

  abbrev pub lift : Answer × List Moment → Answer × List Moment
  lift x = (x.0, map ren x.1)

  unnamed_renumbered : (c : Call) → unnamed T (renumber_call p q c) ≡ unnamed T c
  unnamed_renumbered c = rw (same_bound T.members p q r c.from, same_bound T.members p q r c.to)

  under_not : (u x y : Bool) → (not u ≡ true → x ≡ y) → (not u && x) ≡ (not u && y)
  under_not true x y h = refl
  under_not false x y h = h refl

  lifted : (A : Answer) (b : Bool) (M : Moment) → ◌≡◌ {A = Answer × List Moment} (A, cond b (ren M ∷ []) []) (lift (A, cond b (M ∷ []) []))
  lifted A true M = refl
  lifted A false M = refl

  module _ (good : Good T) (s : Starts) where
    -- Entry n over the renumbered record.
    entry_renumbered : (Ms : List Moment) (n : ℕ) → n < T.entries → (g h : Assignment) (m : ℕ) →
        ((x : ℕ) → free (formula T n) x ≡ true → h x ≡ p (g x)) → keeper_holds T s (map ren Ms) n h (p m) ≡ keeper_holds T s Ms n g m
    entry_renumbered Ms n l g h m v =
        ap (λ i. holds T.members s (record_of T (map ren Ms)) (formula T n) i h (p m)) (last_renumbered Ms)
        ∙ holds_renumbered T.members p q r s (record_of T Ms) (record_of T (map ren Ms)) (record_renumbered Ms)
        (formula T n) (regular T good n l) (last Ms) g h m v

    granted_renumbered : (Ms : List Moment) (c : Call) → granted T s (map ren Ms) (renumber_call p q c) ≡ granted T s Ms c
    granted_renumbered Ms c =
        ap (λ (u : Bool). not u && keeper_holds T s (map ren Ms) (T.policy c.event) (target (p c.to)) (p c.from)) (unnamed_renumbered c)
        ∙ under_not (unnamed T c) _ _ (λ e. let n = named T c e in
        entry_renumbered Ms (T.policy c.event) (good.policy_exists c.event n.0) (target c.to) (target (p c.to)) c.from
        (λ x f. rw (policy_target T good c.event n.0 x f)))

    by_tests : (Ms : List Moment) (c : Call) (g : Bool) →
        ◌≡◌ {A = Answer × List Moment}
        (answered T (renumber_call p q c) g, cond (counted T (renumber_call p q c) g) (made_by T (last_moment (map ren Ms)) (renumber_call p q c) g ∷ []) [])
        (lift (answered T c g, cond (counted T c g) (made_by T (last_moment Ms) c g ∷ []) []))
    by_tests Ms c g =
        rw (unnamed_renumbered c, last_moment_renumbered Ms, made_renumbered (last_moment Ms) g c.event c.from c.to)
        (lifted (answered T c g) (counted T c g) (made_by T (last_moment Ms) c g))

    judge_renumbered : (Ms : List Moment) (c : Call) → judge T s (map ren Ms) (renumber_call p q c) ≡ lift (judge T s Ms c)
    judge_renumbered Ms c =
        judged T s (map ren Ms) (renumber_call p q c)
        ∙ rw (granted_renumbered Ms c) (by_tests Ms c (granted T s Ms c))
        ∙ ap lift (sym (judged T s Ms c))

    keep_renumbered : (Ms : List Moment) (c : Call) →
        keep T s (map ren Ms) (renumber_call p q c) ≡ lift (keep T s Ms c)
    unfolding keep
    keep_renumbered Ms c =
        ap (λ (x : Answer × List Moment). (x.0, map ren Ms ++ x.1)) (judge_renumbered Ms c)
        ∙ ap (λ (L : List Moment). ((judge T s Ms c).0, L)) (sym (map_append Ms (judge T s Ms c).1))
      where
        map_append : (As Bs : List Moment) → map ren (As ++ Bs) ≡ map ren As ++ map ren Bs
        map_append [] Bs = refl
        map_append (A ∷ As) Bs = ap (λ (L : List Moment). ren A ∷ L) (map_append As Bs)

    -- Of the keeper: with every graph so far and all later calls renumbered, the answers are the same.
    pub renumbered_keeper : (cs : List Call) (Ms : List Moment) →
        ((keep_all T s (map ren Ms) (map (renumber_call p q) cs)).0 ≡ (keep_all T s Ms cs).0)
        × ((keep_all T s (map ren Ms) (map (renumber_call p q) cs)).1 ≡ map ren (keep_all T s Ms cs).1)
    unfolding keep_all
    renumbered_keeper [] Ms = (refl, refl)
    renumbered_keeper (c ∷ cs) Ms =
        let now : keep T s (map ren Ms) (renumber_call p q c) ≡ lift (keep T s Ms c) = keep_renumbered Ms c in
        let later = renumbered_keeper cs (keep T s Ms c).1 in (
          ap₂ ◌∷◌ (ap (λ (x : Answer × List Moment). x.0) now)
              (ap (λ (x : Answer × List Moment). (keep_all T s x.1 (map (renumber_call p q) cs)).0) now ∙ later.0),
          ap (λ (x : Answer × List Moment). (keep_all T s x.1 (map (renumber_call p q) cs)).1) now ∙ later.1,
        )

    -- The renumbered state is kept with the renumbered record.
    pub renumbered_kept : (S : State) (Ms : List Moment) → Kept T s S Ms → Kept T s (renumber_state p q T S) (map ren Ms)
    renumbered_kept S Ms kept = record {
      some = rw (length-map Ms ren) kept.some;
      now = ap ren kept.now ∙ sym (last_moment_renumbered Ms);
      begun = λ t. subst (λ (n : ℕ). s t ≤ n) (sym (last_renumbered Ms)) (kept.begun t);
      together = kept.together;
      tables = table;
      unused = λ t i k h. kept.unused t _ _ h;
    }
      where
        table : (n : ℕ) → n < T.entries → is_past (T.entry n).op ≡ true → (i k : ℕ) → inside T.members (columns (formula T n)) i k ≡ true →
            (renumber_state p q T S).table (number T.entry n) i k ≡ keeper_holds T s (map ren Ms) n (standing (formula T n) i k) (member (formula T n) i)
        table n l e i k o =
            let cs : List ℕ = columns (formula T n) in
            let fit = (good.entry n l).columns-fit e in
            let j : ℕ = word_under cs q i k in
            let b : ℕ = bit_under cs q i k in
            ap (λ (d : ℕ). S.table (number T.entry n) (word_under (columns (formula T d)) q i k) (bit_under (columns (formula T d)) q i k)) (past_is T n l e)
            ∙ kept.tables n l e j b (under_inside T.members q r.old cs i k fit o)
            ∙ ap (keeper_holds T s Ms n (standing (formula T n) j b)) (under_member T.members q r.old cs i k fit o)
            ∙ sym (entry_renumbered Ms n l (standing (formula T n) j b) (standing (formula T n) i k) (q (member (formula T n) i))
            (λ x f. sym (ap p (under_standing T.members q r.old cs i k fit o x (column_free T good n l x f)) ∙ r.forth (standing (formula T n) i k x))))
            ∙ ap (keeper_holds T s (map ren Ms) n (standing (formula T n) i k)) (r.forth (member (formula T n) i))

-- Undoing it gives the first moment back.
pub undone_moment : (N : ℕ) (p q : ℕ → ℕ) → Renumbering N p q → (M : Moment) → renumber_moment q p (renumber_moment p q M) ≡ M
undone_moment N p q r M =
    ap₂ (λ (R : Relations) (E : Event). record { edge = R; event = E })
    (fun_ext (λ k. fun_ext (λ a. fun_ext (λ b. ap₂ (M.edge k) (r.back a) (r.back b)))))
    (event M.event)
  where
    event : (E : Event) → renumber_event q p (renumber_event p q E) ≡ E
    event none = refl
    event (happened j u v) = ap₂ (happened j) (r.back u) (r.back v)
    event (tried j u v) = ap₂ (tried j) (r.back u) (r.back v)
