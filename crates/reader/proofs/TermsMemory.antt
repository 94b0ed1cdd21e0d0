-- The words of terms: what stands in each, which terms the memory then holds, and that it is good memory.
use Prim.Native.Nat.{ℕ, ◌+◌, ◌-◌, ◌*◌, ◌/◌, ◌%◌, ◌≤◌, ◌<◌}
use native.Mathlib.Omega.{arith}
use native.Mathlib.Numerals.{add-one}
use mathlib.Core.Path.{◌≡◌, refl, sym, ap, subst, ◌∙◌}
use mathlib.Core.Bool.{Bool, true, false, cond, true≢false}
use mathlib.Core.List.{List, [], ◌∷◌, ◌++◌}
use lib.Dec.{eqb, ltb}
use lib.ListN.{length, get_or, get_or-append}
use borrow.Author.Tests.{eqb-true, eq-eqb, lt-ltb, le-ltb, ltb-false}
use Rattle.sets.proofs.Finite.{all_true}
use Rattle.theory.specs.Formula.{Entry, is_past}
use Rattle.theory.specs.Terms.{Terms}
use Rattle.memory.specs.Layout.{terms_words, entry_at, policy_at, effect_at, mark_at, effects_from, terms_of}
use Rattle.theory.specs.Terms.{tables, Alike}
use Rattle.theory.specs.Fit.{◌⇒◌, every, entry_tests, policy_tests, Good, GoodEntry}
use Rattle.memory.specs.Checks.{blank, effect_fits, effects_tests, good_memory}
use Rattle.theory.proofs.Good.{implies}
use Rattle.memory.proofs.Row.{length_tabulate, get_d_tabulate}
use Rattle.reader.specs.Memory.{entry_word, effect_word, terms_word, memory_of}
use Rattle.file.proofs.Fit.{no_entry}
use Rattle.file.proofs.Accepted.{Tidy}
use Rattle.theory.proofs.AlikeTerms.{good_alike}
use Rattle.reader.proofs.Effects.{Triple, effects_read, effect-fits, effects_front}

pub length_memory : (T : Terms) → length (memory_of T) ≡ terms_words
unfolding memory_of
length_memory T = length_tabulate terms_words (terms_word T)

pub word_memory : (T : Terms) (i : ℕ) → i < terms_words → get_or (memory_of T) i 0 ≡ terms_word T i
unfolding memory_of
word_memory T i l = get_d_tabulate terms_words (terms_word T) i l

-- ---- what stands in each word

module _ (T : Terms) where
  word_entry : (n c i : ℕ) → n < 256 → c < 4 → i ≡ entry_at n + c → terms_word T i ≡ entry_word (T.entry n) c
  unfolding terms_word
  word_entry n c i nl cl e =
      let quo : (i - 4) / 4 ≡ n = omega arith in
      let rem : (i - 4) % 4 ≡ c = omega arith in
      rw (le-ltb i 4 (omega arith), lt-ltb i 1028 (omega arith), quo, rem)

  word_policy : (j : ℕ) → j < 16 → terms_word T (policy_at j) ≡ T.policy j
  unfolding terms_word
  word_policy j l =
      let at : policy_at j - 1028 ≡ j = omega arith in
      rw (le-ltb (policy_at j) 4 (omega arith), le-ltb (policy_at j) 1028 (omega arith), lt-ltb (policy_at j) 1044 (omega arith), at)

  word_effect : (j k c i : ℕ) → j < 16 → k < 4 → c < 3 → i ≡ effect_at j k + c → terms_word T i ≡ effect_word (T.effects j) k c
  unfolding terms_word
  word_effect j k c i jl kl cl e =
      let event : (i - 1044) / 12 ≡ j = omega arith in
      let effect : (i - 1044) % 12 / 3 ≡ k = omega arith in
      let rem : (i - 1044) % 3 ≡ c = omega arith in
      rw (le-ltb i 4 (omega arith), le-ltb i 1028 (omega arith), le-ltb i 1044 (omega arith), lt-ltb i 1236 (omega arith), event, effect, rem)

  word_mark : (j : ℕ) → j < 16 → terms_word T (mark_at j) ≡ cond (T.kept j) 1 0
  unfolding terms_word
  word_mark j l =
      let at : mark_at j - 1236 ≡ j = omega arith in
      rw (
        le-ltb (mark_at j) 4 (omega arith),
        le-ltb (mark_at j) 1028 (omega arith),
        le-ltb (mark_at j) 1044 (omega arith),
        le-ltb (mark_at j) 1236 (omega arith),
        at,
      )

pub entry_blank : (c : ℕ) → entry_word no_entry c ≡ 0
entry_blank c = go (eqb c 0) (eqb c 1) (eqb c 2)
  where
    go : (x y z : Bool) → ◌≡◌ {A = ℕ} (cond x 0 (cond y 0 (cond z 0 0))) 0
    go true y z = refl
    go false true z = refl
    go false false true = refl
    go false false false = refl

module _ (T : Terms) (fine : Good T) (tidy : Tidy T) (rest : List ℕ) where
  abbrev w : List ℕ
  w = memory_of T ++ rest

  at : (i : ℕ) → i < terms_words → get_or w i 0 ≡ terms_word T i
  at i l = get_or-append (memory_of T) rest 0 i (omega (arith, length_memory T)) ∙ word_memory T i l

  -- ---- the terms that the memory holds

  triple : (j : ℕ) → j < 16 → (i : ℕ) → i < 4 → Triple w (effect_at j i) (T.effects j) i
  triple j jl i il = record {
    kind = at _ (omega arith) ∙ word_effect T j i 0 _ jl il (omega arith) (omega arith);
    relation = at _ (omega arith) ∙ word_effect T j i 1 _ jl il (omega arith) refl;
    direction = at _ (omega arith) ∙ word_effect T j i 2 _ jl il (omega arith) refl;
  }

  effects_back : (j : ℕ) → j < 16 → effects_from w (effect_at j 0) 4 ≡ T.effects j
  effects_back j l =
      effects_read w (effect_at j 0) 4 (T.effects j) (tidy.few_effects j)
      (λ i il. let here : effect_at j i ≡ effect_at j 0 + 3 * i = omega arith in subst (λ k. Triple w k (T.effects j) i) here (triple j l i il))

  mark : (j : ℕ) → j < 16 → get_or w (mark_at j) 0 ≡ cond (T.kept j) 1 0
  mark j l = at (mark_at j) (omega arith) ∙ word_mark T j l

  pub memory_alike : Alike T (terms_of w)
  unfolding terms_of terms_word
  memory_alike = record {
    members = sym (at 0 (omega arith));
    relations = sym (at 1 (omega arith));
    events = sym (at 2 (omega arith));
    entries = sym (at 3 (omega arith));
    entry = λ n l. sym (entry n (omega (arith, fine.few_entries)));
    policy = λ j l. sym (at (policy_at j) (omega (arith, fine.few_events)) ∙ word_policy T j (omega (arith, fine.few_events)));
    effects = λ j l. sym (effects_back j (omega (arith, fine.few_events)));
    kept = λ j l. sym (ap (λ (k : ℕ). eqb k 1) (mark j (omega (arith, fine.few_events))) ∙ marked (T.kept j));
  }
    where
      marked : (c : Bool) → eqb (cond c 1 0) 1 ≡ c
      marked true = refl
      marked false = refl

      word : (n c i : ℕ) → n < 256 → c < 4 → i ≡ entry_at n + c → get_or w i 0 ≡ entry_word (T.entry n) c
      word n c i l cl e = at i (omega arith) ∙ word_entry T n c i l cl e

      entry : (n : ℕ) → n < 256 → (terms_of w).entry n ≡ T.entry n
      entry n l = λ d. record {
        op = word n 0 (entry_at n) l (omega arith) (omega arith) d;
        a = word n 1 (entry_at n + 1) l (omega arith) refl d;
        b = word n 2 (entry_at n + 2) l (omega arith) refl d;
        c = word n 3 (entry_at n + 3) l (omega arith) refl d;
      }

  -- ---- it is good memory

  abbrev U : Terms
  U = terms_of w

  fine_held : Good U
  fine_held = good_alike T U memory_alike fine

  entry_good : (n : ℕ) → n < U.entries → every (entry_tests U n) ≡ true
  unfolding every
  entry_good n l =
      let g : GoodEntry U n = fine_held.entry n l in
      λ d. every (
      lt-ltb (U.entry n).op 12 g.known d
      ∷ g.first d
      ∷ g.second d
      ∷ g.third d
      ∷ implies (is_past (U.entry n).op) g.columns-fit d
      ∷ implies (eqb (U.entry n).op 10) (λ e. g.reaches (eqb-true (U.entry n).op 10 e)) d
      ∷ [])

  policy_good : (j : ℕ) → j < U.events → every (policy_tests U j) ≡ true
  unfolding every
  policy_good j l = λ d. every (lt-ltb (U.policy j) U.entries (fine_held.policy_exists j l) d ∷ fine_held.policy_free j l d ∷ [])

  effects_good : (j : ℕ) → j < U.events → every (effects_tests w j) ≡ true
  unfolding every terms_of
  effects_good j l = λ d. every (all_true 4 fit d ∷ all_true 3 front d ∷ [])
    where
      jl : j < T.events
      jl = rw memory_alike.events l

      jl16 : j < 16
      jl16 = omega (arith, jl, fine.few_events)

      fit : (k : ℕ) → k < 4 → effect_fits (get_or w 1 0) (get_or w (effect_at j k) 0) (get_or w (effect_at j k + 1) 0) (get_or w (effect_at j k + 2) 0) ≡ true
      fit k kl =
          let t : Triple w (effect_at j k) (T.effects j) k = triple j jl16 k kl in
          (λ d. effect_fits (sym memory_alike.relations d) (t.kind d) (t.relation d) (t.direction d))
          ∙ effect-fits T.relations (T.effects j) (fine.effects j jl) k

      front : (k : ℕ) → k < 3 → eqb (get_or w (effect_at j k) 0) 0 ⇒ eqb (get_or w (effect_at j (k + 1)) 0) 0 ≡ true
      front k kl =
          (λ d. eqb ((triple j jl16 k (omega arith)).kind d) 0 ⇒ eqb ((triple j jl16 (k + 1) (omega arith)).kind d) 0)
          ∙ rw add-one (effects_front (T.effects j) k)

  blank_at : (i : ℕ) → i < terms_words → terms_word T i ≡ 0 → eqb (get_or w i 0) 0 ≡ true
  blank_at i l e = eq-eqb (get_or w i 0) 0 (at i l ∙ e)

  entries_blank : blank w (entry_at U.entries) (1024 - 4 * U.entries) ≡ true
  unfolding blank
  entries_blank = all_true (1024 - 4 * U.entries) (λ i l.
      let e : T.entries ≡ U.entries = memory_alike.entries in
      let n : ℕ = U.entries + i / 4 in
      blank_at (entry_at U.entries + i) (omega arith)
      (word_entry T n (i % 4) _ (omega arith) (omega arith) (omega arith)
      ∙ ap (λ (x : Entry). entry_word x (i % 4)) (tidy.entry n (omega arith)) ∙ entry_blank (i % 4)))

  policies_blank : blank w (policy_at U.events) (16 - U.events) ≡ true
  unfolding blank
  policies_blank = all_true (16 - U.events) (λ i l.
      let e : T.events ≡ U.events = memory_alike.events in
      let n : ℕ = U.events + i in
      let here : policy_at n ≡ policy_at U.events + i = omega arith in
      blank_at (policy_at U.events + i) (omega arith)
      (subst (λ k. terms_word T k ≡ 0) here (word_policy T n (omega arith) ∙ tidy.policy n (omega arith))))

  effects_blank : blank w (effect_at U.events 0) (192 - 12 * U.events) ≡ true
  unfolding blank effect_word
  effects_blank = all_true (192 - 12 * U.events) (λ i l.
      let e : T.events ≡ U.events = memory_alike.events in
      let n : ℕ = U.events + i / 12 in
      blank_at (effect_at U.events 0 + i) (omega arith)
      (word_effect T n (i % 12 / 3) (i % 3) _ (omega arith) (omega arith) (omega arith) (omega arith)
      ∙ ap (λ es. effect_word es (i % 12 / 3) (i % 3)) (tidy.effects n (omega arith))))

  marks_good : (j : ℕ) → j < 16 → ltb (get_or w (mark_at j) 0) (cond (ltb j U.events) 2 1) ≡ true
  marks_good j l = ap (λ (k : ℕ). ltb k (cond (ltb j U.events) 2 1)) (mark j l) ∙ go (ltb j U.events) refl (T.kept j) refl
    where
      go : (c : Bool) → ltb j U.events ≡ c → (d : Bool) → T.kept j ≡ d → ltb (cond d 1 0) (cond c 2 1) ≡ true
      go true p true q = refl
      go true p false q = refl
      go false p true q =
          let h : T.events ≤ j = omega (arith, ltb-false j U.events p, memory_alike.events) in
          absurd (true≢false (sym q ∙ tidy.kept j h))
      go false p false q = refl

  pub memory_good : good_memory w ≡ true
  unfolding good_memory every
  memory_good =
      let g : Good U = fine_held in
      λ d. every (
      lt-ltb 0 U.members g.some_member d
      ∷ lt-ltb U.members 65 g.few_members d
      ∷ lt-ltb U.relations 17 g.few_relations d
      ∷ lt-ltb 0 U.events g.some_event d
      ∷ lt-ltb U.events 17 g.few_events d
      ∷ lt-ltb U.entries 257 g.few_entries d
      ∷ all_true U.entries entry_good d
      ∷ lt-ltb (tables U) 33 g.few_tables d
      ∷ all_true U.events policy_good d
      ∷ all_true U.events effects_good d
      ∷ entries_blank d
      ∷ policies_blank d
      ∷ effects_blank d
      ∷ all_true 16 marks_good d
      ∷ [])
