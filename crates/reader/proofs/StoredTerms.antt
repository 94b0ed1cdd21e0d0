-- What a line stores in the words of the terms, word by word, is the memory of what has been said after it.
use Prim.Native.Nat.{ℕ, zero, suc, ◌+◌, ◌-◌, ◌/◌, ◌%◌, ◌≤◌, ◌<◌}
use native.Mathlib.Omega.{arith}
use mathlib.Core.Path.{◌≡◌, refl, ap, ◌∙◌}
use mathlib.Core.Logic.{⊎_elim}
use mathlib.Core.List.{List, [], ◌∷◌, ◌++◌}
use mathlib.Core.Bool.{true, false, cond}
use lib.Dec.{eqb, ltb, eqb-suc-suc}
use lib.ListN.{length, set}
use borrow.Author.Tests.{eq-eqb, ne_eqb, lt-ltb, le-ltb, ltb-true, ltb-false, eqb-true, eqb-false}
use Rattle.sets.proofs.Finite.{true_or_false}
use Rattle.theory.specs.Terms as terms
use Rattle.theory.specs.Terms.{Terms}
use Rattle.memory.specs.Layout.{terms_words, entry_at, policy_at, effect_at, mark_at, tabulate}
use Rattle.file.specs.File.{update, with_entry, with_policy, with_effect, with_mark}
use Rattle.reader.specs.Memory.{effect_word, terms_word, memory_of}
use Rattle.reader.specs.private.Storing.{three, four}
use Rattle.reader.proofs.WordLists.{tabulate_cong, set_tabulate}

-- ---- the words of the terms

abbrev with_members : Terms → ℕ → Terms
with_members T n = record {
  members = n;
  relations = T.relations;
  events = T.events;
  entries = T.entries;
  entry = T.entry;
  policy = T.policy;
  effects = T.effects;
  kept = T.kept;
}

abbrev with_labels : Terms → (r e : ℕ) → Terms
with_labels T r e = record {
  members = T.members;
  relations = r;
  events = e;
  entries = T.entries;
  entry = T.entry;
  policy = T.policy;
  effects = T.effects;
  kept = T.kept;
}

module _ (T : Terms) where
  members_word : (n i : ℕ) → update (terms_word T) 0 n i ≡ terms_word (with_members T n) i
  unfolding terms_word
  members_word n zero = refl
  members_word n (suc i) = rw (ne_eqb (suc i) 0 (λ e. omega arith)) refl

  pub members_stored : (n : ℕ) → set (memory_of T) 0 n ≡ memory_of (with_members T n)
  unfolding memory_of
  members_stored n = set_tabulate terms_words (terms_word T) 0 n ∙ tabulate_cong terms_words _ _ (λ i l. members_word n i)

  labels_word : (r e i : ℕ) → update (update (terms_word T) 1 r) 2 e i ≡ terms_word (with_labels T r e) i
  unfolding terms_word
  labels_word r e zero = refl
  labels_word r e (suc zero) = refl
  labels_word r e (suc (suc zero)) = refl
  labels_word r e (suc (suc (suc i))) = rw (ne_eqb (suc (suc (suc i))) 2 (λ e. omega arith), ne_eqb (suc (suc (suc i))) 1 (λ e. omega arith)) refl

  pub labels_stored : (r e : ℕ) → set (set (memory_of T) 1 r) 2 e ≡ memory_of (with_labels T r e)
  unfolding memory_of
  labels_stored r e =
      ap (λ w. set w 2 e) (set_tabulate terms_words (terms_word T) 1 r)
      ∙ set_tabulate terms_words (update (terms_word T) 1 r) 2 e ∙ tabulate_cong terms_words _ _ (λ i l. labels_word r e i)

  -- One word of three from at on.
  abbrev thrice : (ℕ → ℕ) → (at x y z : ℕ) → ℕ → ℕ
  thrice g at x y z = update (update (update g at x) (at + 1) y) (at + 2) z

  three_tabulate : (g : ℕ → ℕ) (at x y z : ℕ) → three (tabulate terms_words g) at x y z ≡ tabulate terms_words (thrice g at x y z)
  three_tabulate g at x y z =
      ap (λ w. set (set w (at + 1) y) (at + 2) z) (set_tabulate terms_words g at x)
      ∙ ap (λ w. set w (at + 2) z) (set_tabulate terms_words (update g at x) (at + 1) y)
      ∙ set_tabulate terms_words (update (update g at x) (at + 1) y) (at + 2) z

  -- No word of the three, and each of them.
  not_three : (g : ℕ → ℕ) (at x y z i : ℕ) → (i ≡ at → ⊥) → (i ≡ at + 1 → ⊥) → (i ≡ at + 2 → ⊥) → thrice g at x y z i ≡ g i
  not_three g at x y z i p q r = rw (ne_eqb i (at + 2) r, ne_eqb i (at + 1) q, ne_eqb i at p)

  of_three : (g : ℕ → ℕ) (at x y z i c : ℕ) → i ≡ at + c → c < 3 → thrice g at x y z i ≡ cond (eqb c 0) x (cond (eqb c 1) y z)
  of_three g at x y z i zero e h =
      rw (ne_eqb i (at + 2) (λ f. omega arith), ne_eqb i (at + 1) (λ f. omega arith), eq-eqb i at (omega arith))
  of_three g at x y z i (suc zero) e h = rw (ne_eqb i (at + 2) (λ f. omega arith), eq-eqb i (at + 1) (omega arith))
  of_three g at x y z i (suc (suc zero)) e h = rw (eq-eqb i (at + 2) (omega arith))
  of_three g at x y z i (suc (suc (suc c))) e h = absurd (omega arith)

  -- One word of four.
  abbrev fourfold : (ℕ → ℕ) → (at x y z v : ℕ) → ℕ → ℕ
  fourfold g at x y z v = update (thrice g at x y z) (at + 3) v

  four_tabulate : (g : ℕ → ℕ) (at x y z v : ℕ) → four (tabulate terms_words g) at x y z v ≡ tabulate terms_words (fourfold g at x y z v)
  four_tabulate g at x y z v =
      ap (λ w. set w (at + 3) v) (three_tabulate g at x y z) ∙ set_tabulate terms_words (thrice g at x y z) (at + 3) v

  not_four : (g : ℕ → ℕ) (at x y z v i : ℕ) → (i ≡ at → ⊥) → (i ≡ at + 1 → ⊥) → (i ≡ at + 2 → ⊥) → (i ≡ at + 3 → ⊥) → fourfold g at x y z v i ≡ g i
  not_four g at x y z v i p q r s = rw (ne_eqb i (at + 3) s) (not_three g at x y z i p q r)

  of_four : (g : ℕ → ℕ) (at x y z v i c : ℕ) → i ≡ at + c → c < 4 → fourfold g at x y z v i ≡ cond (eqb c 0) x (cond (eqb c 1) y (cond (eqb c 2) z v))
  of_four g at x y z v i zero e h = rw (ne_eqb i (at + 3) (λ f. omega arith)) (of_three g at x y z i 0 e (omega arith))
  of_four g at x y z v i (suc zero) e h = rw (ne_eqb i (at + 3) (λ f. omega arith)) (of_three g at x y z i 1 e (omega arith))
  of_four g at x y z v i (suc (suc zero)) e h = rw (ne_eqb i (at + 3) (λ f. omega arith)) (of_three g at x y z i 2 e (omega arith))
  of_four g at x y z v i (suc (suc (suc zero))) e h = rw (eq-eqb i (at + 3) (omega arith))
  of_four g at x y z v i (suc (suc (suc (suc c)))) e h = absurd (omega arith)

  module _ (n o a b c : ℕ) (l : n < 256) where
    entry_low : (i : ℕ) → i < 4 → update (terms_word T) 3 (n + 1) i ≡ terms_word (with_entry T n o a b c) i
    unfolding terms_word
    entry_low zero h = refl
    entry_low (suc zero) h = refl
    entry_low (suc (suc zero)) h = refl
    entry_low (suc (suc (suc zero))) h = refl
    entry_low (suc (suc (suc (suc i)))) h = absurd (omega arith)

    entry-word : (i : ℕ) → fourfold (update (terms_word T) 3 (n + 1)) (entry_at n) o a b c i ≡ terms_word (with_entry T n o a b c) i
    unfolding terms_word
    entry-word i =
        ⊎_elim
        (λ p. let q : i < 4 = ltb-true i 4 p in
        not_four g (entry_at n) o a b c i (λ e. omega arith) (λ e. omega arith) (λ e. omega arith) (λ e. omega arith) ∙ entry_low i q)
        (λ p. let q : 4 ≤ i = ltb-false i 4 p in
        ⊎_elim
        (λ r. let s : i < 1028 = ltb-true i 1028 r in middle q s)
        (λ r. let s : 1028 ≤ i = ltb-false i 1028 r in
        not_four g (entry_at n) o a b c i (λ e. omega arith) (λ e. omega arith) (λ e. omega arith) (λ e. omega arith)
        ∙ rw (ne_eqb i 3 (λ e. omega arith), p, r))
        (true_or_false (ltb i 1028)))
        (true_or_false (ltb i 4))
      where
        g : ℕ → ℕ
        g = update (terms_word T) 3 (n + 1)

        middle : 4 ≤ i → i < 1028 → fourfold g (entry_at n) o a b c i ≡ terms_word (with_entry T n o a b c) i
        middle q s =
            ⊎_elim
            (λ e. let k : (i - 4) / 4 ≡ n = eqb-true ((i - 4) / 4) n e in
            of_four g (entry_at n) o a b c i ((i - 4) % 4) (omega arith) (omega arith) ∙ rw (le-ltb i 4 q, lt-ltb i 1028 s, e))
            (λ e. let k : (i - 4) / 4 ≡ n → ⊥ = eqb-false ((i - 4) / 4) n e in
            not_four g (entry_at n) o a b c i (λ z. k (omega arith)) (λ z. k (omega arith)) (λ z. k (omega arith)) (λ z. k (omega arith))
            ∙ rw (ne_eqb i 3 (λ z. omega arith), le-ltb i 4 q, lt-ltb i 1028 s, e))
            (true_or_false (eqb ((i - 4) / 4) n))

    pub entry_stored : four (set (memory_of T) 3 (n + 1)) (entry_at n) o a b c ≡ memory_of (with_entry T n o a b c)
    unfolding memory_of
    entry_stored =
        ap (λ w. four w (entry_at n) o a b c) (set_tabulate terms_words (terms_word T) 3 (n + 1))
        ∙ four_tabulate (update (terms_word T) 3 (n + 1)) (entry_at n) o a b c ∙ tabulate_cong terms_words _ _ (λ i l. entry-word i)

  module _ (j n : ℕ) (l : j < 16) where
    policy_word : (i : ℕ) → update (terms_word T) (policy_at j) n i ≡ terms_word (with_policy T j n) i
    unfolding terms_word
    policy_word i =
        ⊎_elim
        (λ p. let q : i < 1028 = ltb-true i 1028 p in rw (ne_eqb i (policy_at j) (λ e. omega arith), p))
        (λ p. let q : 1028 ≤ i = ltb-false i 1028 p in
        ⊎_elim
        (λ e. let s : i ≡ policy_at j = eqb-true i (policy_at j) e in
        rw (e, le-ltb i 4 (omega arith), p, lt-ltb i 1044 (omega arith), eq-eqb (i - 1028) j (omega arith)))
        (λ e. let s : i ≡ policy_at j → ⊥ = eqb-false i (policy_at j) e in
        rw (e, ne_eqb (i - 1028) j (λ z. s (omega arith))))
        (true_or_false (eqb i (policy_at j))))
        (true_or_false (ltb i 1028))

    pub policy_stored : set (memory_of T) (policy_at j) n ≡ memory_of (with_policy T j n)
    unfolding memory_of
    policy_stored = set_tabulate terms_words (terms_word T) (policy_at j) n ∙ tabulate_cong terms_words _ _ (λ i l. policy_word i)

  module _ (j : ℕ) (l : j < 16) where
    mark_word : (i : ℕ) → update (terms_word T) (mark_at j) 1 i ≡ terms_word (with_mark T j) i
    unfolding terms_word
    mark_word i =
        ⊎_elim
        (λ p. let q : i < 1236 = ltb-true i 1236 p in rw (ne_eqb i (mark_at j) (λ e. omega arith), p))
        (λ p. let q : 1236 ≤ i = ltb-false i 1236 p in
        ⊎_elim
        (λ e. let s : i ≡ mark_at j = eqb-true i (mark_at j) e in
        rw (e, le-ltb i 4 (omega arith), le-ltb i 1028 (omega arith), le-ltb i 1044 (omega arith), p, eq-eqb (i - 1236) j (omega arith)))
        (λ e. let s : i ≡ mark_at j → ⊥ = eqb-false i (mark_at j) e in
        rw (e, ne_eqb (i - 1236) j (λ z. s (omega arith))))
        (true_or_false (eqb i (mark_at j))))
        (true_or_false (ltb i 1236))

    pub mark_stored : set (memory_of T) (mark_at j) 1 ≡ memory_of (with_mark T j)
    unfolding memory_of
    mark_stored = set_tabulate terms_words (terms_word T) (mark_at j) 1 ∙ tabulate_cong terms_words _ _ (λ i l. mark_word i)

  -- The words of an effect after the others.
  abbrev word_of : terms.Effect → ℕ → ℕ
  word_of e c = cond (eqb c 0) (cond e.adds 1 2) (cond (eqb c 1) e.relation (cond e.back 1 0))

  effect_more : (es : List terms.Effect) (e : terms.Effect) (i c : ℕ) →
      effect_word (es ++ (e ∷ [])) i c ≡ cond (eqb i (length es)) (word_of e c) (effect_word es i c)
  unfolding effect_word
  effect_more [] e zero c = refl
  effect_more [] e (suc i) c = rw (ne_eqb (suc i) 0 (λ z. omega arith))
  effect_more (d ∷ es) e zero c = rw (ne_eqb 0 (suc (length es)) (λ z. omega arith))
  effect_more (d ∷ es) e (suc i) c = rw (eqb-suc-suc i (length es)) (effect_more es e i c)

  module _ (j a k d : ℕ) (jl : j < 16) (action : cond (eqb a 1) 1 2 ≡ a) (direction : cond (eqb d 1) 1 0 ≡ d) (few : length (T.effects j) < 4) where
    abbrev at : ℕ
    at = effect_at j (length (T.effects j))

    effect-word : (i : ℕ) → thrice (terms_word T) at a k d i ≡ terms_word (with_effect T j a k d) i
    unfolding terms_word
    effect-word i =
        ⊎_elim
        (λ p. let q : i < 1044 = ltb-true i 1044 p in
        not_three (terms_word T) at a k d i (λ e. omega arith) (λ e. omega arith) (λ e. omega arith) ∙ rw p)
        (λ p. let q : 1044 ≤ i = ltb-false i 1044 p in ⊎_elim (here q) (elsewhere q) (true_or_false (eqb ((i - 1044) / 12) j)))
        (true_or_false (ltb i 1044))
      where
        es : List terms.Effect
        es = T.effects j

        elsewhere : 1044 ≤ i → eqb ((i - 1044) / 12) j ≡ false → thrice (terms_word T) at a k d i ≡ terms_word (with_effect T j a k d) i
        elsewhere q e =
            let m : (i - 1044) / 12 ≡ j → ⊥ = eqb-false ((i - 1044) / 12) j e in
            not_three (terms_word T) at a k d i (λ z. m (omega arith)) (λ z. m (omega arith)) (λ z. m (omega arith)) ∙ rw e

        here : 1044 ≤ i → eqb ((i - 1044) / 12) j ≡ true → thrice (terms_word T) at a k d i ≡ terms_word (with_effect T j a k d) i
        here q e =
            ⊎_elim
            (λ s. let sl : (i - 1044) % 12 / 3 ≡ length es = eqb-true ((i - 1044) % 12 / 3) (length es) s in
            of_three (terms_word T) at a k d i ((i - 1044) % 3) (omega (arith, eqb-true ((i - 1044) / 12) j e)) (omega arith)
            ∙ rw (
              le-ltb i 4 (omega arith),
              le-ltb i 1028 (omega arith),
              le-ltb i 1044 q,
              lt-ltb i 1236 (omega (arith, eqb-true ((i - 1044) / 12) j e)),
              e,
              effect_more es new ((i - 1044) % 12 / 3) ((i - 1044) % 3),
              s,
              action,
              direction,
            ))
            (λ s. let sl : (i - 1044) % 12 / 3 ≡ length es → ⊥ = eqb-false ((i - 1044) % 12 / 3) (length es) s in
            not_three (terms_word T) at a k d i (λ z. sl (omega arith)) (λ z. sl (omega arith)) (λ z. sl (omega arith))
            ∙ rw (
              le-ltb i 4 (omega arith),
              le-ltb i 1028 (omega arith),
              le-ltb i 1044 q,
              lt-ltb i 1236 (omega (arith, eqb-true ((i - 1044) / 12) j e)),
              e,
              effect_more es new ((i - 1044) % 12 / 3) ((i - 1044) % 3),
              s,
              eqb-true ((i - 1044) / 12) j e,
            ))
            (true_or_false (eqb ((i - 1044) % 12 / 3) (length es)))
          where
            new : terms.Effect
            new = record { adds = eqb a 1; relation = k; back = eqb d 1 }

    pub effect_stored : three (memory_of T) at a k d ≡ memory_of (with_effect T j a k d)
    unfolding memory_of
    effect_stored = three_tabulate (terms_word T) at a k d ∙ tabulate_cong terms_words _ _ (λ i l. effect-word i)
