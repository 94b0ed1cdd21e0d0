-- Good memory: its terms, blanked beyond their counts, are good and tidy terms whose words are the memory's.
use Prim.Native.Nat.{ℕ, zero, suc, ◌+◌, ◌-◌, ◌*◌, ◌/◌, ◌%◌, ◌≤◌, ◌<◌}
use native.Mathlib.Omega.{arith}
use native.Mathlib.Numerals.{add-one}
use mathlib.Core.Path.{◌≡◌, refl, sym, ap, subst, ◌∙◌}
use mathlib.Core.Bool.{Bool, true, false, cond, ◌&&◌}
use mathlib.Core.List.{List, [], ◌∷◌}
use lib.Dec.{eqb, ltb}
use lib.ListN.{length, get_or, take}
use lib.Seq.{ext_get_or, get_or-take, length-take-le}
use borrow.Author.Tests.{eqb-true, lt-ltb, le-ltb, ltb-true, ltb-false}
use Rattle.sets.proofs.Finite.{all_out}
use Rattle.theory.specs.Terms.{Terms, Alike}
use Rattle.memory.specs.Layout.{terms_words, entry_at, policy_at, effect_at, mark_at, effects_from, terms_of}
use Rattle.theory.specs.Fit.{◌⇒◌, every, Good}
use Rattle.memory.specs.Checks.{blank, effect_fits, effects_tests, memory_tests, good_memory}
use Rattle.theory.proofs.Good.{every_at}
use Rattle.memory.proofs.Accepted.{good}
use Rattle.reader.specs.Memory.{entry_word, effect_word, terms_word, memory_of}
use Rattle.file.proofs.Fit.{no_entry}
use Rattle.file.proofs.Accepted.{Tidy}
use Rattle.theory.proofs.AlikeTerms.{good_alike}
use Rattle.reader.proofs.Effects.{Triple, Fitting, effects_few, effects_written}
use Rattle.reader.proofs.TermsMemory.{length_memory, word_memory, entry_blank}

-- Terms blanked beyond their counts.
abbrev pub tidied : Terms → Terms
tidied T = record {
  members = T.members;
  relations = T.relations;
  events = T.events;
  entries = T.entries;
  entry = λ n. cond (ltb n T.entries) (T.entry n) no_entry;
  policy = λ j. cond (ltb j T.events) (T.policy j) 0;
  effects = λ j. cond (ltb j T.events) (T.effects j) [];
  kept = λ j. ltb j T.events && T.kept j;
}

pub tidied_alike : (T : Terms) → Alike T (tidied T)
tidied_alike T = record {
  members = refl;
  relations = refl;
  events = refl;
  entries = refl;
  entry = λ n l. rw (lt-ltb n T.entries l);
  policy = λ j l. rw (lt-ltb j T.events l);
  effects = λ j l. rw (lt-ltb j T.events l);
  kept = λ j l. rw (lt-ltb j T.events l);
}

module _ (w : List ℕ) (good-words : good_memory w ≡ true) where
  abbrev T : Terms
  T = terms_of w

  fine : Good T
  fine = good w good-words

  pub tidied_good : Good (tidied T)
  tidied_good = good_alike T (tidied T) (tidied_alike T) fine

  pub tidied_tidy : Tidy (tidied T)
  unfolding terms_of
  tidied_tidy = record {
    entry = λ n l. rw (le-ltb n T.entries l);
    policy = λ j l. rw (le-ltb j T.events l);
    effects = λ j l. rw (le-ltb j T.events l);
    kept = λ j l. rw (le-ltb j T.events l);
    few_effects = λ j. few j (ltb j T.events);
  }
    where
      few : (j : ℕ) (c : Bool) → length (cond c (effects_from w (effect_at j 0) 4) []) ≤ 4
      few j true = effects_few w (effect_at j 0) 4
      few j false = omega arith

  test : (k : ℕ) → get_or (memory_tests w) k true ≡ true
  unfolding good_memory
  test = every_at (memory_tests w) good-words

  -- ---- the words, part by part

  entry-word : (n c i : ℕ) → n < 256 → c < 4 → i ≡ entry_at n + c → entry_word ((tidied T).entry n) c ≡ get_or w i 0
  unfolding terms_of blank
  entry-word n c i nl cl e = rw e (go (ltb n T.entries) refl c cl)
    where
      go : (x : Bool) → ltb n T.entries ≡ x → (c : ℕ) → c < 4 → entry_word (cond x (T.entry n) no_entry) c ≡ get_or w (entry_at n + c) 0
      go true p zero l = let here : entry_at n ≡ entry_at n + 0 = omega arith in ap (λ k. get_or w k 0) here
      go true p (suc zero) l = refl
      go true p (suc (suc zero)) l = refl
      go true p (suc (suc (suc zero))) l = refl
      go true p (suc (suc (suc (suc c)))) l = absurd (omega arith)
      go false p c l =
          let out : T.entries ≤ n = ltb-false n T.entries p in
          let at : entry_at T.entries + (entry_at n + c - entry_at T.entries) ≡ entry_at n + c = omega arith in
          entry_blank c ∙ sym (eqb-true _ 0 (subst (λ k. eqb (get_or w k 0) 0 ≡ true) at
          (all_out (1024 - 4 * T.entries) (λ i. eqb (get_or w (entry_at T.entries + i) 0) 0) (test 10) _ (omega arith))))

  policy_word : (j i : ℕ) → j < 16 → i ≡ policy_at j → (tidied T).policy j ≡ get_or w i 0
  unfolding terms_of blank
  policy_word j i jl e = rw e (go (ltb j T.events) refl)
    where
      go : (x : Bool) → ltb j T.events ≡ x → cond x (T.policy j) 0 ≡ get_or w (policy_at j) 0
      go true p = refl
      go false p =
          let out : T.events ≤ j = ltb-false j T.events p in
          let at : policy_at T.events + (j - T.events) ≡ policy_at j = omega arith in
          sym (eqb-true _ 0 (subst (λ k. eqb (get_or w k 0) 0 ≡ true) at
          (all_out (16 - T.events) (λ i. eqb (get_or w (policy_at T.events + i) 0) 0) (test 11) _ (omega arith))))

  effect-at : (j k : ℕ) → effect_at j k ≡ effect_at j 0 + 3 * k
  effect-at j k = omega arith

  fitting : (j : ℕ) → j < T.events → Fitting w (get_or w 1 0) (effect_at j 0) 4
  fitting j l =
      let tests : (k : ℕ) → get_or (effects_tests w j) k true ≡ true =
      every_at (effects_tests w j) (all_out T.events (λ j. every (effects_tests w j)) (test 9) j l) in
      record {
        fit = λ i il. subst (λ k. effect_fits (get_or w 1 0) (get_or w k 0) (get_or w (k + 1) 0) (get_or w (k + 2) 0) ≡ true) (effect-at j i)
            (all_out 4 (λ i. effect_fits (get_or w 1 0) (get_or w (effect_at j i) 0) (get_or w (effect_at j i + 1) 0) (get_or w (effect_at j i + 2) 0)) (tests 0) i il);
        front = λ i il. rw (effect-at j i, add-one, effect-at j (suc i)) at
            (all_out 3 (λ i. eqb (get_or w (effect_at j i) 0) 0 ⇒ eqb (get_or w (effect_at j (i + 1)) 0) 0) (tests 1) i (omega arith));
      }

  effect-word : (j k c i : ℕ) → j < 16 → k < 4 → c < 3 → i ≡ effect_at j k + c → effect_word ((tidied T).effects j) k c ≡ get_or w i 0
  unfolding terms_of blank effect_word
  effect-word j k c i jl kl cl e = rw e (go (ltb j T.events) refl c cl)
    where
      word : (c : ℕ) → c < 3 → Triple w (effect_at j 0 + 3 * k) (effects_from w (effect_at j 0) 4) k →
          effect_word (effects_from w (effect_at j 0) 4) k c ≡ get_or w (effect_at j 0 + 3 * k + c) 0
      word zero l t = let here : effect_at j 0 + 3 * k ≡ effect_at j 0 + 3 * k + 0 = omega arith in sym t.kind ∙ ap (λ n. get_or w n 0) here
      word (suc zero) l t = sym t.relation
      word (suc (suc zero)) l t = sym t.direction
      word (suc (suc (suc c))) l t = absurd (omega arith)

      go : (x : Bool) → ltb j T.events ≡ x → (c : ℕ) → c < 3 → effect_word (cond x (effects_from w (effect_at j 0) 4) []) k c ≡ get_or w (effect_at j k + c) 0
      go true p c l =
          word c l (effects_written w (get_or w 1 0) (effect_at j 0) 4 (fitting j (ltb-true j T.events p)) k kl)
          ∙ ap (λ n. get_or w (n + c) 0) (sym (effect-at j k))
      go false p c l =
          let out : T.events ≤ j = ltb-false j T.events p in
          let at : effect_at T.events 0 + (effect_at j k + c - effect_at T.events 0) ≡ effect_at j k + c = omega arith in
          sym (eqb-true _ 0 (subst (λ k. eqb (get_or w k 0) 0 ≡ true) at
          (all_out (192 - 12 * T.events) (λ i. eqb (get_or w (effect_at T.events 0 + i) 0) 0) (test 12) _ (omega arith))))

  mark_word : (j i : ℕ) → j < 16 → i ≡ mark_at j → cond ((tidied T).kept j) 1 0 ≡ get_or w i 0
  unfolding terms_of
  mark_word j i jl e =
      rw e (go (ltb j T.events) (ltb-true _ _ (all_out 16 (λ j. ltb (get_or w (mark_at j) 0) (cond (ltb j T.events) 2 1)) (test 13) j jl)))
    where
      mark : (m : ℕ) → m < 2 → cond (eqb m 1) 1 0 ≡ m
      mark zero l = refl
      mark (suc zero) l = refl
      mark (suc (suc m)) l = absurd (omega arith)

      go : (x : Bool) → get_or w (mark_at j) 0 < cond x 2 1 → cond (x && eqb (get_or w (mark_at j) 0) 1) 1 0 ≡ get_or w (mark_at j) 0
      go true l = mark (get_or w (mark_at j) 0) l
      go false l = omega arith

  word : (i : ℕ) → i < terms_words → terms_word (tidied T) i ≡ get_or w i 0
  unfolding terms_word terms_of
  word i l = go (ltb i 4) refl (ltb i 1028) refl (ltb i 1044) refl (ltb i 1236) refl
    where
      counts : (i : ℕ) → i < 4 → get_or (T.members ∷ T.relations ∷ T.events ∷ T.entries ∷ []) i 0 ≡ get_or w i 0
      counts zero l = refl
      counts (suc zero) l = refl
      counts (suc (suc zero)) l = refl
      counts (suc (suc (suc zero))) l = refl
      counts (suc (suc (suc (suc i)))) l = absurd (omega arith)

      go : (x : Bool) → ltb i 4 ≡ x → (y : Bool) → ltb i 1028 ≡ y → (z : Bool) → ltb i 1044 ≡ z → (v : Bool) → ltb i 1236 ≡ v →
          cond x (get_or (T.members ∷ T.relations ∷ T.events ∷ T.entries ∷ []) i 0)
          (cond y (entry_word ((tidied T).entry ((i - 4) / 4)) ((i - 4) % 4))
          (cond z ((tidied T).policy (i - 1028))
          (cond v (effect_word ((tidied T).effects ((i - 1044) / 12)) ((i - 1044) % 12 / 3) ((i - 1044) % 3))
          (cond ((tidied T).kept (i - 1236)) 1 0))))
          ≡ get_or w i 0
      go true p y q z r v o = counts i (ltb-true i 4 p)
      go false p true q z r v o =
          let lo : 4 ≤ i = ltb-false i 4 p in
          let hi : i < 1028 = ltb-true i 1028 q in
          entry-word ((i - 4) / 4) ((i - 4) % 4) i (omega arith) (omega arith) (omega arith)
      go false p false q true r v o =
          let lo : 1028 ≤ i = ltb-false i 1028 q in
          let hi : i < 1044 = ltb-true i 1044 r in
          policy_word (i - 1028) i (omega arith) (omega arith)
      go false p false q false r false o =
          let lo : 1236 ≤ i = ltb-false i 1236 o in
          mark_word (i - 1236) i (omega arith) (omega arith)
      go false p false q false r true o =
          let lo : 1044 ≤ i = ltb-false i 1044 r in
          let hi : i < 1236 = ltb-true i 1236 o in
          effect-word ((i - 1044) / 12) ((i - 1044) % 12 / 3) ((i - 1044) % 3) i (omega arith) (omega arith) (omega arith) (omega arith)

  pub tidied_words : terms_words ≤ length w → memory_of (tidied T) ≡ take terms_words w
  tidied_words long =
      ext_get_or 0 (memory_of (tidied T)) (take terms_words w) (length_memory (tidied T) ∙ sym (length-take-le terms_words w long))
      (λ i l. let il : i < terms_words = subst (λ n. i < n) (length_memory (tidied T)) l in
      word_memory (tidied T) i il ∙ word i il ∙ sym (get_or-take terms_words w i 0 il))
