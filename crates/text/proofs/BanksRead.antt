-- Reading a text of the old form into two banks: what the reader filled opens for both, and opening leaves moment 0.
-- So `read` does what it should.
use Prim.Native.Nat.{ℕ, ◌≤◌, ◌<◌}
use native.Mathlib.Omega.{arith}
use mathlib.Core.Path.{◌≡◌, refl, sym, ap, ap₂, ◌∙◌}
use mathlib.Core.Bool.{Bool, true, false, cond, or-true, or-false}
use mathlib.Core.List.{List, [], ◌++◌}
use lib.Dec.{ltb}
use lib.ListN.{length, take, drop, length-append}
use lib.Seq.{take_at}
use borrow.Author.Tests.{lt-ltb, le-ltb, ltb-false}
use Rattle.theory.specs.Terms.{Terms, Alike}
use Rattle.theory.specs.Moment.{Relations, Moment}
use Rattle.theory.specs.Tables.{opening}
use Rattle.memory.specs.Layout.{terms_words, state_words, relation_words, own_words, joined, terms_of, state_of, words_of}
use Rattle.memory.specs.Checks.{good_memory, good_relations}
use Rattle.memory.specs.Outcome.{Outcome, banks_open}
use Rattle.memory.specs.Outcome.Outcome.{passed, refused as refusedOutcome}
use Rattle.memory.proofs.Accepted.{good}
use Rattle.memory.proofs.Words.{length_words, now_back}
use Rattle.calls.proofs.LayoutKept.{relations_good}
use Rattle.calls.proofs.Demand.{or_false_right}
use Rattle.banking.specs.Banking.{own_opened}
use Rattle.banking.proofs.JoinedState.{edges_joined, good_joined, part_long, front_long}
use Rattle.banking.proofs.BankOpening.{own-opened}
use Rattle.file.specs.File.{File, state_said}
use Rattle.file.specs.Reading.{Reading, reading}
use Rattle.file.specs.Reading.Reading.{accepted, refused}
use Rattle.file.proofs.Accepted.{Accepted, accepted_good}
use Rattle.reader.specs.Memory.{memory_of}
use Rattle.reader.specs.Read.{Filling, outcome}
use Rattle.reader.specs.Read.Filling.{old, stored, refused as refusedFilling}
use Rattle.reader.specs.OldForm.{old_reading, short_relations, filled_relations, old_filling, old_fill_gives, old_terms, old_relations}
use Rattle.reader.proofs.TermsMemory.{length_memory, memory_alike, memory_good}
use Rattle.reader.proofs.StateMemory.{filled, event_inside}
use Rattle.reader.proofs.Ended.{Unrefused}
use Rattle.reader.proofs.OldForm.{old_accepted}
use Rattle.text.specs.Banks.{short_read, filled_own, banks_read_gives, banks_read_terms, banks_read_relations, banks_read_own}
use Rattle.text.proofs.AlikeWords.{words_alike, state_alike}

-- ---- what the reader filled

module _ (text : List ℕ) (f : File) (e : reading text ≡ accepted f) (terms relations : List ℕ) (rl : relation_words ≤ length relations) where
  a : Accepted f
  a = accepted_good text f e

  abbrev T : Terms
  T = f.terms

  abbrev U : Terms
  U = terms_of (filled f terms)

  -- The words that the text says of a state.
  abbrev w : List ℕ
  w = words_of T (state_said f)

  -- The relations in memory.
  abbrev r : List ℕ
  r = filled_relations relations (accepted f)

  size : length w ≡ state_words
  size = length_words T (state_said f)

  filled_long : terms_words ≤ length (filled f terms)
  filled_long = omega (arith, length-append (memory_of T) (drop terms_words terms), length_memory T)

  filled_good : good_memory (filled f terms) ≡ true
  filled_good = memory_good T a.good a.tidy (drop terms_words terms)

  pub filled_like : Alike T U
  filled_like = memory_alike T a.good a.tidy (drop terms_words terms)

  pub relations_long : length r ≡ length relations
  relations_long = part_long (take relation_words w) relations relation_words (front_long w size) rl

  same_front : joined r [] ≡ joined w []
  same_front = ap (λ (x : List ℕ). x ++ take own_words []) (take_at (take relation_words w) (drop relation_words relations) relation_words (front_long w size))

  relations_fit : good_relations U r ≡ true
  relations_fit =
      sym (good_joined U r [] (omega (arith, relations_long))) ∙ ap (good_relations U) same_front ∙ good_joined U w [] (omega (arith, size))
      ∙ ap (good_relations U) (state_alike T U filled_like (state_said f)) ∙ relations_good U (good (filled f terms) filled_good) (state_said f)

  pub relations_edges : (state_of r).now.edge ≡ f.edges
  relations_edges =
      sym (edges_joined r [] (omega (arith, relations_long))) ∙ ap (λ (x : List ℕ). (state_of x).now.edge) same_front ∙ edges_joined w [] (omega (arith, size))
      ∙ ap (λ (M : Moment). M.edge) (now_back T a.good (state_said f) (record { edges = a.edges.within; event = event_inside T a.last }))

  module _ (first second : List ℕ) (fl : own_words ≤ length first) (sl : own_words ≤ length second) where
    pub banks-open : banks_open (filled f terms) r first second ≡ passed
    unfolding banks_open
    banks-open = rw (
      le-ltb (length (filled f terms)) terms_words filled_long,
      le-ltb (length r) relation_words (omega (arith, relations_long)),
      le-ltb (length first) own_words fl,
      le-ltb (length second) own_words sl,
      filled_good,
      relations_fit,
    )

    pub own-filled : (x : List ℕ) → own_words ≤ length x → own_opened (filled f terms) r first second x ≡ filled_own x (accepted f)
    own-filled x l =
        own-opened (filled f terms) r first second banks-open x l
        ∙ ap (λ (v : List ℕ). drop relation_words v ++ drop own_words x)
        (ap (λ (R : Relations). words_of U (opening U R)) relations_edges ∙ sym (words_alike T U filled_like f.edges))

-- ---- the ways that reading goes

module _ (text terms relations first second : List ℕ) where
  -- What it gives and leaves.
  abbrev Leaves : Outcome → (terms' relations' first' second' : List ℕ) → Type 0
  Leaves o terms' relations' first' second' =
      (o ≡ banks_read_gives text terms relations first second)
      × ((terms' ≡ banks_read_terms text terms relations first second)
      × ((relations' ≡ banks_read_relations text terms relations first second)
      × ((first' ≡ banks_read_own text terms relations first second first)
      × (second' ≡ banks_read_own text terms relations first second second))))

  too_short : short_read terms relations first second ≡ true → Leaves (refusedOutcome 6 0) terms relations first second
  unfolding banks_read_gives banks_read_terms banks_read_relations banks_read_own
  too_short h = (rw h, (rw h, (rw h, (rw h, rw h))))

  pub short_first : length first < own_words → Leaves (refusedOutcome 6 0) terms relations first second
  short_first h = too_short (rw (lt-ltb (length first) own_words h, or-true, or-true))

  module _ (fl : own_words ≤ length first) where
    pub short_second : length second < own_words → Leaves (refusedOutcome 6 0) terms relations first second
    short_second h = too_short (rw (le-ltb (length first) own_words fl, lt-ltb (length second) own_words h, or-true, or-true))

    module _ (sl : own_words ≤ length second) where
      same_short : short_read terms relations first second ≡ short_relations terms relations
      same_short = rw (le-ltb (length first) own_words fl, le-ltb (length second) own_words sl, or-false)

      same_terms : old_terms text terms relations ≡ banks_read_terms text terms relations first second
      unfolding old_terms banks_read_terms
      same_terms = rw same_short

      same_relations : old_relations text terms relations ≡ banks_read_relations text terms relations first second
      unfolding old_relations banks_read_relations
      same_relations = rw same_short

      pub fill_refused : (n l : ℕ) → refusedFilling n l ≡ old_fill_gives text terms relations → (terms' relations' : List ℕ) →
          terms' ≡ old_terms text terms relations → relations' ≡ old_relations text terms relations → Leaves (refusedOutcome n l) terms' relations' first second
      unfolding old_fill_gives banks_read_gives banks_read_own
      fill_refused n l e terms' relations' et er =
          let g = go (short_relations terms relations) (old_reading text) e in
          (rw same_short g.0, (et ∙ same_terms, (er ∙ same_relations, (rw same_short (g.1 first), rw same_short (g.1 second)))))
        where
          go : (b : Bool) (r : Reading) → refusedFilling n l ≡ cond b (refusedFilling 6 0) (old_filling r) →
              (refusedOutcome n l ≡ cond b (refusedOutcome 6 0) (outcome r)) × ((own : List ℕ) → own ≡ cond b own (filled_own own r))
          go true r e = (cc, λ own. refl)
          go false (accepted f) e = let z : ◌≡◌ {A = ℕ} 0 1 = cc in absurd (omega arith)
          go false (refused i j) e = (cc, λ own. refl)

      -- An accepted text's memory is opened.
      module _ (o : Filling) (u : Unrefused o) (h : o ≡ old_fill_gives text terms relations) where
        was_filled : (short_relations terms relations ≡ false) × ((f : File) × (old_reading text ≡ accepted f))
        unfolding old_fill_gives
        was_filled = go (short_relations terms relations) (old_reading text) o u h
          where
            go : (b : Bool) (r : Reading) (o : Filling) → Unrefused o → o ≡ cond b (refusedFilling 6 0) (old_filling r) → (b ≡ false) × ((f : File) × (r ≡ accepted f))
            go true r old u e = let z : ◌≡◌ {A = ℕ} 0 1 = cc in absurd (omega arith)
            go true r stored u e = let z : ◌≡◌ {A = ℕ} 0 1 = cc in absurd (omega arith)
            go true r (refusedFilling n l) u e = absurd u
            go false (accepted f) o u e = (refl, (f, refl))
            go false (refused i j) old u e = let z : ◌≡◌ {A = ℕ} 0 1 = cc in absurd (omega arith)
            go false (refused i j) stored u e = let z : ◌≡◌ {A = ℕ} 0 1 = cc in absurd (omega arith)
            go false (refused i j) (refusedFilling n l) u e = absurd u

        pub fill_opened : (terms' relations' : List ℕ) → terms' ≡ old_terms text terms relations → relations' ≡ old_relations text terms relations →
            (p : Outcome) (first' second' : List ℕ) → p ≡ banks_open terms' relations' first second →
            first' ≡ own_opened terms' relations' first second first → second' ≡ own_opened terms' relations' first second second →
            Leaves p terms' relations' first' second'
        unfolding old_terms old_relations banks_read_gives banks_read_own
        fill_opened terms' relations' et er p first' second' ep ef es =
            let f : File = was_filled.1.0 in
            let s : short_relations terms relations ≡ false = was_filled.0 in
            let r : old_reading text ≡ accepted f = was_filled.1.1 in
            let d = (old_accepted text f r).0 in
            let rl : relation_words ≤ length relations = ltb-false (length relations) relation_words (or_false_right (ltb (length terms) terms_words) _ s) in
            let t : terms' ≡ filled f terms = et ∙ rw (s, r) in
            let q : relations' ≡ filled_relations relations (accepted f) = er ∙ rw (s, r) in (
              rw (same_short, s, r) (ep ∙ ap₂ (λ (x y : List ℕ). banks_open x y first second) t q ∙ banks-open text f d terms relations rl first second fl sl),
              (
                et ∙ same_terms,
                (
                  er ∙ same_relations,
                  (
                    rw (same_short, s, r)
                        (ef ∙ ap₂ (λ (x y : List ℕ). own_opened x y first second first) t q ∙ own-filled text f d terms relations rl first second fl sl first fl),
                    rw (same_short, s, r)
                        (es ∙ ap₂ (λ (x y : List ℕ). own_opened x y first second second) t q ∙ own-filled text f d terms relations rl first second fl sl second sl),
                  ),
                ),
              ),
            )
