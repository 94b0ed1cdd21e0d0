-- What an opening of two banks that passes, and new terms for both that pass, say of the lent memory and leave in it.
use Prim.Native.Nat.{ℕ, ◌≤◌}
use native.Mathlib.Omega.{arith}
use mathlib.Core.Path.{◌≡◌, refl, sym, ap, ◌∙◌}
use mathlib.Core.Bool.{Bool, true, false, cond, not, ◌&&◌, ◌||◌, true≢false}
use mathlib.Core.List.{List, ◌++◌}
use lib.Dec.{ltb}
use lib.ListN.{length, take, drop, length-drop}
use lib.Seq.{length-take-le, take_at, drop_at, drop-append-le}
use borrow.Rule.Slice.PartMut.{put_mid}
use Rattle.theory.specs.Terms.{same_size}
use Rattle.theory.specs.Tables.{opening}
use Rattle.memory.specs.Layout.{terms_words, state_words, relation_words, own_words, joined, terms_of, state_of, words_of}
use Rattle.memory.specs.Checks.{good_memory, good_state}
use Rattle.memory.specs.Outcome.{Outcome, has_passed, short_banks, banks_open, banks_revise}
use Rattle.memory.specs.Outcome.Outcome.{passed, refused}
use Rattle.memory.specs.TableIndex.{Indexed}
use Rattle.memory.proofs.BankOutcomes.{banks_long}
use Rattle.memory.proofs.Words.{length_words}
use Rattle.deciding.specs.private.Starting.{Revising}
use Rattle.banking.specs.Banking.{own_opened, begun_words, relations_revised, own_revised}
use Rattle.banking.proofs.JoinedState.{joined_long}
use Rattle.banking.proofs.BankOpening.{banks_opened, own-opened}

-- ---- opening

module _ (terms relations first second : List ℕ) (e : banks_open terms relations first second ≡ passed) where
  abbrev words : List ℕ
  words = words_of (terms_of terms) (opening (terms_of terms) (state_of relations).now.edge)

  long : length words ≡ state_words
  long = length_words (terms_of terms) (opening (terms_of terms) (state_of relations).now.edge)

  front : length (take relation_words relations) ≡ relation_words
  front = length-take-le relation_words relations (banks_opened terms relations first second e).banks_long.relations_long

  -- Own words with which the relations are the words of moment 0.
  pub opened_own : (own own' : List ℕ) → own_words ≤ length own → take relation_words relations ++ own' ≡ words ++ drop own_words own →
      own' ≡ own_opened terms relations first second own
  opened_own own own' l w =
      sym (drop_at (take relation_words relations) own' relation_words front) ∙ ap (drop relation_words) w
      ∙ drop-append-le relation_words words (drop own_words own) (omega (arith, long)) ∙ sym (own-opened terms relations first second e own l)

  -- The second bank's own words are those of the first.
  pub opened_copy : {first' ys : List ℕ} → first' ≡ own_opened terms relations first second first →
      ys ≡ take (length (take own_words second)) first' → put_mid 0 own_words second ys ≡ own_opened terms relations first second second
  opened_copy {first'} {ys} f q =
      let l = (banks_opened terms relations first second e).banks_long in
      let b : List ℕ = drop relation_words words in
      let size : length b ≡ own_words = length-drop relation_words words ∙ omega (arith, long) in
      let copied : ys ≡ b =
      q ∙ ap (λ (k : ℕ). take k first') (length-take-le own_words second l.other_long)
      ∙ ap (take own_words) (f ∙ own-opened terms relations first second e first l.own_long) ∙ take_at b (drop own_words first) own_words size in
      ap (λ (x : List ℕ). x ++ drop own_words second) copied ∙ sym (own-opened terms relations first second e second l.other_long)

-- ---- new terms

module _ (old relations first second new edges third fourth : List ℕ) where
  pub record Revised : Type 0 where
    pub old_long : terms_words ≤ length old
    pub relations_long : relation_words ≤ length relations
    pub first_long : own_words ≤ length first
    pub second_long : own_words ≤ length second
    pub new_long : terms_words ≤ length new
    pub edges_long : relation_words ≤ length edges
    pub third_long : own_words ≤ length third
    pub fourth_long : own_words ≤ length fourth
    pub old_good : good_memory old ≡ true
    pub new_good : good_memory new ≡ true
    pub first_good : good_state (terms_of old) (joined relations first) ≡ true
    pub second_good : good_state (terms_of old) (joined relations second) ≡ true
    pub same : same_size (terms_of old) (terms_of new) ≡ true

  abbrev gives : Outcome
  gives = banks_revise old relations first second new edges third fourth

  pub revised_says : passed ≡ gives → Revised
  unfolding banks_revise
  revised_says e =
      go (ltb (length old) terms_words || short_banks relations first second) refl (ltb (length new) terms_words || short_banks edges third fourth) refl
      (good_memory old) refl (good_memory new) refl (good_state (terms_of old) (joined relations first)) refl (good_state (terms_of old) (joined relations second)) refl
      (same_size (terms_of old) (terms_of new)) refl (ap has_passed e)
    where
      go : (a : Bool) → (ltb (length old) terms_words || short_banks relations first second) ≡ a → (b : Bool) → (ltb (length new) terms_words || short_banks edges third fourth) ≡ b →
          (g : Bool) → good_memory old ≡ g → (h : Bool) → good_memory new ≡ h → (s : Bool) → good_state (terms_of old) (joined relations first) ≡ s →
          (t : Bool) → good_state (terms_of old) (joined relations second) ≡ t → (z : Bool) → same_size (terms_of old) (terms_of new) ≡ z →
          true ≡ has_passed (cond (a || b) (refused 6 0) (cond (not (g && h)) (refused 7 0) (cond (not (s && t)) (refused 8 0) (cond (not z) (refused 13 0) passed)))) → Revised
      go true _ _ _ _ _ _ _ _ _ _ _ _ _ q = absurd (true≢false q)
      go false _ true _ _ _ _ _ _ _ _ _ _ _ q = absurd (true≢false q)
      go false _ false _ false _ _ _ _ _ _ _ _ _ q = absurd (true≢false q)
      go false _ false _ true _ false _ _ _ _ _ _ _ q = absurd (true≢false q)
      go false _ false _ true _ true _ false _ _ _ _ _ q = absurd (true≢false q)
      go false _ false _ true _ true _ true _ false _ _ _ q = absurd (true≢false q)
      go false _ false _ true _ true _ true _ true _ false _ q = absurd (true≢false q)
      go false a false b true g true h true s true t true z q =
          let l = banks_long old relations first second a in
          let k = banks_long new edges third fourth b in
          record {
            old_long = l.0;
            relations_long = l.1;
            first_long = l.2;
            second_long = l.3;
            new_long = k.0;
            edges_long = k.1;
            third_long = k.2;
            fourth_long = k.3;
            old_good = g;
            new_good = h;
            first_good = s;
            second_good = t;
            same = z;
          }

  -- A bank under old terms that passes, with the indexes of both terms.
  module _ (e : passed ≡ gives) {before index : List ℕ} (b : Indexed (terms_of old) before) (p : Indexed (terms_of new) index) where
    pub revising : (own : List ℕ) → own_words ≤ length own → good_state (terms_of old) (joined relations own) ≡ true → Revising old before (joined relations own) new index
    revising own l g =
        let r = revised_says e in
        record {
          long_old = r.old_long;
          good_old = r.old_good;
          indexed_old = b;
          long_state = let long = joined_long relations own r.relations_long l in omega (arith, long);
          good-state = g;
          long_new = r.new_long;
          good_new = r.new_good;
          indexed_new = p;
          same = r.same;
        }

  pub edges_kept : (n l : ℕ) → refused n l ≡ gives → edges ≡ relations_revised old relations first second new edges third fourth
  unfolding relations_revised
  edges_kept n l e = rw (sym e)

  pub own_kept : (n l : ℕ) → refused n l ≡ gives → (own own' : List ℕ) → own' ≡ own_revised old relations first second new edges third fourth own own'
  unfolding own_revised
  own_kept n l e own own' = rw (sym e)

  pub own_begun : passed ≡ gives → (own own' : List ℕ) →
      drop relation_words (begun_words old relations own new) ++ drop own_words own' ≡ own_revised old relations first second new edges third fourth own own'
  unfolding own_revised
  own_begun e own own' = rw (sym e)

  -- The relations carry over as they are.
  pub edges_begun : passed ≡ gives → take relation_words relations ≡ take relation_words (begun_words old relations first new) →
      {ys : List ℕ} → ys ≡ take (length (take relation_words edges)) relations →
      put_mid 0 relation_words edges ys ≡ relations_revised old relations first second new edges third fourth
  unfolding relations_revised
  edges_begun e c {ys} q =
      let copied : ys ≡ take relation_words relations =
      q ∙ ap (λ (k : ℕ). take k relations) (length-take-le relation_words edges (revised_says e).edges_long) in
      ap (λ (x : List ℕ). x ++ drop relation_words edges) (copied ∙ c) ∙ rw (sym e)

-- Own words with which the relations are the words w, put back before further ones.
pub own_begins : (relations part w second : List ℕ) → relation_words ≤ length relations → take relation_words relations ++ part ≡ w →
    (put_mid 0 own_words second part ≡ drop relation_words w ++ drop own_words second) × (take relation_words relations ≡ take relation_words w)
own_begins relations part w second l e =
    let long = length-take-le relation_words relations l in (
      ap (λ (x : List ℕ). x ++ drop own_words second) (sym (drop_at (take relation_words relations) part relation_words long) ∙ ap (drop relation_words) e),
      sym (take_at (take relation_words relations) part relation_words long) ∙ ap (take relation_words) e,
    )
