-- Words copied at the members of a set, and a slot of the memo that is lent and comes back.
use Prim.Native.Nat.{ℕ, ◌+◌, ◌-◌, ◌*◌, ◌/◌, ◌%◌, ◌^◌, ◌<◌, ◌≤◌, min}
use native.Mathlib.Omega.{arith}
use native.Mathlib.Nat.{min-le_left, lt_of_lt_of_le}
use mathlib.Core.Path.{◌≡◌, refl, sym, ap, ap₂, ◌∙◌, subst}
use mathlib.Core.Bool.{Bool, true, false, cond, not, ◌&&◌, ◌||◌, and-not_self, and-false, or-false, true≢false}
use mathlib.Core.List.{List}
use mathlib.Core.Logic.{⊎_elim}
use lib.Bits.{bit_and, bit_or, bit_xor}
use lib.Dec.{eqb}
use lib.ListN.{length, get_or, take, drop, set, length-set, length-take, length-drop}
use lib.Seq.{get_or-set_same, get_or-set_other, get_or-take, get_or-drop, length-take-le, ext_get_or}
use borrow.Author.Tests.{eqb-true, eqb-false}
use borrow.Rule.Slice.PartMut.{put_mid}
use Rattle.sets.specs.Sets.{bit}
use Rattle.sets.proofs.Finite.{true_or_false, not_both, is_false, and_left, and_both, or_left, or_right, or_cases}
use Rattle.sets.proofs.Bits.{bit_zero, bit-and, bit-or, bit_without}
use Rattle.theory.specs.Meaning.{Assignment}
use Rattle.deciding.specs.private.Moving.{put}
use Rattle.deciding.specs.private.Rows.{Has}
use Rattle.deciding.specs.private.Memo.{slot_of, byte_of, value_of, have_of, reads_of, column_of, knows, Under, asks, shows, Apart, Missing, Put, Shown, Stored}
use Rattle.deciding.proofs.Loops.{MembersLeft, Turn, Done, going, going_on, done_all, done_more}
use Rattle.deciding.proofs.Stored.{put_in, put_other, put_length, put_back}

-- ---- the members of set that are not in rest are shown
pub record Showing (set : ℕ) (f : ℕ → ℕ) (r₀ : List ℕ) (rest : ℕ) (r : List ℕ) : Type 0 where
  pub upon : MembersLeft set rest
  pub long : length r ≡ length r₀
  pub words : (i : ℕ) → get_or r i 0 ≡ cond (Done set rest i) (f i) (get_or r₀ i 0)

pub showing : (set : ℕ) (f : ℕ → ℕ) (r : List ℕ) → set < 2 ^ 64 → Showing set f r set r
showing set f r h = record {
  upon = going set h;
  long = refl;
  words = λ i. sym (ap (λ (x : Bool). cond x (f i) (get_or r i 0)) (and-not_self (bit set i)));
}

pub showing_more : {want : ℕ} {f : ℕ → ℕ} {r₀ : List ℕ} {rest a rest' : ℕ} {r : List ℕ} (w : ℕ) → Showing want f r₀ rest r → Turn want rest a rest' → 64 ≤ length r₀
    → w ≡ f a → Showing want f r₀ rest' (set r a w)
showing_more {want} {f} {r₀} {rest} {a} {rest'} {r} w h t l is = record {
  upon = going_on t;
  long = length-set r a w ∙ h.long;
  words = λ i. ⊎_elim
      (λ e.
      ap (λ (j : ℕ). get_or (set r a w) j 0) (eqb-true i a e)
      ∙ get_or-set_same r a w 0 (let p : a < 64 = t.next.small in let q : length r ≡ length r₀ = h.long in omega arith)
      ∙ is ∙ ap f (sym (eqb-true i a e))
      ∙ sym (ap (λ (x : Bool). cond x (f i) (get_or r₀ i 0)) (done_more t i ∙ ap (λ (x : Bool). x || Done want rest i) e)))
      (λ e.
      get_or-set_other r a i w 0 (eqb-false i a e) ∙ h.words i
      ∙ sym (ap (λ (x : Bool). cond x (f i) (get_or r₀ i 0)) (done_more t i ∙ ap (λ (x : Bool). x || Done want rest i) e)))
      (true_or_false (eqb i a));
}

pub shown : {want : ℕ} {f : ℕ → ℕ} {r₀ : List ℕ} {rest : ℕ} {r : List ℕ} → Showing want f r₀ rest r → rest ≡ 0 → Shown want f r₀ r
shown {want} {f} {r₀} {rest} h e i = h.words i ∙ ap (λ (x : Bool). cond x (f i) (get_or r₀ i 0)) (done_all want rest i e)

-- ---- the bits of ask in the rows of need, but of those in rest, are put into a slot
pub record Putting (ask need : ℕ) (r s₀ : List ℕ) (rest : ℕ) (s : List ℕ) : Type 0 where
  pub upon : MembersLeft need rest
  pub long : length s ≡ length s₀
  pub rows : (i b : ℕ) → i < 64 → bit (get_or s i 0) b ≡ cond (Done need rest i && bit ask b) (bit (get_or r i 0) b) (bit (get_or s₀ i 0) b)
  pub sure : (i b : ℕ) → i < 64 → bit (get_or s (69 + i) 0) b ≡ cond (Done need rest i) (knows s₀ i b || bit ask b) (bit (get_or s₀ (69 + i) 0) b)
  pub others : (i : ℕ) → 64 ≤ i → i < 69 → get_or s i 0 ≡ get_or s₀ i 0

pub putting : (ask need : ℕ) (r s : List ℕ) → need < 2 ^ 64 → Putting ask need r s need s
putting ask need r s h = record {
  upon = going need h;
  long = refl;
  rows = λ i b l. sym (ap (λ (x : Bool). cond (x && bit ask b) (bit (get_or r i 0) b) (bit (get_or s i 0) b)) (and-not_self (bit need i)));
  sure = λ i b l. sym (ap (λ (x : Bool). cond x (knows s i b || bit ask b) (bit (get_or s (69 + i) 0) b)) (and-not_self (bit need i)));
  others = λ i l h. refl;
}

module _ {ask need : ℕ} {r s₀ : List ℕ} {rest a rest' : ℕ} {s : List ℕ} (f : Putting ask need r s₀ rest s) (t : Turn need rest a rest') where
  to_come : Done need rest a ≡ false
  to_come = ap (λ (x : Bool). bit need a && not x) t.next.here ∙ and-false (bit need a)

  putting_row : (b : ℕ) → bit (get_or s a 0) b ≡ bit (get_or s₀ a 0) b
  putting_row b = f.rows a b t.next.small ∙ ap (λ (x : Bool). cond (x && bit ask b) (bit (get_or r a 0) b) (bit (get_or s₀ a 0) b)) to_come

  putting_sure : (b : ℕ) → bit (get_or s (69 + a) 0) b ≡ bit (get_or s₀ (69 + a) 0) b
  putting_sure b = f.sure a b t.next.small ∙ ap (λ (x : Bool). cond x (knows s₀ a b || bit ask b) (bit (get_or s₀ (69 + a) 0) b)) to_come

  module _ (v w : ℕ) (long : length s₀ ≡ 133) (is : (b : ℕ) → bit v b ≡ cond (bit ask b) (bit (get_or r a 0) b) (bit (get_or s a 0) b))
      (is' : (b : ℕ) → bit w b ≡ ((bit (have_of s₀) a && bit (get_or s (69 + a) 0) b) || bit ask b)) where
    abbrev s₁ : List ℕ
    s₁ = set s a v

    abbrev s₂ : List ℕ
    s₂ = set s₁ (69 + a) w

    small : a < 64
    small = t.next.small

    long_s : length s ≡ 133
    long_s = f.long ∙ long

    row : (i b : ℕ) → i < 64 → (c : Bool) → eqb i a ≡ c → bit (get_or s₁ i 0) b ≡ cond ((c || Done need rest i) && bit ask b) (bit (get_or r i 0) b) (bit (get_or s₀ i 0) b)
    row i b l true e =
        let same : i ≡ a = eqb-true i a e in
        rw same (ap (λ (x : ℕ). bit x b) (get_or-set_same s a v 0 (let p = small in let q = long_s in omega arith))
        ∙ is b ∙ ap (cond (bit ask b) (bit (get_or r a 0) b)) (putting_row b))
    row i b l false e = ap (λ (x : ℕ). bit x b) (get_or-set_other s a i v 0 (eqb-false i a e)) ∙ f.rows i b l

    known : (i b : ℕ) → i < 64 → (c : Bool) → eqb i a ≡ c
        → bit (get_or s₂ (69 + i) 0) b ≡ cond (c || Done need rest i) (knows s₀ i b || bit ask b) (bit (get_or s₀ (69 + i) 0) b)
    known i b l true e =
        let same : i ≡ a = eqb-true i a e in
        rw same (ap (λ (x : ℕ). bit x b) (get_or-set_same s₁ (69 + a) w 0 (rw (length-set s a v) (let p = small in let q = long_s in omega arith)))
        ∙ is' b ∙ ap (λ (x : Bool). (bit (have_of s₀) a && x) || bit ask b) (putting_sure b))
    known i b l false e =
        ap (λ (x : ℕ). bit x b)
        (get_or-set_other s₁ (69 + a) (69 + i) w 0 (λ q. eqb-false i a e (let z : i ≡ a = omega arith in z))
        ∙ get_or-set_other s a (69 + i) v 0 (λ q. let p = small in let z : ⊥ = omega arith in z)) ∙ f.sure i b l

    pub putting_more : Putting ask need r s₀ rest' s₂
    putting_more = record {
      upon = going_on t;
      long = length-set s₁ (69 + a) w ∙ length-set s a v ∙ f.long;
      rows = λ i b l.
          ap (λ (x : ℕ). bit x b) (get_or-set_other s₁ (69 + a) i w 0 (λ q. let z : ⊥ = omega arith in z))
          ∙ row i b l (eqb i a) refl
          ∙ sym (ap (λ (x : Bool). cond (x && bit ask b) (bit (get_or r i 0) b) (bit (get_or s₀ i 0) b)) (done_more t i));
      sure = λ i b l.
          known i b l (eqb i a) refl
          ∙ sym (ap (λ (x : Bool). cond x (knows s₀ i b || bit ask b) (bit (get_or s₀ (69 + i) 0) b)) (done_more t i));
      others = λ i l h.
          get_or-set_other s₁ (69 + a) i w 0 (λ q. let z : ⊥ = omega arith in z)
          ∙ get_or-set_other s a i v 0 (λ q. let p = small in let z : ⊥ = omega arith in z) ∙ f.others i l h;
    }

known_all : (h n k q : Bool) → ((h || n) && cond n ((h && k) || q) k) ≡ ((h && k) || (n && q))
known_all true true k q = refl
known_all true false k q = sym (or-false k)
known_all false true k q = refl
known_all false false k q = refl

pub put_all : {ask need : ℕ} {r s₀ : List ℕ} {rest : ℕ} {s : List ℕ} → Putting ask need r s₀ rest s → rest ≡ 0 → length s₀ ≡ 133
    → Put ask need r s₀ (set s 66 (bit_or (have_of s₀) need))
put_all {ask} {need} {r} {s₀} {rest} {s} f e long = record {
  long = length-set s 66 _ ∙ f.long;
  rows = λ a b l.
      ap (λ (w : ℕ). bit w b) (other a (λ z. let q : ⊥ = omega arith in q)) ∙ f.rows a b l
      ∙ ap (λ (x : Bool). cond (x && bit ask b) (bit (get_or r a 0) b) (bit (get_or s₀ a 0) b)) (done_all need rest a e);
  values = λ y l.
      ap (λ (w : ℕ). byte_of w (y % 8))
      (other (64 + y / 8) (λ z. let q : ⊥ = omega arith in q) ∙ f.others (64 + y / 8) (omega arith) (omega arith));
  have = have;
  variables = other 67 (λ z. let q : ⊥ = omega arith in q) ∙ f.others 67 (omega arith) (omega arith);
  column = other 68 (λ z. let q : ⊥ = omega arith in q) ∙ f.others 68 (omega arith) (omega arith);
  known = λ a b l.
      ap₂ ◌&&◌ (ap (λ (w : ℕ). bit w a) have ∙ bit-or (have_of s₀) need a)
      (ap (λ (w : ℕ). bit w b) (other (69 + a) (λ z. let q : ⊥ = omega arith in q)) ∙ f.sure a b l
      ∙ ap (λ (x : Bool). cond x (knows s₀ a b || bit ask b) (bit (get_or s₀ (69 + a) 0) b)) (done_all need rest a e))
      ∙ known_all (bit (have_of s₀) a) (bit need a) (bit (get_or s₀ (69 + a) 0) b) (bit ask b);
}
  where
    other : (i : ℕ) → (i ≡ 66 → ⊥) → get_or (set s 66 (bit_or (have_of s₀) need)) i 0 ≡ get_or s i 0
    other i n = get_or-set_other s 66 i _ 0 n

    have : have_of (set s 66 (bit_or (have_of s₀) need)) ≡ bit_or (have_of s₀) need
    have = get_or-set_same s 66 _ 0 (let q : length s ≡ length s₀ = f.long in omega arith)

-- ---- the members of want that are not in need, but those in rest, have all of ask
pub record Lacking (s : List ℕ) (ask want rest need : ℕ) : Type 0 where
  pub upon : MembersLeft (bit_and want (have_of s)) rest
  pub within : (a : ℕ) → bit need a ≡ true → bit want a ≡ true
  pub absent : (a : ℕ) → bit want a ≡ true → bit (have_of s) a ≡ false → bit need a ≡ true
  pub known : (a : ℕ) → Done (bit_and want (have_of s)) rest a ≡ true → bit need a ≡ false → (b : ℕ) → bit ask b ≡ true → bit (get_or s (69 + a) 0) b ≡ true

pub lacking : (s : List ℕ) (ask want : ℕ) → bit_and want (have_of s) < 2 ^ 64 → Lacking s ask want (bit_and want (have_of s)) (bit_xor want (bit_and want (have_of s)))
lacking s ask want h = record {
  upon = going _ h;
  within = λ a e. and_left (bit want a) _ (sym (bit_without want (have_of s) a) ∙ e);
  absent = λ a w n. bit_without want (have_of s) a ∙ and_both (bit want a) _ w (ap not n);
  known = λ a e. absurd (not_both _ e (and-not_self (bit (bit_and want (have_of s)) a)));
}

pub lacking_more : {s : List ℕ} {ask want rest need a rest' : ℕ} (w : ℕ) → Lacking s ask want rest need → Turn (bit_and want (have_of s)) rest a rest'
    → ((m : ℕ) → bit w m ≡ true → m ≡ a) → (bit w a ≡ false → (b : ℕ) → bit ask b ≡ true → bit (get_or s (69 + a) 0) b ≡ true)
    → Lacking s ask want rest' (bit_or need w)
lacking_more {s} {ask} {want} {rest} {need} {a} {rest'} w f t only here = record {
  upon = going_on t;
  within = λ k e. ⊎_elim (f.within k) (λ z. subst (λ (j : ℕ). bit want j ≡ true) (sym (only k z)) wants) (or_cases (bit need k) (bit w k) (sym (bit-or need w k) ∙ e));
  absent = λ k e n. bit-or need w k ∙ or_left (bit need k) (bit w k) (f.absent k e n);
  known = λ k e n b q.
      ⊎_elim
      (λ z. let is : k ≡ a = eqb-true k a z in
      subst (λ (j : ℕ). bit (get_or s (69 + j) 0) b ≡ true) (sym is) (here (subst (λ (j : ℕ). bit w j ≡ false) is (right k n)) b q))
      (λ z. f.known k z (left k n) b q)
      (or_cases (eqb k a) (Done (bit_and want (have_of s)) rest k) (sym (done_more t k) ∙ e));
}
  where
    wants : bit want a ≡ true
    wants = and_left (bit want a) (bit (have_of s) a) (sym (bit-and want (have_of s) a) ∙ t.upon.inside a t.next.here)

    left : (k : ℕ) → bit (bit_or need w) k ≡ false → bit need k ≡ false
    left k n = is_false (bit need k) (λ e. not_both _ (bit-or need w k ∙ or_left (bit need k) (bit w k) e) n)

    right : (k : ℕ) → bit (bit_or need w) k ≡ false → bit w k ≡ false
    right k n = is_false (bit w k) (λ e. not_both _ (bit-or need w k ∙ or_right (bit need k) (bit w k) e) n)

pub lacked : {s : List ℕ} {ask want rest need : ℕ} → Lacking s ask want rest need → rest ≡ 0
    → (a : ℕ) → bit want a ≡ true → bit need a ≡ false → (b : ℕ) → bit ask b ≡ true → knows s a b ≡ true
lacked {s} {ask} {want} {rest} {need} f e a w n b q =
    let h : bit (have_of s) a ≡ true = ⊎_elim (λ z. z) (λ z. absurd (not_both (bit need a) (f.absent a w z) n)) (true_or_false (bit (have_of s) a)) in
    and_both (bit (have_of s) a) (bit (get_or s (69 + a) 0) b) h
    (f.known a (done_all _ rest a e ∙ bit-and want (have_of s) a ∙ and_both (bit want a) (bit (have_of s) a) w h) n b q)

-- ---- a slot that is lent
module _ (k : ℕ) (m : List ℕ) (fits : 133 * k + 133 ≤ length m) where
  -- What `&memo[at..at + 133]` lends.
  slot_long : length (slot_of k m) ≡ 133
  slot_long = length-take-le 133 (drop (133 * k) m) (rw (length-drop (133 * k) m) (omega arith))

  module _ (ys : List ℕ) (long : length ys ≡ 133) where
    abbrev m' : List ℕ
    m' = put (133 * k) ys m

    inside : 133 * k + length ys ≤ length m
    inside = rw long fits

    put_long : length m' ≡ length m
    put_long = put_length (133 * k) ys m inside

    slot_put : slot_of k m' ≡ ys
    slot_put = ext_get_or 0 (slot_of k m') ys
        (length-take-le 133 (drop (133 * k) m') (rw (length-drop (133 * k) m', put_long) (omega arith)) ∙ sym long)
        (λ i l.
        let short : i < 133 = rw (length-take-le 133 (drop (133 * k) m') (rw (length-drop (133 * k) m', put_long) (omega arith))) at l in
        get_or-take 133 (drop (133 * k) m') i 0 short ∙ get_or-drop (133 * k) m' i 0
        ∙ put_in (133 * k) ys m inside i (rw long short))

    slot_other : (j : ℕ) → (j ≡ k → ⊥) → slot_of j m' ≡ slot_of j m
    slot_other j n = ext_get_or 0 (slot_of j m') (slot_of j m)
        (length-take 133 (drop (133 * j) m') ∙ ap (min 133) (length-drop (133 * j) m' ∙ ap (λ (z : ℕ). z - 133 * j) put_long ∙ sym (length-drop (133 * j) m))
        ∙ sym (length-take 133 (drop (133 * j) m)))
        (λ i l.
        let short : i < 133 = lt_of_lt_of_le l (rw (length-take 133 (drop (133 * j) m')) (min-le_left 133 (length (drop (133 * j) m')))) in
        get_or-take 133 (drop (133 * j) m') i 0 short ∙ get_or-drop (133 * j) m' i 0
        ∙ put_other (133 * k) ys m inside (133 * j + i) (λ lo hi. n (near i short lo (rw long at hi)))
        ∙ sym (get_or-take 133 (drop (133 * j) m) i 0 short ∙ get_or-drop (133 * j) m i 0))
      where
        near : (i : ℕ) → i < 133 → 133 * k ≤ 133 * j + i → 133 * j + i < 133 * k + 133 → j ≡ k
        near i l lo hi = omega arith

    apart_put : Apart k m m'
    apart_put = record { long = put_long; same = slot_other }

  -- What `&mut memo[at..at + 133]` lends, and what the memo is when it came back as ys.
  abbrev part : List ℕ
  part = take (133 * k + 133 - 133 * k) (drop (133 * k) m)

  abbrev back : List ℕ → List ℕ
  back ys = put_mid (133 * k) (133 * k + 133 - 133 * k) m ys

  part-is : part ≡ slot_of k m
  part-is = ap (λ (n : ℕ). take n (drop (133 * k) m)) (let d : 133 * k + 133 - 133 * k ≡ 133 = omega arith in d)

  pub part_long : length part ≡ 133
  part_long = ap length part-is ∙ slot_long

  back_is : (ys : List ℕ) → length ys ≡ 133 → back ys ≡ put (133 * k) ys m
  back_is ys long = put_back (133 * k) (133 * k + 133) m ys ys refl (ap (λ (z : ℕ). 133 * k + z) long)

  pub lent_back : (ys : List ℕ) → length ys ≡ length part → (slot_of k (back ys) ≡ ys) × Apart k m (back ys)
  lent_back ys e = let long : length ys ≡ 133 = e ∙ part_long in rw (back_is ys long) (slot_put ys long, apart_put ys long)

  pub lent_as : (Q : List ℕ → List ℕ → Type 0) (ys : List ℕ) → length ys ≡ length part → Q part ys → Q (slot_of k m) (slot_of k (back ys))
  lent_as Q ys e q =
      subst (λ (z : List ℕ). Q z (slot_of k (back ys))) part-is (subst (λ (z : List ℕ). Q part z) (sym (lent_back ys e).0) q)

pub apart_same : (k : ℕ) (m : List ℕ) → Apart k m m
apart_same k m = record { long = refl; same = λ j n. refl }

-- What holds of the members that are done, one more of them.
pub done_with : {w rest a rest' : ℕ} (Q : ℕ → Type 0) → Turn w rest a rest' → ((k : ℕ) → Done w rest k ≡ true → Q k) → Q a → (k : ℕ) → Done w rest' k ≡ true → Q k
done_with {w} {rest} {a} Q t h q k e =
    ⊎_elim (λ z. subst Q (sym (eqb-true k a z)) q) (λ z. h k z) (or_cases (eqb k a) (Done w rest k) (sym (done_more t k) ∙ e))

-- ---- a slot looked at, and rows stored in it
pub missing_same : (g : Assignment) (x want need ask : ℕ) (s : List ℕ) → Under s g → (bit (reads_of s) x ≡ true → column_of s ≡ x) → Has ask (asks s g x)
    → ((a : ℕ) → bit need a ≡ true → bit want a ≡ true)
    → ((a : ℕ) → bit want a ≡ true → bit need a ≡ false → (b : ℕ) → bit ask b ≡ true → knows s a b ≡ true) → Missing g x want need s s
missing_same g x want need ask s u col is w k = record {
  variables = refl;
  column = col;
  under = u;
  same = λ a e. refl;
  within = w;
  known = λ a e n b q. k a e n b (is b ∙ q);
}

pub missing_all : (g : Assignment) (x want : ℕ) (s s' : List ℕ) → have_of s' ≡ 0 → reads_of s' ≡ reads_of s → (bit (reads_of s) x ≡ true → column_of s' ≡ x)
    → ((y : ℕ) → y < 16 → value_of s' y ≡ g y) → Missing g x want want s s'
missing_all g x want s s' e r col u = record {
  variables = r;
  column = λ z. col (ap (λ (w : ℕ). bit w x) (sym r) ∙ z);
  under = λ y l z n. u y l;
  same = λ a z. absurd (true≢false (sym z ∙ ap (λ (w : ℕ). bit w a) e ∙ bit_zero a));
  within = λ a z. z;
  known = λ a z n. absurd (not_both (bit want a) z n);
}

pub stored : (g : Assignment) (x all need want ask : ℕ) {s r s' r' : List ℕ} → Has ask (asks s g x) → Put ask need r s s' → length r' ≡ length r → length r ≡ 64
    → Shown (bit_xor want (bit_and want need)) (λ a. shows s g x all (get_or s' a 0)) r r' → Stored g x all need want s r s' r'
stored g x all need want ask {s} {r} {s'} {r'} is p same long c = record {
  ask = ask;
  asked = is;
  put = p;
  long = same ∙ long;
  out = λ a l. c a ∙ ap (λ (t : Bool). cond t (shows s g x all (get_or s' a 0)) (get_or r a 0)) (bit_without want need a);
}
