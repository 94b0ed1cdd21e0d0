-- The edges of the present graph: a row of it, where a label can lead from, and what leads to a set.
use Prim.Native.Nat.{ℕ, ◌+◌, ◌-◌, ◌*◌, ◌/◌, ◌%◌, ◌^◌, ◌<◌, ◌≤◌}
use mathlib.Core.Path.{◌≡◌, sym, ap, ap₂, ◌∙◌, subst}
use mathlib.Core.Bool.{Bool, true, false, cond, not, ◌&&◌, and-true, and-false}
use mathlib.Core.List.{List}
use mathlib.Core.Logic.{⊎_elim}
use native.Mathlib.Omega.{arith}
use lib.Dec.{eqb, ltb}
use lib.ListN.{take, drop, length, get_or}
use lib.Seq.{get_or-take, get_or-drop}
use lib.Bits.{bit_and}
use borrow.Author.Tests.{lt-ltb, le-ltb, ltb-true, eqb-true, eqb-false, eq-eqb, ne_eqb, not-true}
use Rattle.sets.specs.Sets.{any_below, count_below, bit}
use Rattle.sets.proofs.Finite.{and_left, and_right, and_both, and_under, is_false, not_both, any_elim, any_cong, count_cong, true_or_false}
use Rattle.sets.proofs.Bits.{bit_zero, bit-and}
use Rattle.deciding.specs.private.Rows.{fired, edge, Rows, Has, in_row, behind, scattered, Senders}
use Rattle.deciding.proofs.Counting.{swept_in, single-is, only-is}

-- ---- the event's row

pub fired_no_event : (v j a : ℕ) → v ≡ 0 → Has 0 (fired v j a)
unfolding fired
fired_no_event v j a h b = bit_zero b ∙ sym (rw (eq-eqb v 0 h))

pub fired_other_event : (v j a : ℕ) → (v ≡ 0 → ⊥) → ((v - 1) / 4096 ≡ j → ⊥) → Has 0 (fired v j a)
unfolding fired
fired_other_event v j a h e b = bit_zero b ∙ sym (rw (ne_eqb v 0 h, ne_eqb _ j e))

pub fired_other_member : (v j a : ℕ) → (v ≡ 0 → ⊥) → (v - 1) / 4096 ≡ j → ((v - 1) / 64 % 64 ≡ a → ⊥) → Has 0 (fired v j a)
unfolding fired
fired_other_member v j a h e n b = bit_zero b ∙ sym (rw (ne_eqb v 0 h, eq-eqb _ j e, ne_eqb _ a n))

pub fired_here : (v j a s : ℕ) → (v ≡ 0 → ⊥) → (v - 1) / 4096 ≡ j → (v - 1) / 64 % 64 ≡ a → Has s (λ m. ltb m 64 && eqb m ((v - 1) % 64))
    → Has s (fired v j a)
unfolding fired
fired_here v j a s h e n q b =
    single-is s ((v - 1) % 64) q (omega arith) b ∙ sym (rw (ne_eqb v 0 h, eq-eqb _ j e, eq-eqb _ a n))

-- ---- a row of the graph

pub edge_relation : (r : ℕ) (rel : List ℕ) (v l a b : ℕ) → l < r → bit (get_or rel (64 * l + a) 0) b ≡ edge r rel v l a b
unfolding edge
edge_relation r rel v l a b h = rw (lt-ltb l r h)

pub edge_event : (r : ℕ) (rel : List ℕ) (v l a b : ℕ) → r ≤ l → fired v (l - r) a b ≡ edge r rel v l a b
unfolding edge
edge_event r rel v l a b h = rw (le-ltb l r h)

-- A label whose event has no edge.
pub absent : (r v l : ℕ) → r ≤ l → ((a : ℕ) → Has 0 (fired v (l - r) a)) → (rel : List ℕ) (a b : ℕ) → edge r rel v l a b ≡ false
absent r v l h none rel a b = sym (edge_event r rel v l a b h) ∙ sym (none a b) ∙ bit_zero b

-- ---- where a label can lead from

fired_from : (v j a b : ℕ) → fired v j a b ≡ true → (v ≡ 0 → ⊥) × ((v - 1) / 64 % 64 ≡ a)
unfolding fired
fired_from v j a b e =
    let x : (eqb ((v - 1) / 4096) j && (eqb ((v - 1) / 64 % 64) a && eqb b ((v - 1) % 64))) ≡ true = and_right (not (eqb v 0)) _ e in (
      eqb-false v 0 (not-true (eqb v 0) (and_left (not (eqb v 0)) _ e)),
      eqb-true ((v - 1) / 64 % 64) a (and_left (eqb ((v - 1) / 64 % 64) a) _ (and_right (eqb ((v - 1) / 4096) j) _ x)),
    )

pub senders_none : (r v l want : ℕ) → r ≤ l → v ≡ 0 → Senders r v l want 0
senders_none r v l want h z = record {
  within = λ a e. absurd (not_both _ e (bit_zero a));
  enough = λ rel a b w e. absurd ((fired_from v (l - r) a b (edge_event r rel v l a b h ∙ e)).0 z);
}

pub senders_event : (r v l want s : ℕ) → r ≤ l → Has s (λ m. ltb m 64 && eqb m ((v - 1) / 64 % 64)) → Senders r v l want (bit_and want s)
senders_event r v l want s h q = record {
  within = λ a e. and_left (bit want a) _ (sym (bit-and want s a) ∙ e);
  enough = λ rel a b w e.
      bit-and want s a
      ∙ and_both (bit want a) (bit s a) w
      (single-is s ((v - 1) / 64 % 64) q (omega arith) a
      ∙ eq-eqb a ((v - 1) / 64 % 64) (sym (fired_from v (l - r) a b (edge_event r rel v l a b h ∙ e)).1));
}

-- ---- what leads to a set

pub behind_none : (v j from set : ℕ) → v ≡ 0 → Has 0 (behind (fired v j) from set)
behind_none v j from set z k =
    bit_zero k ∙ sym (ap (λ (t : Bool). bit from k && t) (is_false _ (λ e.
    let y : (b : ℕ) × (b < 64) × ((fired v j k b && bit set b) ≡ true) = any_elim 64 (λ b. fired v j k b && bit set b) e in
    (fired_from v j k y.0 (and_left (fired v j k y.0) _ y.2)).0 z)) ∙ and-false (bit from k))

pub behind_fired : (v j a from set row : ℕ) (c : Bool) (s : ℕ) → a ≡ (v - 1) / 64 % 64 → Has row (fired v j a)
    → c ≡ any_below 64 (λ k. bit row k && bit set k)
    → Has s (λ m. ltb m 64 && eqb m a) → Has (cond c (bit_and from s) 0) (behind (fired v j) from set)
behind_fired v j a from set row c s q hr hc hs k =
    only-is c (bit_and from s) k
    ∙ ap₂ (λ (x y : Bool). x && y)
    (bit-and from s k ∙ ap (λ (t : Bool). bit from k && t) (single-is s a hs (subst (λ (x : ℕ). x < 64) (sym q) (omega arith)) k))
    (hc ∙ any_cong 64 (λ b l. ap (λ (t : Bool). t && bit set b) (hr b)))
    ∙ ⊎_elim
    (λ e. ap (λ (t : Bool). (bit from k && t) && any_below 64 (λ b. fired v j a b && bit set b)) e
    ∙ ap₂ (λ (x : Bool) (m : ℕ). x && any_below 64 (λ b. fired v j m b && bit set b)) (and-true (bit from k)) (sym (eqb-true k a e)))
    (λ e. ap (λ (t : Bool). (bit from k && t) && any_below 64 (λ b. fired v j a b && bit set b)) e
    ∙ ap (λ (t : Bool). t && any_below 64 (λ b. fired v j a b && bit set b)) (and-false (bit from k))
    ∙ sym (ap (λ (t : Bool). bit from k && t) (is_false _ (λ u.
    let y : (b : ℕ) × (b < 64) × ((fired v j k b && bit set b) ≡ true) = any_elim 64 (λ b. fired v j k b && bit set b) u in
    eqb-false k a e (sym (fired_from v j k y.0 (and_left (fired v j k y.0) _ y.2)).1 ∙ sym q))) ∙ and-false (bit from k)))
    (true_or_false (eqb k a))

pub behind_edge : (r : ℕ) (rel : List ℕ) (v l from set : ℕ) → r ≤ l → (a : ℕ)
    → behind (fired v (l - r)) from set a ≡ behind (edge r rel v l) from set a
behind_edge r rel v l from set h a =
    ap (λ (t : Bool). bit from a && t) (any_cong 64 (λ b k. ap (λ (t : Bool). t && bit set b) (edge_event r rel v l a b h)))

-- The rows of relation l, as a part of all.
part_rows : (rel : List ℕ) (l r v a b : ℕ) → l < r → 64 * l + 64 ≤ length rel → a < 64
    → in_row (take 64 (drop (64 * l) rel)) a b ≡ edge r rel v l a b
part_rows rel l r v a b h n k = ap (λ (x : ℕ). bit x b) (rw (get_or-take, get_or-drop)) ∙ edge_relation r rel v l a b h

pub behind_part : (rel : List ℕ) (r v l n from set s : ℕ) → from < 2 ^ 64 → l < r → 64 * l + 64 ≤ length rel → n ≡ 64
    → Has s (λ a. ltb a 64 && any_below 64 (λ b. in_row (take n (drop (64 * l) rel)) a b && bit set b))
    → Has (bit_and from s) (behind (edge r rel v l) from set)
behind_part rel r v l n from set s h lt long e q =
    swept_in from s (λ j. any_below 64 (λ b. edge r rel v l j b && bit set b)) h
    (λ a. q a ∙ and_under (ltb a 64) (any_below 64 (λ b. in_row (take n (drop (64 * l) rel)) a b && bit set b))
    (any_below 64 (λ b. edge r rel v l a b && bit set b))
    (λ t. any_cong 64 (λ b k. ap (λ (u : Bool). u && bit set b)
    (ap (λ (m : ℕ). in_row (take m (drop (64 * l) rel)) a b) e ∙ part_rows rel l r v a b lt long (ltb-true a 64 t)))))

-- ---- what a turn writes

pub gathered_row : (row : ℕ) (e q : ℕ → Bool) → Has row e → count_below 64 (λ k. bit row k && q k) ≡ count_below 64 (λ k. e k && q k)
gathered_row row e q h = count_cong 64 (λ k l. ap (λ (t : Bool). t && q k) (h k))

pub scattered_row : (want row w : ℕ) (e : ℕ → Bool) → Has row e → (a b : ℕ) → (bit (bit_and want row) a && bit w b) ≡ ((bit want a && e a) && bit w b)
scattered_row want row w e h a b = ap (λ (t : Bool). t && bit w b) (bit-and want row a ∙ ap (λ (t : Bool). bit want a && t) (h a))

-- What is scattered from the members of from, cut to the rows of want.
pub scattered_rows : (from want : ℕ) (E : ℕ → ℕ → Bool) (f r : List ℕ) → length r ≡ 64
    → ((a b : ℕ) → in_row r a b ≡ any_below 64 (λ c. bit from c && ((bit want a && E c a) && in_row f c b))) → Rows want (scattered E from f) r
scattered_rows from want E f r long h = record {
  long = long;
  bits = λ a b w.
      h a b ∙ any_cong 64 (λ c l. ap (λ (t : Bool). bit from c && ((t && E c a) && in_row f c b)) w);
}
