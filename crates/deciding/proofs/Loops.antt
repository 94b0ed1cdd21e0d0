-- Loops over the members of a set, least first, and over the numbers below 64: of each shape
-- its start, one turn and its end.
use Prim.Native.Nat.{ℕ, ◌^◌, ◌<◌}
use mathlib.Core.Path.{◌≡◌, refl, sym, ap, ap₂, ◌∙◌, subst, fun_ext}
use mathlib.Core.Bool.{Bool, true, false, cond, not, ◌&&◌, ◌||◌, and-not_self, or-false, or_comm, true≢false, and-false}
use mathlib.Core.List.{List}
use mathlib.Core.Logic.{⊎_elim}
use native.Mathlib.Omega.{arith}
use lib.Dec.{eqb}
use lib.ListN.{length, get_or, set, replicate, length-replicate, length-set}
use lib.Seq.{get_or-set_same, get_or-set_other}
use lib.Bits.{bit_or}
use borrow.Author.Tests.{eqb-true, eqb-false, eq-eqb}
use Rattle.sets.specs.Sets.{any_below, bit}
use Rattle.sets.proofs.Finite.{bool_iff, and_left, and_right, and_both, or_left, or_right, or_cases, is_false, not_both}
use Rattle.sets.proofs.Finite.{any_intro, any_elim, true_or_false}
use Rattle.sets.proofs.Bits.{bit_zero, bit-or}
pub use Rattle.sets.proofs.MemberLoop.{Done, MembersLeft, going, Turn, turn, turn_of, taken_small, taken_wanted, least_small, least_wanted, rest_less, done_all, going_on, done_more}
pub use Rattle.sets.proofs.Tally.{zeros}
use Rattle.deciding.specs.private.Rows.{Rows, in_row, Only, Added}

-- ---- rows
pub zero_rows : {r : List ℕ} → r ≡ replicate 64 0 → (a b : ℕ) → in_row r a b ≡ false
zero_rows e a b = ap (λ (l : List ℕ). bit (get_or l a 0) b) e ∙ ap (λ (x : ℕ). bit x b) (zeros 64 a) ∙ bit_zero b

pub zero_long : {r : List ℕ} → r ≡ replicate 64 0 → length r ≡ 64
zero_long e = ap length e ∙ length-replicate {A = ℕ} 64 0

cond_none : (x y : Bool) → cond x y false ≡ (x && y)
cond_none true y = refl
cond_none false y = refl

row_set : (r : List ℕ) (a w k b : ℕ) → a < length r → in_row (set r a w) k b ≡ cond (eqb k a) (bit w b) (in_row r k b)
row_set r a w k b h =
    ⊎_elim
    (λ e. ap (λ (j : ℕ). in_row (set r a w) j b) (eqb-true k a e) ∙ ap (λ (x : ℕ). bit x b) (get_or-set_same r a w 0 h)
    ∙ sym (ap (λ (t : Bool). cond t (bit w b) (in_row r k b)) e))
    (λ e. ap (λ (x : ℕ). bit x b) (get_or-set_other r a k w 0 (eqb-false k a e))
    ∙ sym (ap (λ (t : Bool). cond t (bit w b) (in_row r k b)) e))
    (true_or_false (eqb k a))

-- One row, put into empty ones.
pub alone : {r : List ℕ} (c w : ℕ) → r ≡ replicate 64 0 → c < 64 → (a b : ℕ) → in_row (set r c w) a b ≡ (eqb a c && bit w b)
alone {r} c w e h a b =
    row_set r c w a b (subst (λ (n : ℕ). c < n) (sym (zero_long e)) h)
    ∙ ap (cond (eqb a c) (bit w b)) (zero_rows e a b) ∙ cond_none (eqb a c) (bit w b)

-- Rows that say the same of the members of want.
pub rows_map : {want : ℕ} {p q : ℕ → ℕ → Bool} {r : List ℕ} → Rows want p r → ((a b : ℕ) → bit want a ≡ true → p a b ≡ q a b) → Rows want q r
rows_map f h = record { long = f.long; bits = λ a b w. f.bits a b w ∙ h a b w }

-- An empty set has no rows.
pub no_rows : {want : ℕ} (p : ℕ → ℕ → Bool) {r : List ℕ} → want ≡ 0 → length r ≡ 64 → Rows want p r
no_rows p e n = record { long = n; bits = λ a b w. absurd (true≢false (sym w ∙ ap (λ (y : ℕ). bit y a) e ∙ bit_zero a)) }

-- ---- such a loop that fills a row a turn; the rows of r₀ stand where it has not been
pub record Filling (want : ℕ) (p : ℕ → ℕ → Bool) (r₀ : List ℕ) (rest : ℕ) (r : List ℕ) : Type 0 where
  pub upon : MembersLeft want rest
  pub long : length r ≡ 64
  pub bits : (a b : ℕ) → in_row r a b ≡ cond (Done want rest a) (p a b) (in_row r₀ a b)

pub filling : {want : ℕ} (p : ℕ → ℕ → Bool) {r : List ℕ} → want < 2 ^ 64 → length r ≡ 64 → Filling want p r want r
filling {want} p {r} h n = record {
  upon = going want h;
  long = n;
  bits = λ a b. sym (ap (λ (x : Bool). cond x (p a b) (in_row r a b)) (and-not_self (bit want a)));
}

-- From rows that are empty.
pub filling_empty : {want : ℕ} (p : ℕ → ℕ → Bool) {r : List ℕ} → want < 2 ^ 64 → r ≡ replicate 64 0 → Filling want p (replicate 64 0) want r
filling_empty {want} p {r} h e = subst (λ (z : List ℕ). Filling want p z want r) e (filling p h (zero_long e))

pub filling_more : {want : ℕ} {p : ℕ → ℕ → Bool} {rest a rest' : ℕ} {r₀ r : List ℕ} (w : ℕ) → Filling want p r₀ rest r → Turn want rest a rest'
    → ((b : ℕ) → bit w b ≡ p a b) → Filling want p r₀ rest' (set r a w)
filling_more {want} {p} {rest} {a} {rest'} {r₀} {r} w f t h = record {
  upon = going_on t;
  long = length-set r a w ∙ f.long;
  bits = λ k b.
      row_set r a w k b (subst (λ (x : ℕ). a < x) (sym f.long) t.next.small)
      ∙ ⊎_elim
      (λ e. ap (λ (y : Bool). cond y (bit w b) (in_row r k b)) e ∙ h b ∙ ap (λ (x : ℕ). p x b) (sym (eqb-true k a e))
      ∙ sym (ap (λ (y : Bool). cond y (p k b) (in_row r₀ k b)) (done_more t k ∙ ap (λ (y : Bool). y || Done want rest k) e)))
      (λ e. ap (λ (y : Bool). cond y (bit w b) (in_row r k b)) e ∙ f.bits k b
      ∙ sym (ap (λ (y : Bool). cond y (p k b) (in_row r₀ k b)) (done_more t k ∙ ap (λ (y : Bool). y || Done want rest k) e)))
      (true_or_false (eqb k a));
}

-- A row that is to come is as it was.
pub filling_next : {want : ℕ} {p : ℕ → ℕ → Bool} {rest a rest' : ℕ} {r₀ r : List ℕ} → Filling want p r₀ rest r → Turn want rest a rest'
    → (b : ℕ) → in_row r a b ≡ in_row r₀ a b
filling_next {want} {p} {rest} {a} {rest'} {r₀} f t b =
    f.bits a b
    ∙ ap (λ (x : Bool). cond (bit want a && not x) (p a b) (in_row r₀ a b)) t.next.here
    ∙ ap (λ (x : Bool). cond x (p a b) (in_row r₀ a b)) (and-false (bit want a))

filling_all : {want : ℕ} {p : ℕ → ℕ → Bool} {rest : ℕ} {r₀ r : List ℕ} → Filling want p r₀ rest r → rest ≡ 0
    → (a b : ℕ) → in_row r a b ≡ cond (bit want a) (p a b) (in_row r₀ a b)
filling_all {want} {p} {rest} {r₀} f e a b = f.bits a b ∙ ap (λ (x : Bool). cond x (p a b) (in_row r₀ a b)) (done_all want rest a e)

pub filled : {want : ℕ} {p : ℕ → ℕ → Bool} {rest : ℕ} {r₀ r : List ℕ} → Filling want p r₀ rest r → rest ≡ 0 → Rows want p r
filled {want} {p} {rest} {r₀} f e = record {
  long = f.long;
  bits = λ a b w. filling_all f e a b ∙ ap (λ (x : Bool). cond x (p a b) (in_row r₀ a b)) w;
}

pub filled_only : {want : ℕ} {p : ℕ → ℕ → Bool} {rest : ℕ} {r : List ℕ} → Filling want p (replicate 64 0) rest r → rest ≡ 0 → Only want p r
filled_only {want} {p} f e a b =
    filling_all f e a b ∙ ap (cond (bit want a) (p a b)) (zero_rows refl a b) ∙ cond_none (bit want a) (p a b)

-- ---- some member that is done has p
abbrev Some : ℕ → ℕ → (ℕ → Bool) → Bool
Some want rest p = any_below 64 (λ c. Done want rest c && p c)

some_none : (want : ℕ) (p : ℕ → Bool) → Some want want p ≡ false
some_none want p =
    is_false (Some want want p) (λ e.
    let w : (k : ℕ) × (k < 64) × ((Done want want k && p k) ≡ true) = any_elim 64 (λ c. Done want want c && p c) e in
    not_both _ (and_left (Done want want w.0) (p w.0) w.2) (and-not_self (bit want w.0)))

some_more : {want rest a rest' : ℕ} (p : ℕ → Bool) → Turn want rest a rest' → (p a || Some want rest p) ≡ Some want rest' p
some_more {want} {rest} {a} {rest'} p t =
    bool_iff _ _
    (λ e. ⊎_elim
    (λ q. any_intro 64 (λ c. Done want rest' c && p c) a t.next.small
    (and_both (Done want rest' a) (p a) (done_more t a ∙ or_left (eqb a a) (Done want rest a) (eq-eqb a a refl)) q))
    (λ q.
    let w : (k : ℕ) × (k < 64) × ((Done want rest k && p k) ≡ true) = any_elim 64 (λ c. Done want rest c && p c) q in
    any_intro 64 (λ c. Done want rest' c && p c) w.0 w.1
    (and_both (Done want rest' w.0) (p w.0)
    (done_more t w.0 ∙ or_right (eqb w.0 a) (Done want rest w.0) (and_left (Done want rest w.0) (p w.0) w.2))
    (and_right (Done want rest w.0) (p w.0) w.2)))
    (or_cases (p a) (Some want rest p) e))
    (λ e.
    let w : (k : ℕ) × (k < 64) × ((Done want rest' k && p k) ≡ true) = any_elim 64 (λ c. Done want rest' c && p c) e in
    let k = w.0 in
    ⊎_elim
    (λ q. or_left (p a) (Some want rest p) (subst (λ (x : ℕ). p x ≡ true) (eqb-true k a q) (and_right (Done want rest' k) (p k) w.2)))
    (λ q. or_right (p a) (Some want rest p)
    (any_intro 64 (λ c. Done want rest c && p c) k w.1 (and_both (Done want rest k) (p k) q (and_right (Done want rest' k) (p k) w.2))))
    (or_cases (eqb k a) (Done want rest k) (sym (done_more t k) ∙ and_left (Done want rest' k) (p k) w.2)))

some_all : (want rest : ℕ) (p : ℕ → Bool) → rest ≡ 0 → Some want rest p ≡ any_below 64 (λ c. bit want c && p c)
some_all want rest p e = ap (any_below 64) (fun_ext (λ c. ap (λ (x : Bool). x && p c) (done_all want rest c e)))

-- ---- such a loop that adds to a set
pub record Adding (want : ℕ) (p : ℕ → ℕ → Bool) (rest s : ℕ) : Type 0 where
  pub upon : MembersLeft want rest
  pub bits : (b : ℕ) → bit s b ≡ Some want rest (λ c. p c b)

pub adding : (want : ℕ) (p : ℕ → ℕ → Bool) → want < 2 ^ 64 → Adding want p want 0
adding want p h = record { upon = going want h; bits = λ b. bit_zero b ∙ sym (some_none want (λ c. p c b)) }

pub adding_more : {want : ℕ} {p : ℕ → ℕ → Bool} {rest a rest' s : ℕ} (w : ℕ) → Adding want p rest s → Turn want rest a rest'
    → ((b : ℕ) → bit w b ≡ p a b) → Adding want p rest' (bit_or s w)
adding_more {want} {p} {rest} {a} {rest'} {s} w f t h = record {
  upon = going_on t;
  bits = λ b.
      bit-or s w b ∙ ap₂ ◌||◌ (f.bits b) (h b) ∙ or_comm (Some want rest (λ c. p c b)) (p a b) ∙ some_more (λ c. p c b) t;
}

pub adding_all : {want : ℕ} {p : ℕ → ℕ → Bool} {rest s : ℕ} → Adding want p rest s → rest ≡ 0 → (b : ℕ)
    → bit s b ≡ any_below 64 (λ c. bit want c && p c b)
adding_all {want} {p} {rest} f e b = f.bits b ∙ some_all want rest (λ c. p c b) e

-- ---- such a loop that adds rows: of each c that is done, those b that have p c a b to the row of a
pub record Scattering (from : ℕ) (p : ℕ → ℕ → ℕ → Bool) (rest : ℕ) (r : List ℕ) : Type 0 where
  pub upon : MembersLeft from rest
  pub long : length r ≡ 64
  pub bits : (a b : ℕ) → in_row r a b ≡ Some from rest (λ c. p c a b)

pub scattering : {from : ℕ} (p : ℕ → ℕ → ℕ → Bool) {r : List ℕ} → from < 2 ^ 64 → r ≡ replicate 64 0 → Scattering from p from r
scattering {from} p h e = record {
  upon = going from h;
  long = zero_long e;
  bits = λ a b. zero_rows e a b ∙ sym (some_none from (λ c. p c a b));
}

pub scattering_more : {from : ℕ} {p : ℕ → ℕ → ℕ → Bool} {rest c rest' : ℕ} {r r' : List ℕ} (add : ℕ → ℕ → Bool) → Scattering from p rest r
    → Turn from rest c rest'
    → length r' ≡ length r → Added r add r' → ((a b : ℕ) → add a b ≡ p c a b) → Scattering from p rest' r'
scattering_more {from} {p} {rest} {c} {rest'} {r} {r'} add f t e h q = record {
  upon = going_on t;
  long = e ∙ f.long;
  bits = λ a b. h a b ∙ ap₂ ◌||◌ (f.bits a b) (q a b) ∙ or_comm (Some from rest (λ k. p k a b)) (p c a b) ∙ some_more (λ k. p k a b) t;
}

pub scattering_all : {from : ℕ} {p : ℕ → ℕ → ℕ → Bool} {rest : ℕ} {r : List ℕ} → Scattering from p rest r → rest ≡ 0
    → (a b : ℕ) → in_row r a b ≡ any_below 64 (λ c. bit from c && p c a b)
scattering_all {from} {p} {rest} f e a b = f.bits a b ∙ some_all from rest (λ c. p c a b) e

-- ---- such a loop that adds w to the row of each member
pub record Joining (set w : ℕ) (t₀ : List ℕ) (rest : ℕ) (t : List ℕ) : Type 0 where
  pub upon : MembersLeft set rest
  pub long : length t ≡ length t₀
  pub bits : (a b : ℕ) → in_row t a b ≡ (in_row t₀ a b || (Done set rest a && bit w b))

or_again : (x y z : Bool) → ((x || (z && y)) || y) ≡ (x || y)
or_again true y z = refl
or_again false true true = refl
or_again false true false = refl
or_again false false true = refl
or_again false false false = refl

pub joining : (set w : ℕ) (t : List ℕ) → set < 2 ^ 64 → Joining set w t set t
joining set w t h = record {
  upon = going set h;
  long = refl;
  bits = λ a b. sym (or-false (in_row t a b)) ∙ sym (ap (λ (x : Bool). in_row t a b || (x && bit w b)) (and-not_self (bit set a)));
}

pub joining_more : {want w : ℕ} {t₀ t : List ℕ} {rest a rest' : ℕ} → Joining want w t₀ rest t → Turn want rest a rest' → length t₀ ≡ 64
    → Joining want w t₀ rest' (set t a (bit_or (get_or t a 0) w))
joining_more {want} {w} {t₀} {t} {rest} {a} {rest'} f n h = record {
  upon = going_on n;
  long = length-set t a _ ∙ f.long;
  bits = λ k b.
      row_set t a (bit_or (get_or t a 0) w) k b (let x : a < 64 = n.next.small in let y : length t ≡ length t₀ = f.long in omega arith)
      ∙ ⊎_elim
      (λ e. ap (λ (x : Bool). cond x (bit (bit_or (get_or t a 0) w) b) (in_row t k b)) e ∙ bit-or (get_or t a 0) w b
      ∙ ap (λ (x : Bool). x || bit w b) (ap (λ (x : ℕ). in_row t x b) (sym (eqb-true k a e)) ∙ f.bits k b)
      ∙ or_again (in_row t₀ k b) (bit w b) (Done want rest k)
      ∙ sym (ap (λ (x : Bool). in_row t₀ k b || (x && bit w b)) (done_more n k ∙ ap (λ (x : Bool). x || Done want rest k) e)))
      (λ e. ap (λ (x : Bool). cond x (bit (bit_or (get_or t a 0) w) b) (in_row t k b)) e ∙ f.bits k b
      ∙ sym (ap (λ (x : Bool). in_row t₀ k b || (x && bit w b)) (done_more n k ∙ ap (λ (x : Bool). x || Done want rest k) e)))
      (true_or_false (eqb k a));
}

pub joining_all : {want w : ℕ} {t₀ t : List ℕ} {rest : ℕ} → Joining want w t₀ rest t → rest ≡ 0 → Added t₀ (λ a b. bit want a && bit w b) t
joining_all {want} {w} {t₀} {t} {rest} f e a b = f.bits a b ∙ ap (λ (x : Bool). in_row t₀ a b || (x && bit w b)) (done_all want rest a e)
