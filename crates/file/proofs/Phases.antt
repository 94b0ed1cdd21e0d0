-- What holds of a file read so far, by its phase; and what the order tests say of the phase.
use Prim.Native.Nat.{ℕ, ◌+◌, ◌*◌, ◌/◌, ◌%◌, ◌≤◌, ◌<◌}
use mathlib.Core.Path.{◌≡◌, refl}
use mathlib.Core.Logic.{◌⊎◌, inl, inr, ⊎_elim}
use mathlib.Core.List.{[]}
use mathlib.Core.Bool.{true, false, ◌&&◌, ◌||◌}
use native.Mathlib.Omega.{arith}
use lib.Dec.{eqb, ltb, leb}
use borrow.Author.Tests.{eq-eqb, eqb-true, ltb-true, leb-true, le-leb}
use Rattle.sets.proofs.Finite.{and_left, and_right, and_both, or_cases}
use Rattle.theory.specs.Formula.{number}
use Rattle.theory.specs.Columns.{pair_word, pair_bit}
use Rattle.theory.specs.Moment.{Event}
use Rattle.file.specs.File.{File, nothing}
use Rattle.file.specs.Reading.{complete, rises, rises_pair}
use Rattle.file.proofs.Fit.{EntriesFit, PoliciesFit, MarksFit, EffectsFit, Inside, InsideTables, tables_none, UpTo, EventFits, code, effects_none, inside_none, up_to_none, event_none}

pub record FileFits (f : File) : Type 0 where
  pub entries : EntriesFit f.terms.members (f.terms.relations + 2 * f.terms.events) f.terms.entries f.terms.entry
  pub policies : PoliciesFit f.policies f.terms.events f.terms.entries f.terms.entry f.terms.policy
  pub marks : MarksFit f.marks f.terms.events f.terms.kept
  pub effects : EffectsFit f.event f.terms.events f.terms.relations f.terms.effects
  pub edges : Inside f.terms.relations f.terms.members f.edges
  pub bits : InsideTables f.terms f.table
  pub last : EventFits f.terms.events f.terms.members f.last
  pub edges_rise : f.phase < 7 → UpTo f.edges f.relation f.from f.to
  pub bits_rise : UpTo f.table f.relation f.from f.to
  pub short : (f.from < 64) × (f.to < 64)
  pub members : 1 ≤ f.phase → (0 < f.terms.members) × (f.terms.members < 65)
  pub labels : 2 ≤ f.phase → (f.terms.relations < 17) × (0 < f.terms.events) × (f.terms.events < 17)
  pub no_entries : f.phase < 3 → f.terms.entries ≡ 0
  pub no_policies : f.phase < 4 → f.policies ≡ 0
  pub no_marks : (f.phase < 4) ⊎ (f.policies < f.terms.events) → f.marks ≡ 0
  pub no_effects : f.phase < 5 → (j : ℕ) → f.terms.effects j ≡ []
  pub no_event : f.phase < 5 → f.event ≡ 0
  pub no_edges : f.phase < 6 → (k a b : ℕ) → f.edges k a b ≡ false
  pub no_bits : f.phase < 7 → (t a b : ℕ) → f.table t a b ≡ false
  pub no_last : f.phase < 8 → f.last ≡ Event.none
  pub old : f.stored ≡ false → f.phase < 7

-- Nothing has been said.
pub going_first : FileFits nothing
unfolding nothing
going_first = record {
  entries = record {
    few = omega arith;
    few_tables = unfold number in omega arith;
    fit = λ n l. absurd (omega arith);
    blank = λ n l. refl;
  };
  policies = record {
    few = omega arith;
    exists = λ j l. absurd (omega arith);
    free = λ j l. absurd (omega arith);
    blank = λ j l. refl;
  };
  marks = record { few = omega arith; later = λ j l. refl };
  effects = effects_none 0 0 0 _ (λ j. refl);
  edges = inside_none (λ k a b. refl);
  bits = tables_none (λ t a b. refl);
  last = event_none refl;
  edges_rise = λ l. up_to_none (λ k a b. refl);
  bits_rise = up_to_none (λ t a b. refl);
  short = (omega arith, omega arith);
  members = λ l. absurd (omega arith);
  labels = λ l. absurd (omega arith);
  no_entries = λ l. refl;
  no_policies = λ l. refl;
  no_marks = λ l. refl;
  no_effects = λ l j. refl;
  no_event = λ l. refl;
  no_edges = λ l k a b. refl;
  no_bits = λ l t a b. refl;
  no_last = λ l. refl;
  old = λ e. omega arith;
}

-- ---- what the order tests say

module _ (f : File) where
  pub entry_phase : eqb f.phase 2 || eqb f.phase 3 ≡ true → (2 ≤ f.phase) × (f.phase < 4)
  entry_phase h =
      ⊎_elim
      (λ e. let q = eqb-true f.phase 2 e in (omega arith, omega arith))
      (λ e. let q = eqb-true f.phase 3 e in (omega arith, omega arith))
      (or_cases (eqb f.phase 2) _ h)

  pub policy_phase : leb 2 f.phase && leb f.phase 4 ≡ true → (2 ≤ f.phase) × (f.phase < 5)
  policy_phase h =
      let q = leb-true f.phase 4 (and_right (leb 2 f.phase) _ h) in
      (leb-true 2 f.phase (and_left (leb 2 f.phase) _ h), omega arith)

  pub complete_phase : complete f ≡ true → 2 ≤ f.phase
  complete_phase h = leb-true 2 f.phase (and_left (leb 2 f.phase) _ h)

  pub complete_policies : complete f ≡ true → f.policies ≡ f.terms.events
  complete_policies h = eqb-true f.policies f.terms.events (and_right (leb 2 f.phase) _ h)

  pub complete-is : 2 ≤ f.phase → f.policies ≡ f.terms.events → complete f ≡ true
  complete-is l e = and_both (leb 2 f.phase) _ (le-leb 2 f.phase l) (eq-eqb f.policies f.terms.events e)

  -- An edge or bit is the first of its kind, or its number is above the last one's.
  pub rises_code : (kind k a b : ℕ) → a < 64 → b < 64 → (f.from < 64) × (f.to < 64) → rises kind f k a b ≡ true
      → (f.phase < kind) ⊎ (code f.relation f.from f.to < code k a b)
  rises_code kind k a b p q s h =
      let s0 = s.0 in let s1 = s.1 in
      ⊎_elim
      (λ t. inl (ltb-true f.phase kind t))
      (λ t. inr (⊎_elim
      (λ u. let v = ltb-true f.relation k u in omega arith)
      (λ u. let v = eqb-true f.relation k (and_left (eqb f.relation k) _ u) in
      ⊎_elim
      (λ w. let x = ltb-true f.from a w in omega arith)
      (λ w. let x = eqb-true f.from a (and_left (eqb f.from a) _ w) in
      let y = ltb-true f.to b (and_right (eqb f.from a) _ w) in omega arith)
      (or_cases (ltb f.from a) _ (and_right (eqb f.relation k) _ u)))
      (or_cases (ltb f.relation k) _ t)))
      (or_cases (ltb f.phase kind) _ h)

  -- The same of a bit of a table with two columns.
  pub rises-pair : (t a b c : ℕ) → a < 16 → b < 16 → c < 16 → (f.from < 64) × (f.to < 64) → rises_pair f t a b c ≡ true
      → (f.phase < 7) ⊎ (code f.relation f.from f.to < code t (pair_word a b) (pair_bit b c))
  rises-pair t a b c p q r s h =
      let s0 = s.0 in let s1 = s.1 in
      ⊎_elim
      (λ z. inl (ltb-true f.phase 7 z))
      (λ z. inr (⊎_elim
      (λ u. let v = ltb-true f.relation t u in omega arith)
      (λ u. let v = eqb-true f.relation t (and_left (eqb f.relation t) _ u) in
      ⊎_elim
      (λ w. let x = ltb-true (f.from / 4) a w in omega arith)
      (λ w. let x = eqb-true (f.from / 4) a (and_left (eqb (f.from / 4) a) _ w) in
      ⊎_elim
      (λ m. let y = ltb-true (4 * (f.from % 4) + f.to / 16) b m in omega arith)
      (λ m. let y = eqb-true (4 * (f.from % 4) + f.to / 16) b (and_left (eqb (4 * (f.from % 4) + f.to / 16) b) _ m) in
      let n = ltb-true (f.to % 16) c (and_right (eqb (4 * (f.from % 4) + f.to / 16) b) _ m) in omega arith)
      (or_cases (ltb (4 * (f.from % 4) + f.to / 16) b) _ (and_right (eqb (f.from / 4) a) _ w)))
      (or_cases (ltb (f.from / 4) a) _ (and_right (eqb f.relation t) _ u)))
      (or_cases (ltb f.relation t) _ z)))
      (or_cases (ltb f.phase 7) _ h)
