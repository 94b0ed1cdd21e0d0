-- Reading what is written of set bits, each with one line, rising: the edges of the
-- relations or the bits of the tables.
use Prim.Native.Nat.{ℕ, zero, suc, ◌+◌, ◌*◌, ◌/◌, ◌%◌, ◌≤◌, ◌<◌}
use mathlib.Core.Path.{◌≡◌, sym, subst, fun_ext, ◌∙◌}
use mathlib.Core.Logic.{◌⊎◌, inl, inr, ⊎_elim}
use mathlib.Core.List.{[], ◌∷◌}
use mathlib.Core.Bool.{Bool, true, false, ◌&&◌}
use native.Mathlib.Omega.{arith}
use lib.Dec.{eqb, ltb}
use borrow.Author.Tests.{eq-eqb, eqb-true, ltb-false, lt-ltb}
use Rattle.sets.proofs.Finite.{bool_iff, is_false, true_or_false, not_both, and_left, and_right, and_both, or_left, or_right, last_or_below}
use Rattle.file.specs.File.{File, with_bit, after_line}
use Rattle.file.specs.Reading.{tests, rises, rises_pair}
use Rattle.file.specs.Writing.{listed, bit_at}
use Rattle.file.specs.declared.line.Line.{Line}
use Rattle.file.proofs.Printed.{Ranged}
use Rattle.file.specs.Refused.{Passed}
use Rattle.file.proofs.Derivation.{Reached, reached_then, reached_one, reached_none}
use Rattle.file.proofs.Fit.{code, Inside, UpTo}
use Rattle.file.proofs.Invariant.{FileFits, going}

-- Each bit is of one of so many relations or tables, at a word and a bit of it.
abbrev pub Bounded : (kinds : ℕ) → ((k a b : ℕ) → Bool) → Type 0
Bounded kinds R = (k a b : ℕ) → R k a b ≡ true → (k < kinds) × (a < 64) × (b < 64)

pub bounded : {kinds members : ℕ} {R : (k a b : ℕ) → Bool} → members < 65 → Inside kinds members R → Bounded kinds R
bounded l i k a b e = let h = i.within k a b e in let h1 = h.1 in let h2 = h.2 in (h.0, omega arith, omega arith)

-- A bit is the first of its kind, or its number is above the last one's.
pub code_rises : (kind : ℕ) (f : File) (k a b : ℕ) → a < 64 → b < 64 → (f.from < 64) × (f.to < 64)
    → (f.phase < kind) ⊎ (code f.relation f.from f.to < code k a b) → rises kind f k a b ≡ true
code_rises kind f k a b p q s h =
    let s0 = s.0 in let s1 = s.1 in
    ⊎_elim
    (λ l. or_left (ltb f.phase kind) _ (lt-ltb f.phase kind l))
    (λ l. or_right (ltb f.phase kind) _ (⊎_elim
    (λ t. or_left (ltb f.relation k) _ t)
    (λ t. let n = ltb-false f.relation k t in
    let e : f.relation ≡ k = omega arith in
    or_right (ltb f.relation k) _ (and_both (eqb f.relation k) _ (eq-eqb f.relation k e) (⊎_elim
    (λ u. or_left (ltb f.from a) _ u)
    (λ u. let m = ltb-false f.from a u in
    let d : f.from ≡ a = omega arith in
    or_right (ltb f.from a) _ (and_both (eqb f.from a) _ (eq-eqb f.from a d) (lt-ltb f.to b (omega arith))))
    (true_or_false (ltb f.from a)))))
    (true_or_false (ltb f.relation k))))
    h

-- The same of a bit of a table with two columns.
pub code_rises_pair : (f : File) (t i k : ℕ) → i < 64 → k < 64 → (f.from < 64) × (f.to < 64)
    → (f.phase < 7) ⊎ (code f.relation f.from f.to < code t i k) → rises_pair f t (i / 4) (4 * (i % 4) + k / 16) (k % 16) ≡ true
code_rises_pair f t i k p q s h =
    let s0 = s.0 in let s1 = s.1 in
    let a : ℕ = i / 4 in let b : ℕ = 4 * (i % 4) + k / 16 in let c : ℕ = k % 16 in
    let x : ℕ = f.from / 4 in let y : ℕ = 4 * (f.from % 4) + f.to / 16 in
    ⊎_elim
    (λ l. or_left (ltb f.phase 7) _ (lt-ltb f.phase 7 l))
    (λ l. or_right (ltb f.phase 7) _ (⊎_elim
    (λ z. or_left (ltb f.relation t) _ z)
    (λ z. let n = ltb-false f.relation t z in
    let e : f.relation ≡ t = omega arith in
    or_right (ltb f.relation t) _ (and_both (eqb f.relation t) _ (eq-eqb f.relation t e) (⊎_elim
    (λ u. or_left (ltb x a) _ u)
    (λ u. let m = ltb-false x a u in
    let d : x ≡ a = omega arith in
    or_right (ltb x a) _ (and_both (eqb x a) _ (eq-eqb x a d) (⊎_elim
    (λ v. or_left (ltb y b) _ v)
    (λ v. let o = ltb-false y b v in
    let w : y ≡ b = omega arith in
    or_right (ltb y b) _ (and_both (eqb y b) _ (eq-eqb y b w) (lt-ltb (f.to % 16) c (omega arith))))
    (true_or_false (ltb y b)))))
    (true_or_false (ltb x a)))))
    (true_or_false (ltb f.relation t))))
    h

-- The kind of lines, what a line says, what has been said by such lines, the bits that are written, and what
-- else holds of a file read so far.
module _ (kind : ℕ) (says : ℕ → ℕ → ℕ → Line) (bits : File → (k a b : ℕ) → Bool) (R : (k a b : ℕ) → Bool) (Ready : File → Type 0) where
  -- The line of a bit passes, and adds the bit.
  pub record Adds (g : File) (k a b : ℕ) : Type 0 where
    pub ranged : Ranged (says k a b)
    pub passed : Passed (tests g (says k a b))
    pub ready : Ready (after_line g (says k a b))
    pub added : (l c d : ℕ) → bits (after_line g (says k a b)) l c d ≡ with_bit (bits g) k a b l c d
    pub last : code (after_line g (says k a b)).relation (after_line g (says k a b)).from (after_line g (says k a b)).to ≡ code k a b

  pub record Kind : Type 0 where
    pub none : (g : File) → FileFits g → g.phase < kind → (k a b : ℕ) → bits g k a b ≡ false
    pub up_to : (g : File) → Ready g → FileFits g → UpTo (bits g) g.relation g.from g.to
    pub adds : (g : File) → Ready g → FileFits g → (k a b : ℕ) → a < 64 → b < 64 → R k a b ≡ true
        → (g.phase < kind) ⊎ (code g.relation g.from g.to < code k a b) → Adds g k a b

  -- The bits with numbers below q have been read.
  pub record Below (q : ℕ) (g : File) : Type 0 where
    pub ready : Ready g
    pub last : (g.phase < kind) ⊎ (code g.relation g.from g.to < q)
    pub same : (k a b : ℕ) → a < 64 → b < 64 → code k a b < q → bits g k a b ≡ R k a b
    pub going_so : FileFits g

  module _ (of-kind : Kind) where
    -- No bit from q on.
    beyond : (q : ℕ) (g : File) → Below q g → (k a b : ℕ) → q ≤ code k a b → bits g k a b ≡ false
    beyond q g t k a b h =
        ⊎_elim
        (λ l. of-kind.none g t.going_so l k a b)
        (λ l. is_false (bits g k a b) (λ e. let m = (of-kind.up_to g t.ready t.going_so).upto k a b e in omega arith))
        t.last

    module _ (q : ℕ) (g : File) (t : Below q g) (e : R (q / 4096) (q / 64 % 64) (q % 64) ≡ true) where
      abbrev k : ℕ
      k = q / 4096

      abbrev a : ℕ
      a = q / 64 % 64

      abbrev b : ℕ
      b = q % 64

      line : Adds g k a b
      line =
          let c : code k a b ≡ q = omega arith in
          of-kind.adds g t.ready t.going_so k a b (omega arith) (omega arith) e
          (subst (λ (n : ℕ). (g.phase < kind) ⊎ (code g.relation g.from g.to < n)) (sym c) t.last)

      with-bit : (l c d : ℕ) → c < 64 → d < 64 → code l c d < suc q → with_bit (bits g) k a b l c d ≡ R l c d
      with-bit l c d hc hd h =
          ⊎_elim
          (λ p. let r = and_right (eqb l k) _ p in
          let p0 = eqb-true l k (and_left (eqb l k) _ p) in
          let p1 = eqb-true c a (and_left (eqb c a) _ r) in
          let p2 = eqb-true d b (and_right (eqb c a) _ r) in
          let z : R l c d ≡ R k a b = λ i. R (p0 i) (p1 i) (p2 i) in
          rw p (sym (z ∙ e)))
          (λ p. rw p (t.same l c d hc hd (⊎_elim (λ o. o) (λ o. absurd (not_both _ (there o) p)) (last_or_below (code l c d) q h))))
          (true_or_false (eqb l k && (eqb c a && eqb d b)))
        where
          there : code l c d ≡ q → eqb l k && (eqb c a && eqb d b) ≡ true
          there o =
              and_both (eqb l k) _ (eq-eqb l k (omega arith))
              (and_both (eqb c a) _ (eq-eqb c a (omega arith)) (eq-eqb d b (omega arith)))

      present : Reached g (says k a b ∷ []) (Below (suc q))
      present = reached_one line.ranged line.passed (record {
        ready = line.ready;
        last = let c = line.last in inr (omega arith);
        same = λ l c d hc hd h. line.added l c d ∙ with-bit l c d hc hd h;
        going_so = going line.ranged line.passed t.going_so;
      })

    absent : (q : ℕ) (g : File) → Below q g → R (q / 4096) (q / 64 % 64) (q % 64) ≡ false → Below (suc q) g
    absent q g t e = record {
      ready = t.ready;
      last = ⊎_elim (λ l. inl l) (λ l. inr (omega arith)) t.last;
      same = λ l c d hc hd h. ⊎_elim
          (λ o. t.same l c d hc hd o)
          (λ o. let p0 : l ≡ q / 4096 = omega arith in
          let p1 : c ≡ q / 64 % 64 = omega arith in
          let p2 : d ≡ q % 64 = omega arith in
          let z : R l c d ≡ R (q / 4096) (q / 64 % 64) (q % 64) = λ i. R (p0 i) (p1 i) (p2 i) in
          beyond q g t l c d (omega arith) ∙ sym (z ∙ e))
          (last_or_below (code l c d) q h);
      going_so = t.going_so;
    }

    bit_read : (q : ℕ) (g : File) → Below q g → Reached g (bit_at says R q) (Below (suc q))
    bit_read q g t =
        ⊎_elim
        (λ e. rw e (present q g t e))
        (λ e. rw e (reached_none (absent q g t e)))
        (true_or_false (R (q / 4096) (q / 64 % 64) (q % 64)))

    pub bits_read : (q : ℕ) (g : File) → Ready g → FileFits g → g.phase < kind → Reached g (listed q (bit_at says R)) (Below q)
    unfolding listed
    bits_read zero g r h l = reached_none (record { ready = r; last = inl l; same = λ k a b p q m. absurd (omega arith); going_so = h })
    bits_read (suc q) g r h l = reached_then (bits_read q g r h l) (λ f u. bit_read q f u)

    -- Where all bits lie below q, these are all.
    pub all-read : (q kinds : ℕ) → kinds * 4096 ≤ q → Bounded kinds R → (g : File) → Bounded kinds (bits g) → Below q g → bits g ≡ R
    all-read q kinds h inside g i t = fun_ext (λ k. fun_ext (λ a. fun_ext (λ b. bool_iff (bits g k a b) (R k a b)
        (λ e. sym (below k a b (i k a b e)) ∙ e)
        (λ e. below k a b (inside k a b e) ∙ e))))
      where
        below : (k a b : ℕ) → (k < kinds) × (a < 64) × (b < 64) → bits g k a b ≡ R k a b
        below k a b p = let p0 = p.0 in let p1 = p.1 in let p2 = p.2 in t.same k a b p1 p2 (omega arith)
