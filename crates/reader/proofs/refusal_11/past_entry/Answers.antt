use Rattle.std.proofs.Common.{◌≡◌, refl, sym, ap, ℕ, ◌+◌, Bool, false, ◌&&◌, eqb, arith}
use native.Mathlib.Numerals.{add-one}
use mathlib.Core.Path.{◌∙◌}
use borrow.Author.Tests.{ne_eqb}
use Rattle.theory.specs.Formula.{Entry, number, is_past, highest}
use Rattle.theory.specs.Terms.{past_entry}
use Rattle.theory.proofs.Past.{past_is}
use Rattle.memory.specs.Layout.{terms_of}
use Rattle.memory.proofs.StateTests.{number_past, number_other}
use Rattle.reader.proofs.refusal_11.past_entry.Goals as goal
use Rattle.reader.proofs.refusal_11.past_entry.Goals.{then-is_past+else-k-t, else-is_past}

-- Entry n has table t.
abbrev chosen : (ℕ → Entry) → (t n : ℕ) → Bool
chosen entry t n = is_past (entry n).op && eqb (number entry n) t

highest-next : (p : ℕ → Bool) (n : ℕ) → p n ≡ false → highest n p ≡ 0 → highest (n + 1) p ≡ 0
unfolding highest
highest-next p n e h = ap (λ (k : ℕ). highest k p) (add-one n) ∙ rw e h

pub loop-n-init : goal.loop-n-init
unfolding number highest
loop-n-init c = (omega arith, refl, refl)

pub returns-then-k-t : goal.returns-then-k-t
returns-then-k-t c =
    let T = terms_of c.args.terms.now in
    let l = c.loop-n in
    sym (ap (past_entry T) (sym c.if-k-t.true ∙ l.invariant.1)
    ∙ past_is T l.n (omega (arith, c.entries-n-end.ensures.value)) (sym (c.is_past.ensures ∙ ap is_past c.op_of.ensures.value) ∙ c.if-is_past.true))

pub loop-n-preserved : goal.loop-n-preserved
loop-n-preserved c =
    let l = c.loop-n in
    let t = c.args.t in
    let entry = (terms_of c.args.terms.now).entry in
    let past : c.is_past.result ≡ is_past (entry l.n).op = c.is_past.ensures ∙ ap is_past c.op_of.ensures.value in
    elim c.if-is_past.branch [
      | then-is_past+else-k-t w ↦
          let p = sym past ∙ w.if-is_past.true in
          let m = number_past entry l.n p in (
            omega (arith, w.k-is),
            omega (arith, w.k-is, m),
            highest-next (chosen entry t) l.n (rw (p, ne_eqb (number entry l.n) t (λ e. w.if-k-t.false (l.invariant.1 ∙ e))) refl) l.invariant.2,
          )
      | else-is_past w ↦
          let p = sym past ∙ w.if-is_past.false in
          let m = number_other entry l.n p in (
            omega (arith, w.k-is),
            omega (arith, w.k-is, m),
            highest-next (chosen entry t) l.n (rw p refl) l.invariant.2,
          )
    ]
