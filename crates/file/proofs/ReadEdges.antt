-- Reading what is written, the edges: with them the file read so far has the terms and the relations.
use Prim.Native.Nat.{ℕ, ◌<◌}
use mathlib.Core.Path.{◌≡◌, refl, ap, subst}
use mathlib.Core.Bool.{Bool, true}
use native.Mathlib.Omega.{arith}
use borrow.Author.Tests.{lt-ltb, le-leb}
use Rattle.theory.specs.Terms.{Terms}
use Rattle.theory.specs.Moment.{Relations}
use Rattle.theory.specs.Fit.{Good}
use Rattle.file.specs.File.{File, after_line}
use Rattle.file.specs.Reading.{tests, rises}
use Rattle.file.specs.Writing.{all_lines}
use Rattle.file.specs.declared.line.Line.TheVariants.{Edge}
use Rattle.file.specs.Refused.{Passed}
use Rattle.file.specs.Refused.Passed.{none, pass}
use Rattle.file.proofs.Printed.{Ranged}
use Rattle.file.proofs.Derivation.{Reached, reached_so, reached_then}
use Rattle.file.proofs.Fit.{Inside}
use Rattle.file.proofs.Invariant.{FileFits, going}
use Rattle.file.proofs.Accepted.{Tidy}
use Rattle.file.proofs.ReadEntries.{told}
use Rattle.file.proofs.ReadMarks.{marked}
use Rattle.file.proofs.ReadEffects.{Settled, settled_complete, settled}
use Rattle.file.proofs.ReadBits.{Adds, Kind, Below, code_rises, bounded, bits_read, all-read}

-- The terms and the edges have been read, and nothing of a later phase.
pub record Edged (T : Terms) (R : Relations) (stored : Bool) (phase : ℕ) (g : File) : Type 0 where
  pub settled_so : Settled T stored phase g
  pub edges : g.edges ≡ R

module _ (T : Terms) (good : Good T) (tidy : Tidy T) (R : Relations) (inside : Inside T.relations T.members R) where
  module _ (stored : Bool) where
    module _ (g : File) (t : Settled T stored 6 g) (k a b : ℕ) (e : R k a b ≡ true) where
      there : (k < T.relations) × (a < T.members) × (b < T.members)
      there = inside.within k a b e

      ranged : Ranged (Edge k a b)
      ranged =
          let h0 = there.0 in let h1 = there.1 in let h2 = there.2 in
          let m = good.few_relations in let n = good.few_members in
          Ranged.edge {k = k} {a = a} {b = b} (omega arith) (omega arith) (omega arith)

      passed : rises 6 g k a b ≡ true → Passed (tests g (Edge k a b))
      unfolding tests
      passed z =
          let h0 = there.0 in let h1 = there.1 in let h2 = there.2 in
          let r : g.terms.relations ≡ T.relations = ap (λ (x : Terms). x.relations) t.terms in
          let m : g.terms.members ≡ T.members = ap (λ (x : Terms). x.members) t.terms in
          pass (settled_complete g t)
          (pass (le-leb g.phase 6 t.high)
          (pass z
          (pass (lt-ltb k g.terms.relations (omega arith))
          (pass (lt-ltb a g.terms.members (omega arith))
          (pass (lt-ltb b g.terms.members (omega arith))
          none)))))

      edge_adds : rises 6 g k a b ≡ true → Adds 6 Edge (λ f. f.edges) R (Settled T stored 6) g k a b
      unfolding after_line
      edge_adds z = record {
        ranged = ranged;
        passed = passed z;
        ready = record {
          low = omega arith;
          high = omega arith;
          form = t.form;
          policies = t.policies;
          terms = t.terms;
          going_so = going ranged (passed z) t.going_so;
        };
        added = λ l c d. refl;
        last = refl;
      }

    of_edges : Kind 6 Edge (λ f. f.edges) R (Settled T stored 6)
    of_edges = record {
      none = λ g h l. h.no_edges l;
      up_to = λ g t h. let l = t.high in h.edges_rise (omega arith);
      adds = λ g t h k a b al bl e z. edge_adds g t k a b e (code_rises 6 g k a b al bl h.short z);
    }

    before_edges : (g : File) → Settled T stored 5 g → Settled T stored 6 g
    before_edges g t = let h = t.high in record {
      low = t.low;
      high = omega arith;
      form = t.form;
      policies = t.policies;
      terms = t.terms;
      going_so = t.going_so;
    }

    edges_done : (g : File) → Below 6 Edge (λ f. f.edges) R (Settled T stored 6) 65536 g → Edged T R stored 6 g
    edges_done g t =
        let s = t.ready in
        let m = good.few_relations in
        record {
          settled_so = s;
          edges = all-read 6 Edge (λ f. f.edges) R (Settled T stored 6) of_edges 65536 T.relations (omega arith) (bounded good.few_members inside) g
              (bounded good.few_members (subst (λ (x : Terms). Inside x.relations x.members g.edges) s.terms s.going_so.edges)) t;
        }

  -- From a file that has said nothing but its form.
  pub lines_read : (start : File) → start.phase ≡ 0 → FileFits start → Reached start (all_lines T R) (Edged T R start.stored 6)
  unfolding all_lines
  lines_read start blank begun =
      let form = start.stored in
      told T good tidy start blank begun (λ g t. reached_then (marked T good tidy form g t)
      (λ i m. reached_then (settled T good tidy form i m)
      (λ h u. let l = u.high in
      reached_so
      (bits_read 6 Edge (λ f. f.edges) R (Settled T form 6) (of_edges form) 65536 h (before_edges form h u) u.going_so (omega arith))
      (edges_done form))))
