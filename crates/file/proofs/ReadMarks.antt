-- Reading what is written, the kept events: with them the file read so far has all of the terms but the effects.
use Prim.Native.Nat.{ℕ, zero, suc, ◌≤◌, ◌<◌}
use mathlib.Core.Path.{◌≡◌, sym, ap, ◌∙◌}
use mathlib.Core.Logic.{⊎_elim}
use mathlib.Core.Bool.{Bool, true, false}
use native.Mathlib.Omega.{arith}
use lib.Dec.{ltb}
use borrow.Author.Tests.{ltb-true, ltb-false, lt-ltb, le-leb}
use Rattle.sets.proofs.Finite.{true_or_false, last_or_below}
use Rattle.theory.specs.Terms.{Terms}
use Rattle.theory.specs.Fit.{Good}
use Rattle.file.specs.File.{File, after_line}
use Rattle.file.specs.Reading.{tests}
use Rattle.file.specs.Writing.{listed, mark_line}
use Rattle.file.specs.declared.line.Line.TheVariants.{Mark}
use Rattle.file.proofs.Printed.{Ranged}
use Rattle.file.specs.Refused.{Passed}
use Rattle.file.proofs.Derivation.{Reached, reached_then, reached_one, reached_none}
use Rattle.file.specs.Refused.Passed.{none, pass}
use Rattle.file.proofs.Update.{update_cases}
use Rattle.file.proofs.Invariant.{FileFits, going, complete-is}
use Rattle.file.proofs.Accepted.{Tidy}
use Rattle.file.proofs.ReadEntries.{Headed, Decided}

-- The entries, the policies and the marks of the events below n have been read.
pub record Marked (T : Terms) (stored : Bool) (n : ℕ) (g : File) : Type 0 where
  pub low : 2 ≤ g.phase
  pub high : g.phase ≤ 4
  pub head : Headed T stored g
  pub entries : g.terms.entries ≡ T.entries
  pub entry : (k : ℕ) → g.terms.entry k ≡ T.entry k
  pub policies : g.policies ≡ T.events
  pub policy : (j : ℕ) → g.terms.policy j ≡ T.policy j
  pub marks : g.marks ≤ n
  pub kept : (j : ℕ) → j < n → g.terms.kept j ≡ T.kept j
  pub going_so : FileFits g

module _ (T : Terms) (good : Good T) (tidy : Tidy T) (stored : Bool) where
  policies_done : (g : File) → Decided T stored T.events g → Marked T stored 0 g
  policies_done g t =
      let p = t.policies in let m = t.marks in record {
        low = t.low;
        high = t.high;
        head = t.head;
        entries = t.entries;
        entry = t.entry;
        policies = t.policies;
        policy = λ j. ⊎_elim
            (λ l. t.policy j (ltb-true j T.events l))
            (λ l. let m = ltb-false j T.events l in t.going_so.policies.blank j (omega arith) ∙ sym (tidy.policy j m))
            (true_or_false (ltb j T.events));
        marks = omega arith;
        kept = λ j l. absurd (omega arith);
        going_so = t.going_so;
      }

  module _ (n : ℕ) (l : n < T.events) (g : File) (t : Marked T stored n g) where
    ranged : Ranged (Mark n)
    ranged = let e = good.few_events in Ranged.mark {j = n} (omega arith)

    passed : Passed (tests g (Mark n))
    unfolding tests
    passed =
        let e = t.head.events in
        pass (complete-is g t.low (t.policies ∙ sym e))
        (pass (le-leb g.phase 4 t.high)
        (pass (le-leb g.marks n t.marks)
        (pass (lt-ltb n g.terms.events (omega arith))
        none)))

    there : T.kept n ≡ true → Marked T stored (suc n) (after_line g (Mark n))
    unfolding after_line
    there k = record {
      low = omega arith;
      high = omega arith;
      head = record { form = t.head.form; members = t.head.members; relations = t.head.relations; events = t.head.events };
      entries = t.entries;
      entry = t.entry;
      policies = t.policies;
      policy = t.policy;
      marks = omega arith;
      kept = λ j h. update_cases g.terms.kept n true (λ x. x ≡ T.kept j) j (λ e. sym (ap T.kept e ∙ k)) (λ e. t.kept j (omega arith));
      going_so = going ranged passed t.going_so;
    }

    absent : T.kept n ≡ false → Marked T stored (suc n) g
    absent k =
        let m = t.marks in record {
          low = t.low;
          high = t.high;
          head = t.head;
          entries = t.entries;
          entry = t.entry;
          policies = t.policies;
          policy = t.policy;
          marks = omega arith;
          kept = λ j h. ⊎_elim
              (λ i. t.kept j i)
              (λ i. t.going_so.marks.later j (omega arith) ∙ sym (ap T.kept i ∙ k))
              (last_or_below j n h);
          going_so = t.going_so;
        }

    mark_read : Reached g (mark_line T n) (Marked T stored (suc n))
    mark_read =
        ⊎_elim
        (λ e. rw e (reached_one ranged passed (there e)))
        (λ e. rw e (reached_none (absent e)))
        (true_or_false (T.kept n))

  marks_read : (n : ℕ) → n ≤ T.events → (g : File) → Marked T stored 0 g → Reached g (listed n (mark_line T)) (Marked T stored n)
  unfolding listed
  marks_read zero h g t = reached_none t
  marks_read (suc n) h g t = reached_then (marks_read n (omega arith) g t) (λ f u. mark_read n h f u)

  pub marked : (g : File) → Decided T stored T.events g → Reached g (listed T.events (mark_line T)) (Marked T stored T.events)
  marked g t = marks_read T.events (omega arith) g (policies_done g t)
