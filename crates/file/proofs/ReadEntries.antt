-- Reading what is written, up to the policies: the file read so far has the terms' heads, their first n
-- entries, their first n policies.
use Prim.Native.Nat.{ℕ, zero, suc, ◌+◌, ◌*◌, ◌≤◌, ◌<◌}
use mathlib.Core.Path.{◌≡◌, refl, sym, ap, subst, subst₂, ◌∙◌}
use mathlib.Core.Logic.{inl, ⊎_elim}
use mathlib.Core.List.{List, [], ◌∷◌, ◌++◌}
use mathlib.Core.Bool.{Bool, true, ◌||◌}
use native.Mathlib.Omega.{arith}
use native.Mathlib.Numerals.{add-one}
use lib.Dec.{eqb, ltb, leb}
use borrow.Author.Tests.{eqb-true, eq-eqb, ltb-true, ltb-false, lt-ltb, le-leb}
use Rattle.sets.proofs.Finite.{true_or_false, and_both, or_left, or_right}
use Rattle.theory.specs.Formula.{Formula, first_operand, second_operand, third_operand, number, is_past, columns}
use Rattle.theory.specs.Formula.Operand.{entry}
use Rattle.theory.specs.Formula as formulas
use Rattle.theory.specs.Terms.{Terms}
use Rattle.theory.specs.Columns.{columns_fit}
use Rattle.theory.specs.Fit.{only_free, Good}
use Rattle.theory.proofs.Good.{implies}
use Rattle.theory.proofs.Unfolding.{number_lt}
use Rattle.file.specs.File.{File, update, after_line}
use Rattle.file.specs.Reading.{tests, in_range}
use Rattle.file.specs.Writing.{listed, line_of_entry}
use Rattle.file.specs.declared.line.Line.{Line}
use Rattle.file.specs.declared.line.Line.TheVariants.{Members, Labels, Policy}
use Rattle.file.proofs.Printed.{Ranged}
use Rattle.file.specs.Refused.{Passed}
use Rattle.file.proofs.Derivation.{Taken, Reached, reached_then, reached_one, reached_none}
use Rattle.file.specs.Refused.Passed.{none, pass}
use Rattle.file.proofs.Derivation.Taken.{one}
use Rattle.theory.proofs.AlikeTerms.{number_agree, spelled_agree}
use Rattle.file.proofs.Update.{update_cases}
use Rattle.file.proofs.Fit.{in-range, is-lower, operand_small, reach_kept, unused_fits, third_unused}
use Rattle.file.proofs.Invariant.{FileFits, going}
use Rattle.file.proofs.Accepted.{Tidy}

two_or_three : (p : ℕ) → 2 ≤ p → p ≤ 3 → eqb p 2 || eqb p 3 ≡ true
two_or_three p h k =
    ⊎_elim
    (λ l. let e = ltb-true p 3 l in or_left (eqb p 2) _ (eq-eqb p 2 (omega arith)))
    (λ l. let e = ltb-false p 3 l in or_right (eqb p 2) _ (eq-eqb p 3 (omega arith)))
    (true_or_false (ltb p 3))

-- The form is as the file began; members, relations and events are those of the terms.
pub record Headed (T : Terms) (stored : Bool) (g : File) : Type 0 where
  pub form : g.stored ≡ stored
  pub members : g.terms.members ≡ T.members
  pub relations : g.terms.relations ≡ T.relations
  pub events : g.terms.events ≡ T.events

-- The first n entries have been read.
record Entered (T : Terms) (stored : Bool) (n : ℕ) (g : File) : Type 0 where
  low : 2 ≤ g.phase
  high : g.phase ≤ 3
  head : Headed T stored g
  entries : g.terms.entries ≡ n
  entry : (k : ℕ) → k < n → g.terms.entry k ≡ T.entry k
  going_so : FileFits g

-- The entries and the first n policies have been read, and no mark.
pub record Decided (T : Terms) (stored : Bool) (n : ℕ) (g : File) : Type 0 where
  pub low : 2 ≤ g.phase
  pub high : g.phase ≤ 4
  pub head : Headed T stored g
  pub entries : g.terms.entries ≡ T.entries
  pub entry : (k : ℕ) → g.terms.entry k ≡ T.entry k
  pub policies : g.policies ≡ n
  pub marks : g.marks ≡ 0
  pub policy : (j : ℕ) → j < n → g.terms.policy j ≡ T.policy j
  pub going_so : FileFits g

-- From a file that has said nothing but its form.
module _ (T : Terms) (good : Good T) (tidy : Tidy T) (start : File) (blank : start.phase ≡ 0) (begun : FileFits start) where
  abbrev form : Bool
  form = start.stored

  -- ---- members and labels

  abbrev first : File
  first = after_line start (Members T.members)

  abbrev second : File
  second = after_line first (Labels T.relations T.events)

  members_passed : Passed (tests start (Members T.members))
  unfolding tests
  members_passed = pass (eq-eqb start.phase 0 blank) (pass (lt-ltb 0 T.members good.some_member) (pass (lt-ltb T.members 65 good.few_members) none))

  labels_passed : Passed (tests first (Labels T.relations T.events))
  unfolding tests after_line
  labels_passed =
      pass refl (pass (lt-ltb T.relations 17 good.few_relations) (pass (lt-ltb 0 T.events good.some_event)
      (pass (lt-ltb T.events 17 good.few_events) none)))

  members_ranged : Ranged (Members T.members)
  members_ranged = let h = good.few_members in Ranged.members {n = T.members} (omega arith)

  labels_ranged : Ranged (Labels T.relations T.events)
  labels_ranged = let h = good.few_relations in let i = good.few_events in Ranged.labels {r = T.relations} {e = T.events} (omega arith) (omega arith)

  heads_entered : Entered T form 0 second
  unfolding after_line
  heads_entered = record {
    low = omega arith;
    high = omega arith;
    head = record { form = refl; members = refl; relations = refl; events = refl };
    entries = begun.no_entries (omega arith);
    entry = λ k l. absurd (omega arith);
    going_so = going labels_ranged labels_passed (going members_ranged members_passed begun);
  }

  heads : Reached start (Members T.members ∷ Labels T.relations T.events ∷ []) (Entered T form 0)
  heads = record {
    file = second;
    taken = one members_ranged members_passed (one labels_ranged labels_passed Taken.none);
    holds = heads_entered;
  }

  -- ---- entries

  module _ (n : ℕ) (l : n < T.entries) (g : File) (t : Entered T form n g) where
    abbrev v : formulas.Entry
    v = record { op = (T.entry n).op; a = (T.entry n).a; b = (T.entry n).b; c = (T.entry n).c }

    agrees : (k : ℕ) → k < suc n → update g.terms.entry n v k ≡ T.entry k
    agrees k h =
        update_cases g.terms.entry n v (λ x. x ≡ T.entry k) k (λ e. ap T.entry (sym e)) (λ e. t.entry k (omega arith))

    labels_are : g.terms.relations + 2 * g.terms.events ≡ T.relations + 2 * T.events
    labels_are = let r = t.head.relations in let e = t.head.events in omega arith

    tables_few : is_past (T.entry n).op ≡ true → number g.terms.entry n < 32
    tables_few p =
        let a = number_agree g.terms.entry T.entry n t.entry in
        let b = number_lt T.entry n T.entries l p in
        let c = good.few_tables in
        omega arith

    entry_passed : Passed (tests g (line_of_entry T n))
    unfolding tests
    entry_passed =
        let q = good.entry n l in
        let labels = T.relations + 2 * T.events in
        let m = good.few_entries in
        pass (two_or_three g.phase t.low t.high)
        (pass (eq-eqb n g.terms.entries (sym t.entries))
        (pass (lt-ltb n 256 (omega arith))
        (pass (subst (λ (m : ℕ). in_range (first_operand (T.entry n).op) m (T.entry n).a ≡ true) (sym labels_are)
        (in-range (first_operand (T.entry n).op) labels n (T.entry n).a q.first))
        (pass (subst (λ (m : ℕ). in_range (second_operand (T.entry n).op) m (T.entry n).b ≡ true) (sym labels_are)
        (in-range (second_operand (T.entry n).op) labels n (T.entry n).b q.second))
        (pass (subst (λ (m : ℕ). in_range (third_operand (T.entry n).op) m (T.entry n).c ≡ true) (sym labels_are)
        (in-range (third_operand (T.entry n).op) labels n (T.entry n).c q.third))
        (pass (implies (is_past (T.entry n).op) (λ p. lt-ltb _ 32 (tables_few p)))
        (pass (is-lower (first_operand (T.entry n).op) labels n (T.entry n).a q.first)
        (pass (is-lower (second_operand (T.entry n).op) labels n (T.entry n).b q.second)
        (pass (is-lower (third_operand (T.entry n).op) labels n (T.entry n).c q.third)
        (pass (implies (is_past (T.entry n).op) (λ p. subst₂ (λ (m : ℕ) (φ : Formula). columns_fit m (columns φ) ≡ true) (sym t.head.members)
        (sym (spelled_agree (update g.terms.entry n v) T.entry n (λ k h. agrees k (omega arith)))) (q.columns-fit p)))
        (pass (implies (eqb (T.entry n).op 10) (λ p. let o = eqb-true (T.entry n).op 10 p in
        reach_kept labels n T.entry g.terms.entry (T.entry n) (λ k h. sym (t.entry k h)) o q.second q.third (q.reaches o)))
        none)))))))))))

    entry_ranged : Ranged (line_of_entry T n)
    entry_ranged =
        let q = good.entry n l in
        let labels = T.relations + 2 * T.events in
        let m = good.few_entries in let r = good.few_relations in let e = good.few_events in
        Ranged.entry {n = n} (omega arith) q.known
        (operand_small (first_operand (T.entry n).op) labels n (T.entry n).a (omega arith) (omega arith) q.first)
        (operand_small (second_operand (T.entry n).op) labels n (T.entry n).b (omega arith) (omega arith) q.second)
        (operand_small (third_operand (T.entry n).op) labels n (T.entry n).c (omega arith) (omega arith) q.third)
        (λ z. unused_fits labels n (T.entry n).c (third_operand (T.entry n).op) q.third (third_unused (T.entry n).op z))

    entry_entered : Entered T form (suc n) (after_line g (line_of_entry T n))
    unfolding after_line
    entry_entered = record {
      low = omega arith;
      high = omega arith;
      head = record { form = t.head.form; members = t.head.members; relations = t.head.relations; events = t.head.events };
      entries = add-one n;
      entry = agrees;
      going_so = going entry_ranged entry_passed t.going_so;
    }

  entered : (n : ℕ) → n ≤ T.entries → (g : File) → Entered T form 0 g → Reached g (listed n (λ n. line_of_entry T n ∷ [])) (Entered T form n)
  unfolding listed
  entered zero h g t = reached_none t
  entered (suc n) h g t =
      reached_then (entered n (omega arith) g t)
      (λ f u. reached_one (entry_ranged n h f u) (entry_passed n h f u) (entry_entered n h f u))

  -- ---- policies

  entries_done : (g : File) → Entered T form T.entries g → Decided T form 0 g
  entries_done g t =
      let h = t.high in let m = t.entries in record {
        low = t.low;
        high = omega arith;
        head = t.head;
        entries = t.entries;
        entry = λ k. ⊎_elim
            (λ l. t.entry k (ltb-true k T.entries l))
            (λ l. let i = ltb-false k T.entries l in t.going_so.entries.blank k (omega arith) ∙ sym (tidy.entry k i))
            (true_or_false (ltb k T.entries));
        policies = t.going_so.no_policies (omega arith);
        marks = t.going_so.no_marks (inl (omega arith));
        policy = λ j l. absurd (omega arith);
        going_so = t.going_so;
      }

  module _ (n : ℕ) (l : n < T.events) (g : File) (t : Decided T form n g) where
    policy_passed : Passed (tests g (Policy n (T.policy n)))
    unfolding tests
    policy_passed =
        let e = t.entries in let v = t.head.events in let p = good.policy_exists n l in
        pass (and_both (leb 2 g.phase) _ (le-leb 2 g.phase t.low) (le-leb g.phase 4 t.high))
        (pass (eq-eqb n g.policies (sym t.policies))
        (pass (lt-ltb n g.terms.events (omega arith))
        (pass (lt-ltb (T.policy n) g.terms.entries (omega arith))
        (pass (subst (λ (φ : Formula). only_free 0 φ ≡ true)
        (sym (spelled_agree g.terms.entry T.entry (T.policy n) (λ k h. t.entry k))) (good.policy_free n l))
        none))))

    policy_ranged : Ranged (Policy n (T.policy n))
    policy_ranged =
        let e = good.few_events in let m = good.few_entries in let p = good.policy_exists n l in
        Ranged.policy {j = n} {n = T.policy n} (omega arith) (omega arith)

    policy_decided : Decided T form (suc n) (after_line g (Policy n (T.policy n)))
    unfolding after_line
    policy_decided = record {
      low = omega arith;
      high = omega arith;
      head = record { form = t.head.form; members = t.head.members; relations = t.head.relations; events = t.head.events };
      entries = t.entries;
      entry = t.entry;
      policies = add-one n;
      marks = t.marks;
      policy = λ k h. update_cases g.terms.policy n (T.policy n) (λ x. x ≡ T.policy k) k
          (λ e. ap T.policy (sym e)) (λ e. t.policy k (omega arith));
      going_so = going policy_ranged policy_passed t.going_so;
    }

  decided : (n : ℕ) → n ≤ T.events → (g : File) → Decided T form 0 g → Reached g (listed n (λ j. Policy j (T.policy j) ∷ [])) (Decided T form n)
  unfolding listed
  decided zero h g t = reached_none t
  decided (suc n) h g t =
      reached_then (decided n (omega arith) g t)
      (λ f u. reached_one (policy_ranged n h f u) (policy_passed n h f u) (policy_decided n h f u))

  -- The lines of members, labels, entries and policies, and those after them.
  pub told : {ms : List Line} {Q : File → Type 0} → ((g : File) → Decided T form T.events g → Reached g ms Q)
      → Reached start (Members T.members ∷ Labels T.relations T.events ∷ (listed T.entries (λ n. line_of_entry T n ∷ [])
      ++ (listed T.events (λ j. Policy j (T.policy j) ∷ []) ++ ms))) Q
  told k =
      reached_then heads (λ g t. reached_then (entered T.entries (omega arith) g t)
      (λ h u. reached_then (decided T.events (omega arith) h (entries_done h u)) k))
