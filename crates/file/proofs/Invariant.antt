-- Each line taken keeps what holds of a file read so far.
use Prim.Native.Nat.{ℕ, ◌+◌, ◌*◌, ◌<◌}
use mathlib.Core.Path.{◌≡◌, sym, ap, subst, ◌∙◌}
use mathlib.Core.Bool.{Bool, true, false, ◌&&◌}
use mathlib.Core.Logic.{inl, inr, ⊎_elim}
use mathlib.Core.List.{List}
use native.Mathlib.Omega.{arith}
use lib.Dec.{eqb, ltb}
use lib.ListN.{length}
use borrow.Author.Tests.{eq-eqb, eqb-true, ltb-true, leb-true, not-true}
use Rattle.sets.proofs.Finite.{not_both, and_left, and_right}
use Rattle.theory.specs.Formula.{first_operand, second_operand, third_operand, number, is_past, columns}
use Rattle.theory.specs.Columns.{pair_word, pair_bit}
use Rattle.theory.specs.Terms.{tables, formula, past_entry}
use Rattle.theory.proofs.Past.{past-entry}
use Rattle.theory.proofs.Good.{implied}
use Rattle.file.specs.File.{File, has_two, pair_table, after_line}
use Rattle.file.specs.Reading.{tests}
use Rattle.file.specs.declared.line.Line.{Line}
use Rattle.file.proofs.Printed.{Ranged}
use Rattle.file.proofs.Printed.Ranged.{members, labels, entry, policy, effect, edge, form, bit, pair, event, mark}
use Rattle.file.specs.Refused.{Passed}
use Rattle.file.proofs.Derivation.{passed_at, Taken}
use Rattle.file.proofs.Derivation.Taken.{none, one}
pub use Rattle.file.proofs.Phases.{FileFits, going_first, entry_phase, policy_phase, complete_phase, complete_policies, complete-is, rises_code, rises-pair}
use Rattle.file.proofs.Fit.{EntriesFit, PoliciesFit, operand-fits, entry_put, entry_more, policies_none, policy_more, marks_none, mark_more, effects_none, effect_more, inside_none, inside_more, tables_none, tables_more, one_place, two_few, two_place, up_to_none, up_to_more, event_none, event-named}

pub going : {f : File} {l : Line} → Ranged l → Passed (tests f l) → FileFits f → FileFits (after_line f l)
unfolding tests after_line
going {f} (members {n = n} h) p g =
    let test = passed_at p in
    let z = eqb-true f.phase 0 (test 0) in
    let m = g.no_entries (omega arith) in
    record {
      entries = record {
        few = g.entries.few;
        few_tables = g.entries.few_tables;
        fit = λ n l. absurd (omega arith);
        blank = g.entries.blank;
      };
      policies = g.policies;
      marks = g.marks;
      effects = g.effects;
      edges = inside_none (g.no_edges (omega arith));
      bits = tables_none (g.no_bits (omega arith));
      last = event_none (g.no_last (omega arith));
      edges_rise = λ l. g.edges_rise (omega arith);
      bits_rise = g.bits_rise;
      short = g.short;
      members = λ l. (ltb-true 0 n (test 1), ltb-true n 65 (test 2));
      labels = λ l. absurd (omega arith);
      no_entries = λ l. g.no_entries (omega arith);
      no_policies = λ l. g.no_policies (omega arith);
      no_marks = λ l. g.no_marks (inl (omega arith));
      no_effects = λ l. g.no_effects (omega arith);
      no_event = λ l. g.no_event (omega arith);
      no_edges = λ l. g.no_edges (omega arith);
      no_bits = λ l. g.no_bits (omega arith);
      no_last = λ l. g.no_last (omega arith);
      old = λ s. omega arith;
    }
going {f} (labels {r = r} {e = e} h i) p g =
    let test = passed_at p in
    let z = eqb-true f.phase 1 (test 0) in
    let m = g.no_entries (omega arith) in
    record {
      entries = record {
        few = g.entries.few;
        few_tables = g.entries.few_tables;
        fit = λ n l. absurd (omega arith);
        blank = g.entries.blank;
      };
      policies = policies_none (g.no_policies (omega arith)) g.policies;
      marks = marks_none (g.no_marks (inl (omega arith))) g.marks;
      effects = effects_none f.event e r f.terms.effects (g.no_effects (omega arith));
      edges = inside_none (g.no_edges (omega arith));
      bits = tables_none (g.no_bits (omega arith));
      last = event_none (g.no_last (omega arith));
      edges_rise = λ l. g.edges_rise (omega arith);
      bits_rise = g.bits_rise;
      short = g.short;
      members = λ l. g.members (omega arith);
      labels = λ l. (ltb-true r 17 (test 1), ltb-true 0 e (test 2), ltb-true e 17 (test 3));
      no_entries = λ l. g.no_entries (omega arith);
      no_policies = λ l. g.no_policies (omega arith);
      no_marks = λ l. g.no_marks (inl (omega arith));
      no_effects = λ l. g.no_effects (omega arith);
      no_event = λ l. g.no_event (omega arith);
      no_edges = λ l. g.no_edges (omega arith);
      no_bits = λ l. g.no_bits (omega arith);
      no_last = λ l. g.no_last (omega arith);
      old = λ s. omega arith;
    }
going {f} (entry {n = n} {o = o} {a = a} {b = b} {c = c} h i j k m y) p g =
    let test = passed_at p in
    let z = entry_phase f (test 0) in
    let z0 = z.0 in let z1 = z.1 in
    let labels : ℕ = f.terms.relations + 2 * f.terms.events in
    record {
      entries = entry_more f.terms.members labels n f.terms.entry (record { op = o; a = a; b = b; c = c })
          (subst (λ (m : ℕ). EntriesFit f.terms.members labels m f.terms.entry) (sym (eqb-true n f.terms.entries (test 1))) g.entries)
          (ltb-true n 256 (test 2))
          (λ q. ltb-true (number f.terms.entry n) 32 (implied (is_past o) _ (test 6) q))
          (entry_put f.terms.members labels n f.terms.entry (record { op = o; a = a; b = b; c = c }) i
          (operand-fits (first_operand o) labels n a (test 3) (test 7))
          (operand-fits (second_operand o) labels n b (test 4) (test 8))
          (operand-fits (third_operand o) labels n c (test 5) (test 9))
          (λ q. implied (is_past o) _ (test 10) q)
          (λ q. implied (eqb o 10) _ (test 11) (eq-eqb o 10 q)));
      policies = policies_none (g.no_policies z1) g.policies;
      marks = g.marks;
      effects = g.effects;
      edges = g.edges;
      bits = tables_none (g.no_bits (omega arith));
      last = g.last;
      edges_rise = λ l. g.edges_rise (omega arith);
      bits_rise = g.bits_rise;
      short = g.short;
      members = λ l. g.members (omega arith);
      labels = λ l. g.labels z0;
      no_entries = λ l. absurd (omega arith);
      no_policies = λ l. g.no_policies z1;
      no_marks = λ l. g.no_marks (inl z1);
      no_effects = λ l. g.no_effects (omega arith);
      no_event = λ l. g.no_event (omega arith);
      no_edges = λ l. g.no_edges (omega arith);
      no_bits = λ l. g.no_bits (omega arith);
      no_last = λ l. g.no_last (omega arith);
      old = λ s. omega arith;
    }
going {f} (policy {j = j} {n = n} h i) p g =
    let test = passed_at p in
    let z = policy_phase f (test 0) in
    let z0 = z.0 in let z1 = z.1 in
    record {
      entries = g.entries;
      policies = policy_more j n (ltb-true j f.terms.events (test 2)) (ltb-true n f.terms.entries (test 3)) (test 4)
          (subst (λ (m : ℕ). PoliciesFit m f.terms.events f.terms.entries f.terms.entry f.terms.policy)
          (sym (eqb-true j f.policies (test 1))) g.policies);
      marks = g.marks;
      effects = g.effects;
      edges = g.edges;
      bits = tables_none (g.no_bits (omega arith));
      last = g.last;
      edges_rise = λ l. g.edges_rise (omega arith);
      bits_rise = g.bits_rise;
      short = g.short;
      members = λ l. g.members (omega arith);
      labels = λ l. g.labels z0;
      no_entries = λ l. absurd (omega arith);
      no_policies = λ l. absurd (omega arith);
      no_marks = λ l. g.no_marks (inr (omega (arith, eqb-true j f.policies (test 1), ltb-true j f.terms.events (test 2))));
      no_effects = λ l. g.no_effects (omega arith);
      no_event = λ l. g.no_event (omega arith);
      no_edges = λ l. g.no_edges (omega arith);
      no_bits = λ l. g.no_bits (omega arith);
      no_last = λ l. g.no_last (omega arith);
      old = λ s. omega arith;
    }
going {f} (effect {j = j} {c = c} {k = k} {d = d} h i q m n) p g =
    let test = passed_at p in
    let z0 = complete_phase f (test 0) in
    let z1 = leb-true f.phase 5 (test 1) in
    record {
      entries = g.entries;
      policies = g.policies;
      marks = g.marks;
      effects = effect_more j (record { adds = eqb c 1; relation = k; back = eqb d 1 }) (leb-true f.event j (test 2)) (ltb-true j f.terms.events (test 3))
          (ltb-true (length (f.terms.effects j)) 4 (test 4)) (ltb-true k f.terms.relations (test 5)) g.effects;
      edges = g.edges;
      bits = tables_none (g.no_bits (omega arith));
      last = g.last;
      edges_rise = λ l. g.edges_rise (omega arith);
      bits_rise = g.bits_rise;
      short = g.short;
      members = λ l. g.members (omega arith);
      labels = λ l. g.labels z0;
      no_entries = λ l. absurd (omega arith);
      no_policies = λ l. absurd (omega arith);
      no_marks = λ l. g.no_marks (⊎_elim (λ i. absurd (omega arith)) (λ i. inr i) l);
      no_effects = λ l. absurd (omega arith);
      no_event = λ l. absurd (omega arith);
      no_edges = λ l. g.no_edges (omega arith);
      no_bits = λ l. g.no_bits (omega arith);
      no_last = λ l. g.no_last (omega arith);
      old = λ s. omega arith;
    }
going {f} (edge {k = k} {a = a} {b = b} h i j) p g =
    let test = passed_at p in
    let z0 = complete_phase f (test 0) in
    let z1 = leb-true f.phase 6 (test 1) in
    let m = g.members (omega arith) in let m1 = m.1 in
    let la = ltb-true a f.terms.members (test 4) in
    let lb = ltb-true b f.terms.members (test 5) in
    record {
      entries = g.entries;
      policies = g.policies;
      marks = g.marks;
      effects = g.effects;
      edges = inside_more f.edges k a b (ltb-true k f.terms.relations (test 3)) la lb g.edges;
      bits = g.bits;
      last = g.last;
      edges_rise = λ l. up_to_more f.edges k a b
          (⊎_elim (λ l. inl (g.no_edges l)) (λ l. inr l) (rises_code f 6 k a b (omega arith) (omega arith) g.short (test 2))) (g.edges_rise (omega arith));
      bits_rise = up_to_none (g.no_bits (omega arith));
      short = (omega arith, omega arith);
      members = λ l. m;
      labels = λ l. g.labels z0;
      no_entries = λ l. absurd (omega arith);
      no_policies = λ l. absurd (omega arith);
      no_marks = λ l. g.no_marks (⊎_elim (λ i. absurd (omega arith)) (λ i. inr i) l);
      no_effects = λ l. absurd (omega arith);
      no_event = λ l. absurd (omega arith);
      no_edges = λ l. absurd (omega arith);
      no_bits = λ l. g.no_bits (omega arith);
      no_last = λ l. g.no_last (omega arith);
      old = λ s. omega arith;
    }
going {f} (form {n = n} h) p g =
    let test = passed_at p in
    let z = eqb-true f.phase 0 (test 0) in
    record {
      entries = g.entries;
      policies = g.policies;
      marks = g.marks;
      effects = g.effects;
      edges = g.edges;
      bits = g.bits;
      last = g.last;
      edges_rise = g.edges_rise;
      bits_rise = g.bits_rise;
      short = g.short;
      members = g.members;
      labels = g.labels;
      no_entries = g.no_entries;
      no_policies = g.no_policies;
      no_marks = g.no_marks;
      no_effects = g.no_effects;
      no_event = g.no_event;
      no_edges = g.no_edges;
      no_bits = g.no_bits;
      no_last = g.no_last;
      old = λ s. omega arith;
    }
going {f} (bit {t = t} {a = a} {b = b} h i j) p g =
    let test = passed_at p in
    let z0 = complete_phase f (test 1) in
    let z1 = leb-true f.phase 7 (test 2) in
    let m = g.members (omega arith) in let m1 = m.1 in
    let la = ltb-true a f.terms.members (test 6) in
    let lb = ltb-true b f.terms.members (test 7) in
    let lt = ltb-true t (tables f.terms) (test 5) in
    let one : has_two (columns (formula f.terms (past_entry f.terms t))) ≡ false =
    sym (ap (λ (c : Bool). c && has_two (columns (formula f.terms (past_entry f.terms t)))) (test 5)) ∙ not-true (pair_table f.terms t) (test 4) in
    record {
      entries = g.entries;
      policies = g.policies;
      marks = g.marks;
      effects = g.effects;
      edges = g.edges;
      bits = tables_more f.table t a b lt (one_place f.terms.members (columns (formula f.terms (past_entry f.terms t))) a b one la lb) g.bits;
      last = g.last;
      edges_rise = λ l. absurd (omega arith);
      bits_rise = up_to_more f.table t a b
          (⊎_elim (λ l. inl (g.no_bits l)) (λ l. inr l) (rises_code f 7 t a b (omega arith) (omega arith) g.short (test 3))) g.bits_rise;
      short = (omega arith, omega arith);
      members = λ l. m;
      labels = λ l. g.labels z0;
      no_entries = λ l. absurd (omega arith);
      no_policies = λ l. absurd (omega arith);
      no_marks = λ l. g.no_marks (⊎_elim (λ i. absurd (omega arith)) (λ i. inr i) l);
      no_effects = λ l. absurd (omega arith);
      no_event = λ l. absurd (omega arith);
      no_edges = λ l. absurd (omega arith);
      no_bits = λ l. absurd (omega arith);
      no_last = λ l. g.no_last (omega arith);
      old = λ s. absurd (not_both f.stored (test 0) s);
    }
going {f} (pair {t = t} {a = a} {b = b} {c = c} h i j k) p g =
    let test = passed_at p in
    let z0 = complete_phase f (test 1) in
    let z1 = leb-true f.phase 7 (test 2) in
    let m = g.members (omega arith) in let m1 = m.1 in
    let la = ltb-true a f.terms.members (test 5) in
    let lb = ltb-true b f.terms.members (test 6) in
    let lc = ltb-true c f.terms.members (test 7) in
    let T = f.terms in
    let lt = ltb-true t (tables T) (and_left (ltb t (tables T)) _ (test 4)) in
    let two : has_two (columns (formula T (past_entry T t))) ≡ true = and_right (ltb t (tables T)) _ (test 4) in
    let e = past-entry T t lt in
    let few : T.members < 17 = two_few T.members (columns (formula T (past_entry T t))) two ((g.entries.fit (past_entry T t) e.exists).columns-fit e.past) in
    record {
      entries = g.entries;
      policies = g.policies;
      marks = g.marks;
      effects = g.effects;
      edges = g.edges;
      bits = tables_more f.table t (pair_word a b) (pair_bit b c) lt (two_place T.members (columns (formula T (past_entry T t))) a b c two few la lb lc) g.bits;
      last = g.last;
      edges_rise = λ l. absurd (omega arith);
      bits_rise = up_to_more f.table t (pair_word a b) (pair_bit b c)
          (⊎_elim (λ l. inl (g.no_bits l)) (λ l. inr l) (rises-pair f t a b c (omega arith) (omega arith) (omega arith) g.short (test 3))) g.bits_rise;
      short = (omega arith, omega arith);
      members = λ l. m;
      labels = λ l. g.labels z0;
      no_entries = λ l. absurd (omega arith);
      no_policies = λ l. absurd (omega arith);
      no_marks = λ l. g.no_marks (⊎_elim (λ i. absurd (omega arith)) (λ i. inr i) l);
      no_effects = λ l. absurd (omega arith);
      no_event = λ l. absurd (omega arith);
      no_edges = λ l. absurd (omega arith);
      no_bits = λ l. absurd (omega arith);
      no_last = λ l. g.no_last (omega arith);
      old = λ s. absurd (not_both f.stored (test 0) s);
    }
going {f} (event {j = j} {u = u} {v = v} h i k) p g =
    let test = passed_at p in
    let z0 = complete_phase f (test 1) in
    record {
      entries = g.entries;
      policies = g.policies;
      marks = g.marks;
      effects = g.effects;
      edges = g.edges;
      bits = g.bits;
      last = event-named j u v (ltb-true _ f.terms.events (test 3)) (ltb-true u f.terms.members (test 4)) (ltb-true v f.terms.members (test 5));
      edges_rise = λ l. absurd (omega arith);
      bits_rise = g.bits_rise;
      short = g.short;
      members = λ l. g.members (omega arith);
      labels = λ l. g.labels z0;
      no_entries = λ l. absurd (omega arith);
      no_policies = λ l. absurd (omega arith);
      no_marks = λ l. g.no_marks (⊎_elim (λ i. absurd (omega arith)) (λ i. inr i) l);
      no_effects = λ l. absurd (omega arith);
      no_event = λ l. absurd (omega arith);
      no_edges = λ l. absurd (omega arith);
      no_bits = λ l. absurd (omega arith);
      no_last = λ l. absurd (omega arith);
      old = λ s. absurd (not_both f.stored (test 0) s);
    }
going {f} (mark {j = j} h) p g =
    let test = passed_at p in
    let z0 = complete_phase f (test 0) in
    let z1 = leb-true f.phase 4 (test 1) in
    let c = complete_policies f (test 0) in
    record {
      entries = g.entries;
      policies = g.policies;
      marks = mark_more j (leb-true f.marks j (test 2)) (ltb-true j f.terms.events (test 3)) g.marks;
      effects = g.effects;
      edges = g.edges;
      bits = tables_none (g.no_bits (omega arith));
      last = g.last;
      edges_rise = λ l. g.edges_rise (omega arith);
      bits_rise = g.bits_rise;
      short = g.short;
      members = λ l. g.members (omega arith);
      labels = λ l. g.labels z0;
      no_entries = λ l. absurd (omega arith);
      no_policies = λ l. absurd (omega arith);
      no_marks = λ l. ⊎_elim (λ i. absurd (omega arith)) (λ i. absurd (omega arith)) l;
      no_effects = λ l. g.no_effects (omega arith);
      no_event = λ l. g.no_event (omega arith);
      no_edges = λ l. g.no_edges (omega arith);
      no_bits = λ l. g.no_bits (omega arith);
      no_last = λ l. g.no_last (omega arith);
      old = λ s. omega arith;
    }

pub going_on : {f g : File} {ls : List Line} → Taken f ls g → FileFits f → FileFits g
going_on none h = h
going_on (one r p t) h = going_on t (going r p h)
