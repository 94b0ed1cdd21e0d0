-- A line that passes: what it says is in its range, and counters, sets and words after it stand for what has been said.
use Prim.Native.Nat.{ℕ, zero, suc, ◌+◌, ◌-◌, ◌*◌, ◌≤◌, ◌<◌}
use native.Mathlib.Omega.{arith}
use mathlib.Core.Path.{◌≡◌, refl, sym, ap, subst, ◌∙◌}
use mathlib.Core.Logic.{⊎_elim}
use mathlib.Core.List.{List, [], ◌∷◌, ◌++◌}
use mathlib.Core.Bool.{true, cond}
use lib.Dec.{eqb, ltb}
use lib.ListN.{length, set, length-append}
use borrow.Author.Tests.{eqb-true, ltb-true, ltb-false, leb-true}
use Rattle.sets.proofs.Finite.{true_or_false, and_left, and_right}
use Rattle.theory.specs.Formula.{Operand, first_operand, second_operand, third_operand}
use Rattle.theory.specs.Formula.Operand.{unused, variable, binder, label, entry, count}
use Rattle.theory.specs.Columns.{pair_word, pair_bit}
use Rattle.theory.specs.Terms.{formula, tables, past_entry}
use Rattle.theory.specs.Formula.{columns}
use Rattle.theory.proofs.Past.{past-entry}
use Rattle.file.proofs.Accepted.{going_good}
use Rattle.file.proofs.Fit.{two_few}
use Rattle.memory.specs.Layout.{event_word}
use Rattle.memory.specs.TableIndex.{Masked}
use Rattle.file.specs.File.{File, with_entry, event_named, event_said, after_line}
use Rattle.file.specs.Reading.{in_range, is_lower, tests}
use Rattle.reader.specs.Memory.{memory_of}
use Rattle.reader.specs.private.Stepping.{Ranges, stepped}
use Rattle.reader.specs.private.Testing.{LastSet, FreeIn}
use Rattle.reader.specs.private.Storing.{stored_terms, stored_state, stored_sets}
use Rattle.file.specs.declared.line.Line.{Line}
use Rattle.file.specs.declared.line.Line.TheVariants.{Entry, Policy, Effect, Edge, TableBit, PairBit, Mark}
use Rattle.file.specs.Refused.{Passed}
use Rattle.file.proofs.Derivation.{passed_at}
use Rattle.file.proofs.Update.{update_same}
use Rattle.file.proofs.Invariant.{FileFits, entry_phase, policy_phase, complete_phase}
use Rattle.file.proofs.Printed.{Ranged}
use Rattle.file.proofs.Printed.Ranged.{members, labels, entry as entry_line, policy, effect, edge, form, bit as table_bit, pair, event, mark}
use Rattle.reader.proofs.StoredTerms.{members_stored, labels_stored, entry_stored, policy_stored, effect_stored, mark_stored}
use Rattle.reader.proofs.StateBits.{together, bits_memory, bits_of, edge_stored, table_stored, event_stored}
use Rattle.reader.proofs.Counters.{context_of, tables_new, slot_is, masked_new}

operand_low : (k : Operand) (r n v : ℕ) → r < 256 → n < 256 → in_range k r v ≡ true → is_lower k n v ≡ true → v < 256
unfolding in_range is_lower
operand_low unused r n v h l p q = omega (arith, eqb-true v 0 p)
operand_low variable r n v h l p q = omega (arith, ltb-true v 16 p)
operand_low binder r n v h l p q = omega (arith, ltb-true v 16 (and_right (ltb 0 v) _ p))
operand_low label r n v h l p q = omega (arith, ltb-true v r p)
operand_low entry r n v h l p q = omega (arith, ltb-true v n q)
operand_low count r n v h l p q = omega (arith, leb-true v 64 (and_right (ltb 0 v) _ p))

-- A V line's number, and the event word that holds it.
named_low : (j e : ℕ) → e < 17 → event_named j < e → j < 32
named_low j e h l =
    ⊎_elim (λ p. omega (arith, ltb-true j 16 p)) (λ p. let m : j - 16 < e = rw p at l in omega arith) (true_or_false (ltb j 16))

event-word : (j u v : ℕ) → 1 + j * 4096 + u * 64 + v ≡ event_word (event_said j u v)
event-word j u v =
    ⊎_elim
    (λ p. rw p refl)
    (λ p. rw p (omega (arith, ltb-false j 16 p)))
    (true_or_false (ltb j 16))

-- What it says is in its range.
pub in_ranges : {f : File} {l : Line} → Ranged l → FileFits f → Passed (tests f l) → Ranges (context_of f) l
unfolding tests
in_ranges (members {n = n} h) g p = ltb-true n 65 (passed_at p 2)
in_ranges (labels {r = r} {e = e} h i) g p = (ltb-true r 17 (passed_at p 1), ltb-true e 17 (passed_at p 3))
in_ranges {f} (entry_line {n = n} {o = o} {a = a} {b = b} {c = c} h i j k m y) g p =
    let few = g.labels (entry_phase f (passed_at p 0)).0 in
    let r : f.terms.relations < 17 = few.0 in
    let e : f.terms.events < 17 = few.2 in
    let l : n < 256 = ltb-true n 256 (passed_at p 2) in (
      l,
      i,
      operand_low (first_operand o) (f.terms.relations + 2 * f.terms.events) n a (omega arith) l (passed_at p 3) (passed_at p 7),
      operand_low (second_operand o) (f.terms.relations + 2 * f.terms.events) n b (omega arith) l (passed_at p 4) (passed_at p 8),
      operand_low (third_operand o) (f.terms.relations + 2 * f.terms.events) n c (omega arith) l (passed_at p 5) (passed_at p 9),
    )
in_ranges {f} (policy {j = j} {n = n} h i) g p =
    let e : f.terms.events < 17 = (g.labels (policy_phase f (passed_at p 0)).0).2 in (
      omega (arith, ltb-true j f.terms.events (passed_at p 2)),
      omega (arith, ltb-true n f.terms.entries (passed_at p 3), g.entries.few),
    )
in_ranges {f} (effect {j = j} {c = c} {k = k} {d = d} h i q m n) g p =
    let few = g.labels (complete_phase f (passed_at p 0)) in
    let r : f.terms.relations < 17 = few.0 in
    let e : f.terms.events < 17 = few.2 in (
      omega (arith, ltb-true j f.terms.events (passed_at p 3)),
      omega (arith, ltb-true (length (f.terms.effects j)) 4 (passed_at p 4), slot_is f g j (leb-true f.event j (passed_at p 2))),
      q,
      omega (arith, ltb-true k f.terms.relations (passed_at p 5)),
      n,
    )
in_ranges {f} (edge {k = k} {a = a} {b = b} h i j) g p =
    let z : 2 ≤ f.phase = complete_phase f (passed_at p 0) in
    let r : f.terms.relations < 17 = (g.labels z).0 in
    let s : f.terms.members < 65 = (g.members (omega arith)).1 in (
      omega (arith, ltb-true k f.terms.relations (passed_at p 3)),
      omega (arith, ltb-true a f.terms.members (passed_at p 4)),
      omega (arith, ltb-true b f.terms.members (passed_at p 5)),
    )
in_ranges (form {n = n} h) g p = eqb-true n 2 (passed_at p 2)
in_ranges {f} (table_bit {t = t} {a = a} {b = b} h i j) g p =
    let z : 2 ≤ f.phase = complete_phase f (passed_at p 1) in
    let s : f.terms.members < 65 = (g.members (omega arith)).1 in (
      omega (arith, ltb-true t (tables f.terms) (passed_at p 5), g.entries.few_tables),
      omega (arith, ltb-true a f.terms.members (passed_at p 6)),
      omega (arith, ltb-true b f.terms.members (passed_at p 7)),
    )
in_ranges {f} (pair {t = t} {a = a} {b = b} {c = c} h i j k) g p =
    let there : ltb t (tables f.terms) ≡ true = and_left (ltb t (tables f.terms)) _ (passed_at p 4) in
    let e = (going_good f (passed_at p 1) g).0 in
    let x = past-entry f.terms t (ltb-true t (tables f.terms) there) in
    let few : f.terms.members < 17 =
    two_few f.terms.members (columns (formula f.terms (past_entry f.terms t))) (and_right (ltb t (tables f.terms)) _ (passed_at p 4))
    ((e.entry (past_entry f.terms t) x.exists).columns-fit x.past) in (
      omega (arith, ltb-true t (tables f.terms) there, g.entries.few_tables),
      omega (arith, ltb-true a f.terms.members (passed_at p 5)),
      omega (arith, ltb-true b f.terms.members (passed_at p 6)),
      omega (arith, ltb-true c f.terms.members (passed_at p 7)),
    )
in_ranges {f} (event {j = j} {u = u} {v = v} h i k) g p =
    let z : 2 ≤ f.phase = complete_phase f (passed_at p 1) in
    let e : f.terms.events < 17 = (g.labels z).2 in
    let s : f.terms.members < 65 = (g.members (omega arith)).1 in (
      named_low j f.terms.events e (ltb-true (event_named j) f.terms.events (passed_at p 3)),
      omega (arith, ltb-true u f.terms.members (passed_at p 4)),
      omega (arith, ltb-true v f.terms.members (passed_at p 5)),
    )
in_ranges {f} (mark {j = j} h) g p =
    let e : f.terms.events < 17 = (g.labels (complete_phase f (passed_at p 0))).2 in
    omega (arith, ltb-true j f.terms.events (passed_at p 3))

-- The counters after it.
pub context_after : {f : File} {l : Line} → Ranged l → FileFits f → Passed (tests f l) → stepped (context_of f) l ≡ context_of (after_line f l)
unfolding tests stepped after_line
context_after (members h) g p = refl
context_after (labels h i) g p = refl
context_after {f} (entry_line {n = n} {o = o} {a = a} {b = b} {c = c} h i j k m y) g p =
    subst (λ (n : ℕ). stepped (context_of f) (Entry n o a b c) ≡ context_of (after_line f (Entry n o a b c)))
    (sym (eqb-true n f.terms.entries (passed_at p 1))) (rw (tables_new f o a b c) refl)
context_after (policy h i) g p = refl
context_after {f} (effect {j = j} {c = c} {k = k} {d = d} h i q m n) g p =
    rw (
      slot_is f g j (leb-true f.event j (passed_at p 2)),
      update_same f.terms.effects j (f.terms.effects j ++ (record { adds = eqb c 1; relation = k; back = eqb d 1 } ∷ [])),
      length-append (f.terms.effects j) (record { adds = eqb c 1; relation = k; back = eqb d 1 } ∷ []),
    ) refl
context_after (edge h i j) g p = refl
context_after (form h) g p = refl
context_after (table_bit h i j) g p = refl
context_after (pair h i j k) g p = refl
context_after (event h i k) g p = refl
context_after (mark h) g p = refl

-- The sets of free variables after it.
pub masked_after : {f : File} {l : Line} → Ranged l → FileFits f → Passed (tests f l) → (terms masks : List ℕ) → Masked f.terms masks →
    (m : ℕ) → FreeIn terms masks l m → Masked (after_line f l).terms (stored_sets l m masks)
unfolding tests after_line stored_sets
masked_after (members h) g p terms masks k m is = record { long = k.long; bits = k.bits }
masked_after (labels h i) g p terms masks k m is = record { long = k.long; bits = k.bits }
masked_after {f} (entry_line {n = n} {o = o} {a = a} {b = b} {c = c} h i j q r y) g p terms masks k m is =
    let e : n ≡ f.terms.entries = eqb-true n f.terms.entries (passed_at p 1) in
    subst (λ (n : ℕ). Passed (tests f (Entry n o a b c)) → Masked (with_entry f.terms n o a b c) (set masks n m)) (sym e)
    (λ p. masked_new f o a b c g masks k m is (passed_at p 3) (passed_at p 7) (passed_at p 8) (passed_at p 9) (ltb-true f.terms.entries 256 (passed_at p 2))) p
masked_after (policy h i) g p terms masks k m is = record { long = k.long; bits = k.bits }
masked_after (effect h i q r n) g p terms masks k m is = record { long = k.long; bits = k.bits }
masked_after (edge h i j) g p terms masks k m is = k
masked_after (form h) g p terms masks k m is = k
masked_after (table_bit h i j) g p terms masks k m is = k
masked_after (pair h i j q) g p terms masks k m is = k
masked_after (event h i j) g p terms masks k m is = k
masked_after (mark h) g p terms masks k m is = record { long = k.long; bits = k.bits }

-- After a T line the set of its table is at hand.
pub last_after : (f : File) {l : Line} → Ranged l → Passed (tests f l) → (terms masks : List ℕ) (m : ℕ) → FreeIn terms masks l m →
    LastSet (stored_terms (context_of f) l terms) (stored_sets l m masks) (stepped (context_of f) l).phase (stepped (context_of f) l).relation m
unfolding tests stored_terms stored_sets stepped
last_after f (members h) p terms masks m is e = absurd (omega (arith, e))
last_after f (labels h i) p terms masks m is e = absurd (omega (arith, e))
last_after f (entry_line h i j q r y) p terms masks m is e = absurd (omega (arith, e))
last_after f (policy h i) p terms masks m is e = absurd (omega (arith, e))
last_after f (effect h i q r n) p terms masks m is e = absurd (omega (arith, e))
last_after f (edge h i j) p terms masks m is e = absurd (omega (arith, e))
last_after f (form h) p terms masks m is e = absurd (omega (arith, e, eqb-true f.phase 0 (passed_at p 0)))
last_after f (table_bit h i j) p terms masks m is e = is
last_after f (pair h i j q) p terms masks m is e = is
last_after f (event h i j) p terms masks m is e = absurd (omega (arith, e))
last_after f (mark h) p terms masks m is e = absurd (omega (arith, e))

-- The words after it.
pub terms_after : {f : File} {l : Line} → Ranged l → FileFits f → Passed (tests f l) →
    stored_terms (context_of f) l (memory_of f.terms) ≡ memory_of (after_line f l).terms
unfolding tests after_line stored_terms
terms_after {f} (members {n = n} h) g p = members_stored f.terms n
terms_after {f} (labels {r = r} {e = e} h i) g p = labels_stored f.terms r e
terms_after {f} (entry_line {n = n} {o = o} {a = a} {b = b} {c = c} h i j k m y) g p = entry_stored f.terms n o a b c (ltb-true n 256 (passed_at p 2))
terms_after {f} (policy {j = j} {n = n} h i) g p = policy_stored f.terms j n (in_ranges {l = Policy j n} (policy h i) g p).0
terms_after {f} (effect {j = j} {c = c} {k = k} {d = d} h i q m n) g p =
    rw (slot_is f g j (leb-true f.event j (passed_at p 2)))
    (effect_stored f.terms j c k d (in_ranges {l = Effect j c k d} (effect h i q m n) g p).0 (action c i q) (direction d n)
    (ltb-true (length (f.terms.effects j)) 4 (passed_at p 4)))
  where
    action : (c : ℕ) → 0 < c → c < 3 → cond (eqb c 1) 1 2 ≡ c
    action zero p q = absurd (omega arith)
    action (suc zero) p q = refl
    action (suc (suc zero)) p q = refl
    action (suc (suc (suc c))) p q = absurd (omega arith)

    direction : (d : ℕ) → d < 2 → cond (eqb d 1) 1 0 ≡ d
    direction zero q = refl
    direction (suc zero) q = refl
    direction (suc (suc d)) q = absurd (omega arith)
terms_after (edge h i j) g p = refl
terms_after (form h) g p = refl
terms_after (table_bit h i j) g p = refl
terms_after (pair h i j k) g p = refl
terms_after (event h i k) g p = refl
terms_after {f} (mark {j = j} h) g p = mark_stored f.terms j (in_ranges {l = Mark j} (mark h) g p)

pub state-after : {f : File} {l : Line} → Ranged l → FileFits f → Passed (tests f l) → stored_state l (bits_of f) ≡ bits_of (after_line f l)
unfolding after_line stored_state
state-after (members h) g p = refl
state-after (labels h i) g p = refl
state-after (entry_line h i j k m y) g p = refl
state-after (policy h i) g p = refl
state-after (effect h i q m n) g p = refl
state-after {f} (edge {k = k} {a = a} {b = b} h i j) g p =
    let r = in_ranges {l = Edge k a b} (edge h i j) g p in
    edge_stored f.edges f.table k a b r.0 r.1 r.2 (event_word f.last)
state-after (form h) g p = refl
state-after {f} (table_bit {t = t} {a = a} {b = b} h i j) g p =
    let r = in_ranges {l = TableBit t a b} (table_bit h i j) g p in
    table_stored f.edges f.table t a b r.0 r.1 r.2 (event_word f.last)
state-after {f} (pair {t = t} {a = a} {b = b} {c = c} h i j k) g p =
    let r = in_ranges {l = PairBit t a b c} (pair h i j k) g p in
    table_stored f.edges f.table t (pair_word a b) (pair_bit b c) r.0 (omega (arith, r.1, r.2)) (omega (arith, r.3)) (event_word f.last)
state-after {f} (event {j = j} {u = u} {v = v} h i k) g p =
    event_stored (together f.edges f.table) (event_word f.last) _
    ∙ ap (bits_memory (together f.edges f.table)) (event-word j u v)
state-after (mark h) g p = refl
