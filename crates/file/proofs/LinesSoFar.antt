-- The lines that a file read so far has said: a line that is taken is added at their end.
use Prim.Native.Nat.{ℕ, ◌+◌, ◌*◌, ◌/◌, ◌%◌, ◌≤◌, ◌<◌}
use mathlib.Core.Path.{◌≡◌, refl, sym, ap, ap₂, ◌∙◌}
use mathlib.Core.Logic.{◌⊎◌, inl, inr, ⊎_elim}
use mathlib.Core.List.{List, [], ◌∷◌, ◌++◌, append-nil, append_assoc}
use mathlib.Core.Bool.{Bool, true, false, cond}
use native.Mathlib.Omega.{arith}
use borrow.Author.Tests.{eqb-true, ltb-true, leb-true, not-true}
use lib.Dec.{ltb}
use Rattle.sets.proofs.Finite.{is_false, and_left, and_right}
use Rattle.theory.specs.Formula.{columns}
use Rattle.theory.specs.Columns.{pair_word, pair_bit}
use Rattle.theory.specs.Terms.{Terms, formula, tables, past_entry}
use Rattle.theory.proofs.Past.{past-entry}
use Rattle.theory.specs.Tables.{State}
use Rattle.file.specs.File.{File, state_said, nothing, pair_table, after_line}
use Rattle.file.specs.Reading.{tests, complete, rises}
use Rattle.file.specs.Writing.{table_says, event_edge_line, all_lines, stored_lines}
use Rattle.file.specs.declared.line.Line.{Line}
use Rattle.file.specs.declared.line.Line.TheVariants.{Members, Labels, Entry, Policy, Effect, Edge, Form, TableBit, PairBit, EventEdge, Mark}
use Rattle.file.specs.Refused.{Passed}
use Rattle.file.proofs.Printed.{Ranged}
use Rattle.file.proofs.Printed.Ranged.{members, labels, entry, policy, effect, edge, form, bit, pair, event, mark}
use Rattle.file.proofs.Derivation.{passed_at, Taken}
use Rattle.file.proofs.Derivation.Taken.{none, one}
use Rattle.file.proofs.Fit.{code, UpTo, two_few}
use Rattle.file.proofs.Invariant.{FileFits, going_first, going, entry_phase, policy_phase, complete_phase, complete_policies, rises_code, rises-pair}
use Rattle.file.proofs.LinesAppended.{empty, here, later}
use Rattle.file.proofs.PartsSoFar.{form_lines, head_lines, entry_lines, policy_lines, mark_lines, event_lines, bit_lines, forms_of, heads_of, entries_of, policies_of, marks_of, events_of, edges_of, bits_of, after_edges, after_effects, after_marks, after_policies, after_entries, after_heads, after_form, so_far, form_more, head_none, head_first, head_second, head_late, entries_none, entries_more, policies_none, policies_more, marks_none, marks_more, events_none, events_more, bits_none, bits_more, event_line}

-- ---- what comes after the present phase is empty

module _ (f : File) (g : FileFits f) where
  no_last : f.phase < 8 → event_edge_line f.last ≡ []
  no_last l = rw (g.no_last l) refl

  no_bits : f.phase < 7 → after_edges f ≡ []
  no_bits l = empty (bits_none 131072 (table_says f.terms) f.table (g.no_bits l)) (no_last (omega arith))

  no_edges : f.phase < 6 → after_effects f ≡ []
  no_edges l = empty (bits_none 65536 Edge f.edges (g.no_edges l)) (no_bits (omega arith))

  no_effects : f.phase < 5 → after_marks f ≡ []
  no_effects l = empty (events_none f.terms.events f.terms.effects (g.no_effects l)) (no_edges (omega arith))

  no_marks : f.phase < 5 → f.marks ≡ 0 → after_policies f ≡ []
  no_marks l e = empty (marks_none f.terms.events f.terms.kept (λ j. g.marks.later j (omega arith))) (no_effects l)

  no_policies : f.phase < 4 → after_entries f ≡ []
  no_policies l = empty (policies_none f.policies f.terms.policy (g.no_policies l)) (no_marks (omega arith) (g.no_marks (inl l)))

  no_entries : f.phase < 3 → after_heads f ≡ []
  no_entries l = empty (entries_none f.terms.entries f.terms.entry (g.no_entries l)) (no_policies (omega arith))

  no_heads : f.phase ≡ 0 → after_form f ≡ []
  no_heads e = empty (head_none f.phase f.terms.members f.terms.relations f.terms.events e) (no_entries (omega arith))

-- No bit from the next one on.
none_beyond : (kind : ℕ) (f : File) (R : (k a b : ℕ) → Bool) (k a b : ℕ) → a < 64 → b < 64 → (f.from < 64) × (f.to < 64)
    → (f.phase < kind → (k a b : ℕ) → R k a b ≡ false) → UpTo R f.relation f.from f.to → rises kind f k a b ≡ true
    → (l c d : ℕ) → code k a b ≤ code l c d → R l c d ≡ false
none_beyond kind f R k a b p q s n u h l c d m =
    ⊎_elim
    (λ t. n t l c d)
    (λ t. is_false (R l c d) (λ e. let o = u.upto l c d e in omega arith))
    (rises_code f kind k a b p q s h)

-- The same, where it is known that the bit comes after the last.
none_after : (f : File) (R : (k a b : ℕ) → Bool) (k a b : ℕ) → a < 64 → b < 64 → (f.from < 64) × (f.to < 64)
    → (f.phase < 7 → (k a b : ℕ) → R k a b ≡ false) → UpTo R f.relation f.from f.to
    → (f.phase < 7) ⊎ (code f.relation f.from f.to < code k a b) → (l c d : ℕ) → code k a b ≤ code l c d → R l c d ≡ false
none_after f R k a b p q s n u h l c d m =
    ⊎_elim (λ t. n t l c d) (λ t. is_false (R l c d) (λ e. let o = u.upto l c d e in omega arith)) h

-- What the line of a bit says, by the number of columns.
one_says : (T : Terms) (t i k : ℕ) → pair_table T t ≡ false → table_says T t i k ≡ TableBit t i k
one_says T t i k e = rw e refl

two_says : (T : Terms) (t a b c : ℕ) → b < 16 → c < 16 → pair_table T t ≡ true → table_says T t (pair_word a b) (pair_bit b c) ≡ PairBit t a b c
two_says T t a b c bl cl e =
    let m : pair_word a b / 4 ≡ a = omega arith in
    let f : 4 * (pair_word a b % 4) + pair_bit b c / 16 ≡ b = omega arith in
    let g : pair_bit b c % 16 ≡ c = omega arith in
    rw e (λ d. PairBit t (m d) (f d) (g d))

-- ---- a line that is taken is added at the end

heads_same : (f : File) (p : ℕ) → 2 ≤ f.phase → 2 ≤ p → head_lines p f.terms.members f.terms.relations f.terms.events ≡ heads_of f
heads_same f p h i =
    let T = f.terms in
    head_late p T.members T.relations T.events i ∙ sym (head_late f.phase T.members T.relations T.events h)

-- At the form; and further on than each part, which stays.
module _ (f f' : File) (x : List Line) where
  at_form : forms_of f' ≡ forms_of f ++ x → after_form f ≡ [] → after_form f' ≡ [] → so_far f' ≡ so_far f ++ x
  unfolding so_far
  at_form e h i = here (forms_of f) (forms_of f') (after_form f) (after_form f') x e h i

  past_form : forms_of f' ≡ forms_of f → after_form f' ≡ after_form f ++ x → so_far f' ≡ so_far f ++ x
  unfolding so_far
  past_form e h = later (forms_of f) (forms_of f') (after_form f) (after_form f') x e h

  past_heads : forms_of f' ≡ forms_of f → heads_of f' ≡ heads_of f → after_heads f' ≡ after_heads f ++ x → so_far f' ≡ so_far f ++ x
  past_heads d e h = past_form d (later (heads_of f) (heads_of f') (after_heads f) (after_heads f') x e h)

  past_entries : entries_of f' ≡ entries_of f → after_entries f' ≡ after_entries f ++ x → after_heads f' ≡ after_heads f ++ x
  past_entries e h = later (entries_of f) (entries_of f') (after_entries f) (after_entries f') x e h

  past_policies : policies_of f' ≡ policies_of f → after_policies f' ≡ after_policies f ++ x → after_entries f' ≡ after_entries f ++ x
  past_policies e h = later (policies_of f) (policies_of f') (after_policies f) (after_policies f') x e h

  past_marks : marks_of f' ≡ marks_of f → after_marks f' ≡ after_marks f ++ x → after_policies f' ≡ after_policies f ++ x
  past_marks e h = later (marks_of f) (marks_of f') (after_marks f) (after_marks f') x e h

  past_effects : events_of f' ≡ events_of f → after_effects f' ≡ after_effects f ++ x → after_marks f' ≡ after_marks f ++ x
  past_effects e h = later (events_of f) (events_of f') (after_effects f) (after_effects f') x e h

  past_edges : edges_of f' ≡ edges_of f → after_edges f' ≡ after_edges f ++ x → after_effects f' ≡ after_effects f ++ x
  past_edges e h = later (edges_of f) (edges_of f') (after_edges f) (after_edges f') x e h

line_more : {f : File} {l : Line} → Ranged l → Passed (tests f l) → FileFits f → so_far (after_line f l) ≡ so_far f ++ (l ∷ [])
unfolding tests after_line
line_more {f} (members {n = n} h) p g =
    let T = f.terms in
    let f' = after_line f (Members n) in
    let z = eqb-true f.phase 0 (passed_at p 0) in
    past_form f f' (Members n ∷ []) refl
    (here (heads_of f) (heads_of f') (after_heads f) (after_heads f') (Members n ∷ [])
    (head_first f.phase T.members n T.relations T.events z)
    (no_entries f g (omega arith)) (no_entries f' (going (members h) p g) (omega arith)))
line_more {f} (labels {r = r} {e = e} h i) p g =
    let T = f.terms in
    let f' = after_line f (Labels r e) in
    let z = eqb-true f.phase 1 (passed_at p 0) in
    past_form f f' (Labels r e ∷ []) refl
    (here (heads_of f) (heads_of f') (after_heads f) (after_heads f') (Labels r e ∷ [])
    (head_second f.phase T.members r e T.relations T.events z)
    (no_entries f g (omega arith)) (no_entries f' (going (labels h i) p g) (omega arith)))
line_more {f} (entry {n = n} {o = o} {a = a} {b = b} {c = c} h i j k m y) p g =
    let x = Entry n o a b c ∷ [] in
    let f' = after_line f (Entry n o a b c) in
    let z = entry_phase f (passed_at p 0) in
    let e = eqb-true n f.terms.entries (passed_at p 1) in
    past_heads f f' x refl (heads_same f 3 z.0 (omega arith))
    (here (entries_of f) (entries_of f') (after_entries f) (after_entries f') x
    (entries_more n f.terms.entry o a b c ∙ ap (λ (m : ℕ). entry_lines m f.terms.entry ++ x) e)
    (no_policies f g z.1) (no_policies f' (going (entry h i j k m y) p g) (omega arith)))
line_more {f} (policy {j = j} {n = n} h i) p g =
    let x = Policy j n ∷ [] in
    let f' = after_line f (Policy j n) in
    let z = policy_phase f (passed_at p 0) in
    let e = eqb-true j f.policies (passed_at p 1) in
    let l = ltb-true j f.terms.events (passed_at p 2) in
    let none_yet = g.no_marks (inr (omega arith)) in
    past_heads f f' x refl (heads_same f 4 z.0 (omega arith)) (past_entries f f' x refl
    (here (policies_of f) (policies_of f') (after_policies f) (after_policies f') x
    (policies_more j n f.terms.policy ∙ ap (λ (m : ℕ). policy_lines m f.terms.policy ++ x) e)
    (no_marks f g z.1 none_yet) (no_marks f' (going (policy h i) p g) (omega arith) none_yet)))
line_more {f} (effect {j = j} {c = c} {k = k} {d = d} h i q m n) p g =
    let x = Effect j c k d ∷ [] in
    let f' = after_line f (Effect j c k d) in
    let z = complete_phase f (passed_at p 0) in
    let y = leb-true f.phase 5 (passed_at p 1) in
    let w = leb-true f.event j (passed_at p 2) in
    past_heads f f' x refl (heads_same f 5 z (omega arith)) (past_entries f f' x refl (past_policies f f' x refl (past_marks f f' x refl
    (here (events_of f) (events_of f') (after_effects f) (after_effects f') x
    (events_more f.terms.events f.terms.effects j c k d i q n (ltb-true j f.terms.events (passed_at p 3))
    (λ v l. g.effects.later v (omega arith)))
    (no_edges f g (omega arith)) (no_edges f' (going (effect h i q m n) p g) (omega arith))))))
line_more {f} (edge {k = k} {a = a} {b = b} h i j) p g =
    let x = Edge k a b ∷ [] in
    let f' = after_line f (Edge k a b) in
    let z = complete_phase f (passed_at p 0) in
    let y = leb-true f.phase 6 (passed_at p 1) in
    let few = (g.members (omega arith)).1 in
    let small = (g.labels z).0 in
    let lk = ltb-true k f.terms.relations (passed_at p 3) in
    let la = ltb-true a f.terms.members (passed_at p 4) in
    let lb = ltb-true b f.terms.members (passed_at p 5) in
    past_heads f f' x refl (heads_same f 6 z (omega arith)) (past_entries f f' x refl (past_policies f f' x refl (past_marks f f' x refl (past_effects f f' x refl
    (here (edges_of f) (edges_of f') (after_edges f) (after_edges f') x
    (bits_more 65536 Edge f.edges k a b (omega arith) (omega arith) (omega arith)
    (none_beyond 6 f f.edges k a b (omega arith) (omega arith) g.short g.no_edges (g.edges_rise (omega arith)) (passed_at p 2)))
    (no_bits f g (omega arith)) (no_bits f' (going (edge h i j) p g) (omega arith)))))))
line_more {f} (form {n = n} h) p g =
    let x = Form n ∷ [] in
    let f' = after_line f (Form n) in
    let z = eqb-true f.phase 0 (passed_at p 0) in
    at_form f f' x (form_more f.stored n (not-true f.stored (passed_at p 1)) (eqb-true n 2 (passed_at p 2)))
    (no_heads f g z) (no_heads f' (going (form h) p g) z)
line_more {f} (bit {t = t} {a = a} {b = b} h i j) p g =
    let x = TableBit t a b ∷ [] in
    let f' = after_line f (TableBit t a b) in
    let z = complete_phase f (passed_at p 1) in
    let y = leb-true f.phase 7 (passed_at p 2) in
    let few = (g.members (omega arith)).1 in
    let small = g.entries.few_tables in
    let lt = ltb-true t (tables f.terms) (passed_at p 5) in
    let one = not-true (pair_table f.terms t) (passed_at p 4) in
    let la = ltb-true a f.terms.members (passed_at p 6) in
    let lb = ltb-true b f.terms.members (passed_at p 7) in
    past_heads f f' x refl (heads_same f 7 z (omega arith)) (past_entries f f' x refl (past_policies f f' x refl (past_marks f f' x refl (past_effects f f' x refl
    (past_edges f f' x refl
    (here (bits_of f) (bits_of f') (event_edge_line f.last) (event_edge_line f'.last) x
    (bits_more 131072 (table_says f.terms) f.table t a b (omega arith) (omega arith) (omega arith)
    (none_after f f.table t a b (omega arith) (omega arith) g.short g.no_bits g.bits_rise (rises_code f 7 t a b (omega arith) (omega arith) g.short (passed_at p 3)))
    ∙ ap (λ (l : Line). bits_of f ++ (l ∷ [])) (one_says f.terms t a b one))
    (no_last f g (omega arith)) (no_last f' (going (bit h i j) p g) (omega arith))))))))
line_more {f} (pair {t = t} {a = a} {b = b} {c = c} h i j k) p g =
    let x = PairBit t a b c ∷ [] in
    let f' = after_line f (PairBit t a b c) in
    let z = complete_phase f (passed_at p 1) in
    let y = leb-true f.phase 7 (passed_at p 2) in
    let few = (g.members (omega arith)).1 in
    let small = g.entries.few_tables in
    let T = f.terms in
    let two = passed_at p 4 in
    let lt = ltb-true t (tables T) (and_left (ltb t (tables T)) _ two) in
    let en = past-entry T t lt in
    let n17 : T.members < 17 = two_few T.members (columns (formula T (past_entry T t))) (and_right (ltb t (tables T)) _ two) ((g.entries.fit (past_entry T t) en.exists).columns-fit en.past) in
    let la = ltb-true a T.members (passed_at p 5) in
    let lb = ltb-true b T.members (passed_at p 6) in
    let lc = ltb-true c T.members (passed_at p 7) in
    past_heads f f' x refl (heads_same f 7 z (omega arith)) (past_entries f f' x refl (past_policies f f' x refl (past_marks f f' x refl (past_effects f f' x refl
    (past_edges f f' x refl
    (here (bits_of f) (bits_of f') (event_edge_line f.last) (event_edge_line f'.last) x
    (bits_more 131072 (table_says T) f.table t (pair_word a b) (pair_bit b c) (omega arith) (omega arith) (omega arith)
    (none_after f f.table t (pair_word a b) (pair_bit b c) (omega arith) (omega arith) g.short g.no_bits g.bits_rise
    (rises-pair f t a b c (omega arith) (omega arith) (omega arith) g.short (passed_at p 3)))
    ∙ ap (λ (l : Line). bits_of f ++ (l ∷ [])) (two_says T t a b c (omega arith) (omega arith) two))
    (no_last f g (omega arith)) (no_last f' (going (pair h i j k) p g) (omega arith))))))))
line_more {f} (event {j = j} {u = u} {v = v} h i m) p g =
    let x = EventEdge j u v ∷ [] in
    let f' = after_line f (EventEdge j u v) in
    let z = complete_phase f (passed_at p 1) in
    let y = leb-true f.phase 7 (passed_at p 2) in
    past_heads f f' x refl (heads_same f 8 z (omega arith)) (past_entries f f' x refl (past_policies f f' x refl (past_marks f f' x refl (past_effects f f' x refl
    (past_edges f f' x refl
    (later (bits_of f) (bits_of f') (event_edge_line f.last) (event_edge_line f'.last) x refl
    (event_line j u v ∙ ap (λ (ls : List Line). ls ++ x) (sym (no_last f g (omega arith))))))))))
line_more {f} (mark {j = j} h) p g =
    let x = Mark j ∷ [] in
    let f' = after_line f (Mark j) in
    let z = complete_phase f (passed_at p 0) in
    let y = leb-true f.phase 4 (passed_at p 1) in
    let w = leb-true f.marks j (passed_at p 2) in
    past_heads f f' x refl (heads_same f 4 z (omega arith)) (past_entries f f' x refl (past_policies f f' x refl
    (here (marks_of f) (marks_of f') (after_marks f) (after_marks f') x
    (marks_more f.terms.events j f.terms.kept (ltb-true j f.terms.events (passed_at p 3)) (λ i l. g.marks.later i (omega arith)))
    (no_effects f g (omega arith)) (no_effects f' (going (mark h) p g) (omega arith)))))

pub lines_more : {f g : File} {ls : List Line} → Taken f ls g → FileFits f → so_far g ≡ so_far f ++ ls
lines_more none h = sym (append-nil _)
lines_more {f = f} (one {l = l} {ls = ls} r p t) h =
    lines_more t (going r p h) ∙ ap (λ (ms : List Line). ms ++ ls) (line_more r p h) ∙ append_assoc (so_far f) (l ∷ []) ls

pub first_none : so_far nothing ≡ []
unfolding so_far nothing form_lines
first_none = no_heads nothing going_first refl

-- ---- a complete file has said all its lines

-- The lines of what a file says, in its own form.
abbrev pub lines_said : File → List Line
lines_said f = cond f.stored (stored_lines f.terms (state_said f)) (all_lines f.terms f.edges)

joined : (a b c d e x : List Line) → a ++ (b ++ (c ++ (d ++ (e ++ x)))) ≡ (a ++ (b ++ (c ++ (d ++ e)))) ++ x
joined a b c d e x =
    rw (append_assoc a (b ++ (c ++ (d ++ e))) x, append_assoc b (c ++ (d ++ e)) x, append_assoc c (d ++ e) x, append_assoc d e x) refl

module _ (T : Terms) (S : State) where
  abbrev E : List Line
  E = entry_lines T.entries T.entry

  abbrev P : List Line
  P = policy_lines T.events T.policy

  abbrev K : List Line
  K = mark_lines T.events T.kept

  abbrev F : List Line
  F = event_lines T.events T.effects

  abbrev G : List Line
  G = bit_lines 65536 Edge S.now.edge

  abbrev X : List Line
  X = bit_lines 131072 (table_says T) S.table ++ event_edge_line S.now.event

  in_form : (b : Bool) → (b ≡ false → X ≡ [])
      → form_lines b ++ (Members T.members ∷ Labels T.relations T.events ∷ (E ++ (P ++ (K ++ (F ++ (G ++ X))))))
      ≡ cond b (stored_lines T S) (all_lines T S.now.edge)
  unfolding form_lines all_lines stored_lines entry_lines policy_lines mark_lines event_lines bit_lines
  in_form true h = ap {B = List Line} (λ ls. Form 2 ∷ Members T.members ∷ Labels T.relations T.events ∷ ls) (joined E P K F G X)
  in_form false h =
      ap {B = List Line} (λ ls. Members T.members ∷ Labels T.relations T.events ∷ ls)
      (joined E P K F G X ∙ ap (λ (ls : List Line). (E ++ (P ++ (K ++ (F ++ G)))) ++ ls) (h refl) ∙ append-nil (E ++ (P ++ (K ++ (F ++ G)))))

pub all_said : (f : File) → complete f ≡ true → FileFits f → so_far f ≡ lines_said f
unfolding so_far
all_said f c g =
    let T = f.terms in
    let heads = head_late f.phase T.members T.relations T.events (complete_phase f c) in
    ap₂ (λ (hs ps : List Line). forms_of f ++ (hs ++ (entries_of f ++ (ps ++ after_policies f)))) heads
    (ap (λ (n : ℕ). policy_lines n T.policy) (complete_policies f c))
    ∙ in_form T (state_said f) f.stored (λ t. no_bits f g (g.old t))
