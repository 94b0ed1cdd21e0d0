-- Reading what is written of terms and relations, or stored of terms and a state, gives the same again.
use Prim.Native.Nat.{ℕ, ◌+◌, ◌-◌, ◌*◌, ◌/◌, ◌%◌, ◌<◌}
use mathlib.Core.Path.{◌≡◌, refl, sym, ap, fun_ext, subst, subst₂, ◌∙◌}
use mathlib.Core.List.{List, [], ◌∷◌}
use mathlib.Core.Bool.{Bool, true, false, not, ◌&&◌}
use mathlib.Core.Logic.{◌⊎◌, ⊎_elim}
use lib.Dec.{ltb}
use Rattle.sets.proofs.Finite.{true_or_false, and_right}
use native.Mathlib.Omega.{arith}
use borrow.Author.Tests.{lt-ltb, le-ltb, le-leb}
use Rattle.theory.specs.Formula.{columns}
use Rattle.theory.specs.Columns.{inside as columnsInside, pair_word, pair_bit}
use Rattle.theory.specs.Terms.{Terms, formula, tables, past_entry}
use Rattle.theory.proofs.Past.{past-entry}
use Rattle.theory.proofs.Places.{inside_word, inside_bit}
use Rattle.theory.specs.Moment.{Relations, Event, first}
use Rattle.theory.specs.Moment.Event.{happened, tried}
use Rattle.theory.specs.Tables.{Tables, State}
use Rattle.theory.specs.Fit.{Good}
use Rattle.file.specs.File.{File, nothing, has_two, pair_table, with_table_bit, event_named, event_said, after_line}
use Rattle.file.specs.Reading.{tests, complete, reading}
use Rattle.file.specs.Reading.Reading.{accepted}
use Rattle.file.specs.Writing.{listed, bit_at, table_says, all_lines, event_edge_line, stored_lines, written, stored}
use Rattle.file.specs.declared.line.Line.{Line}
use Rattle.file.specs.declared.line.Line.TheVariants.{Form, TableBit, PairBit, EventEdge}
use Rattle.file.specs.Refused.{Passed}
use Rattle.file.specs.Refused.Passed.{none, pass}
use Rattle.file.proofs.Printed.{Ranged}
use Rattle.file.proofs.Derivation.{Reached, reached_so, reached_then, reached_one, reached_none}
use Rattle.file.proofs.LevelWords.{Level, level_empty, read_printed}
use Rattle.file.proofs.Fit.{code, Inside, InsideTables, EventFits, place_one, place_two, two_few}
use Rattle.file.proofs.Invariant.{FileFits, going_first, going, complete-is}
use Rattle.file.proofs.Accepted.{Tidy}
use Rattle.file.proofs.ReadEffects.{settled_complete}
use Rattle.file.proofs.ReadBits.{Adds, Kind, Below, Bounded, code_rises, code_rises_pair, bits_read, all-read}
use Rattle.file.proofs.ReadEdges.{Edged, lines_read}

-- What the old form says of a state: its relations, with no bit of a table and no event edge.
abbrev pub plain_state : Relations → State
plain_state R = record { now = first R; table = λ t a b. false }

-- The text is read as f, which has this form, these terms and this state.
pub record Reread (text : List ℕ) (form : Bool) (T : Terms) (S : State) (f : File) : Type 0 where
  pub accepts : reading text ≡ accepted f
  pub form_read : f.stored ≡ form
  pub terms : f.terms ≡ T
  pub edges : f.edges ≡ S.now.edge
  pub table : f.table ≡ S.table
  pub last : f.last ≡ S.now.event

-- A state that can be stored: all that it has is inside the terms, and its tables without a free variable are level.
pub record Storable (T : Terms) (S : State) : Type 0 where
  pub edges : Inside T.relations T.members S.now.edge
  pub bits : InsideTables T S.table
  pub last : EventFits T.events T.members S.now.event
  pub level : Level T S.table

-- ---- the bits of the tables

-- The bits of tables have at most 64 words, of 64 bits.
tables_bounded : (T : Terms) → Good T → (X : Tables) → InsideTables T X → Bounded (tables T) X
tables_bounded T good X inside t i k e =
    let h = inside.within t i k e in
    let n = past-entry T t h.0 in (
      h.0,
      inside_word T.members good.few_members (columns (formula T (past_entry T t))) i k ((good.entry (past_entry T t) n.exists).columns-fit n.past) h.1,
      inside_bit T.members good.few_members (columns (formula T (past_entry T t))) i k h.1,
    )

module _ (T : Terms) (good : Good T) (R : Relations) (X : Tables) (inside : InsideTables T X) where
  abbrev Ready : File → Type 0
  Ready = Edged T R true 7

  abbrev bits : File → Tables
  bits f = f.table

  module _ (g : File) (t : Ready g) (k a b : ℕ) (e : X k a b ≡ true) where
    abbrev cs : List ℕ
    cs = columns (formula T (past_entry T k))

    there : (k < tables T) × (columnsInside T.members cs a b ≡ true)
    there = inside.within k a b e

    -- After such a line.
    ready_after : (l : Line) → Ranged l → Passed (tests g l) → after_line g l ≡ with_table_bit g k a b → Ready (after_line g l)
    ready_after l r p q =
        let s = t.settled_so in
        let h : FileFits (with_table_bit g k a b) = subst FileFits q (going r p s.going_so) in
        subst Ready (sym q) (record {
          settled_so = record {
            low = omega arith;
            high = omega arith;
            form = s.form;
            policies = s.policies;
            terms = s.terms;
            going_so = h;
          };
          edges = t.edges;
        })

    adds_after : (l : Line) → Ranged l → Passed (tests g l) → after_line g l ≡ with_table_bit g k a b → table_says T k a b ≡ l → Adds 7 (table_says T) bits X Ready g k a b
    adds_after l r p q z = record {
      ranged = subst Ranged (sym z) r;
      passed = subst (λ (x : Line). Passed (tests g x)) (sym z) p;
      ready = subst (λ (x : Line). Ready (after_line g x)) (sym z) (ready_after l r p q);
      added = λ m c d. ap (λ (f : File). f.table m c d) (ap (after_line g) z ∙ q);
      last = ap (λ (f : File). code f.relation f.from f.to) (ap (after_line g) z ∙ q);
    }

    module _ (rise : (g.phase < 7) ⊎ (code g.relation g.from g.to < code k a b)) (short : (g.from < 64) × (g.to < 64)) where
      same_pair : pair_table g.terms k ≡ pair_table T k
      same_pair = ap (λ (x : Terms). pair_table x k) t.settled_so.terms

      one_adds : pair_table T k ≡ false → Adds 7 (table_says T) bits X Ready g k a b
      unfolding tests after_line
      one_adds z =
          let s = t.settled_so in
          let h0 = there.0 in
          let one : has_two cs ≡ false = sym (ap (λ (c : Bool). c && has_two cs) (lt-ltb k (tables T) h0)) ∙ z in
          let h = place_one T.members cs a b one there.1 in
          let h1 = h.0 in let h2 = h.1 in
          let m = good.few_tables in let n = good.few_members in
          let r : tables g.terms ≡ tables T = ap tables s.terms in
          let o : g.terms.members ≡ T.members = ap (λ (x : Terms). x.members) s.terms in
          adds_after (TableBit k a b) (Ranged.bit {t = k} {a = a} {b = b} (omega arith) (omega arith) (omega arith))
          (pass s.form
          (pass (settled_complete g s)
          (pass (le-leb g.phase 7 s.high)
          (pass (code_rises 7 g k a b (omega arith) (omega arith) short rise)
          (pass (ap not (same_pair ∙ z))
          (pass (lt-ltb k (tables g.terms) (omega arith))
          (pass (lt-ltb a g.terms.members (omega arith))
          (pass (lt-ltb b g.terms.members (omega arith))
          none))))))))
          refl (rw z refl)

      two_adds : pair_table T k ≡ true → Adds 7 (table_says T) bits X Ready g k a b
      unfolding tests after_line
      two_adds z =
          let s = t.settled_so in
          let h0 = there.0 in
          let two : has_two cs ≡ true = and_right (ltb k (tables T)) _ z in
          let e' = past-entry T k h0 in
          let few : T.members < 17 = two_few T.members cs two ((good.entry (past_entry T k) e'.exists).columns-fit e'.past) in
          let h = place_two T.members cs a b two there.1 in
          let h1 = h.0 in let h2 = h.1 in let h3 = h.2 in let h4 = h.3 in
          let m = good.few_tables in
          let o : g.terms.members ≡ T.members = ap (λ (x : Terms). x.members) s.terms in
          let word : pair_word (a / 4) (4 * (a % 4) + b / 16) ≡ a = omega arith in
          let place : pair_bit (4 * (a % 4) + b / 16) (b % 16) ≡ b = omega arith in
          adds_after (PairBit k (a / 4) (4 * (a % 4) + b / 16) (b % 16)) (Ranged.pair {t = k} {a = a / 4} {b = 4 * (a % 4) + b / 16} {c = b % 16} (omega arith) (omega arith) (omega arith) (omega arith))
          (pass s.form
          (pass (settled_complete g s)
          (pass (le-leb g.phase 7 s.high)
          (pass (code_rises_pair g k a b (omega arith) (omega arith) short rise)
          (pass (same_pair ∙ z)
          (pass (lt-ltb (a / 4) g.terms.members (omega arith))
          (pass (lt-ltb (4 * (a % 4) + b / 16) g.terms.members (omega arith))
          (pass (lt-ltb (b % 16) g.terms.members (omega arith))
          none))))))))
          (λ d. with_table_bit g k (word d) (place d)) (rw z refl)

      bit_adds : Adds 7 (table_says T) bits X Ready g k a b
      bit_adds = ⊎_elim two_adds one_adds (true_or_false (pair_table T k))

  of_bits : Kind 7 (table_says T) bits X Ready
  of_bits = record {
    none = λ g h l. h.no_bits l;
    up_to = λ g t h. h.bits_rise;
    adds = λ g t h k a b al bl e z. bit_adds g t k a b e z h.short;
  }

  -- The terms, the edges and the bits have been read, and no event edge.
  record Bitted (g : File) : Type 0 where
    edged_so : Edged T R true 7 g
    table : g.table ≡ X

  before_bits : (g : File) → Edged T R true 6 g → Ready g
  before_bits g t = let s = t.settled_so in let h = s.high in record {
    settled_so = record { low = s.low; high = omega arith; form = s.form; policies = s.policies; terms = s.terms; going_so = s.going_so };
    edges = t.edges;
  }

  bits_done : (g : File) → Below 7 (table_says T) bits X Ready 131072 g → Bitted g
  bits_done g t =
      let s = t.ready.settled_so in
      let m = good.few_tables in
      record {
        edged_so = t.ready;
        table = all-read 7 (table_says T) bits X Ready of_bits 131072 (tables T) (omega arith) (tables_bounded T good X inside) g
            (tables_bounded T good g.table (subst (λ (x : Terms). InsideTables x g.table) s.terms s.going_so.bits)) t;
      }

  bits_done_from : (g : File) → Edged T R true 6 g → Reached g (listed 131072 (bit_at (table_says T) X)) Bitted
  bits_done_from g t =
      let h = t.settled_so.high in
      reached_so (bits_read 7 (table_says T) bits X Ready of_bits 131072 g (before_bits g t) t.settled_so.going_so (omega arith)) bits_done

  -- ---- the event edge

  -- All has been read.
  record Whole (E : Event) (g : File) : Type 0 where
    whole : complete g ≡ true
    form : g.stored ≡ true
    terms : g.terms ≡ T
    edges : g.edges ≡ R
    table : g.table ≡ X
    last : g.last ≡ E

  -- The event and members that its line names.
  module _ (j u v : ℕ) (few : j < 32) (p : event_named j < T.events) (q : u < T.members) (r : v < T.members) (g : File) (t : Bitted g) where
    event_ranged : Ranged (EventEdge j u v)
    event_ranged = let n = good.few_members in Ranged.event {j = j} {u = u} {v = v} (omega arith) (omega arith) (omega arith)

    event_passed : Passed (tests g (EventEdge j u v))
    unfolding tests
    event_passed =
        let s = t.edged_so.settled_so in
        let e : g.terms.events ≡ T.events = ap (λ (x : Terms). x.events) s.terms in
        let m : g.terms.members ≡ T.members = ap (λ (x : Terms). x.members) s.terms in
        pass s.form
        (pass (settled_complete g s)
        (pass (le-leb g.phase 7 s.high)
        (pass (lt-ltb (event_named j) g.terms.events (subst (λ (n : ℕ). event_named j < n) (sym e) p))
        (pass (lt-ltb u g.terms.members (omega arith))
        (pass (lt-ltb v g.terms.members (omega arith))
        none)))))

    event_whole : Whole (event_said j u v) (after_line g (EventEdge j u v))
    unfolding after_line
    event_whole =
        let s = t.edged_so.settled_so in
        record {
          whole = complete-is (after_line g (EventEdge j u v)) (omega arith) (s.policies ∙ sym (ap (λ (x : Terms). x.events) s.terms));
          form = s.form;
          terms = s.terms;
          edges = t.edged_so.edges;
          table = t.table;
          last = refl;
        }

    named_read : (E : Event) → event_said j u v ≡ E → Reached g (EventEdge j u v ∷ []) (Whole E)
    named_read E e = subst (λ (x : Event). Reached g (EventEdge j u v ∷ []) (Whole x)) e (reached_one event_ranged event_passed event_whole)

  event_read : (E : Event) → EventFits T.events T.members E → (g : File) → Bitted g → Reached g (event_edge_line E) (Whole E)
  event_read E EventFits.none g t =
      let s = t.edged_so.settled_so in
      let h = s.high in
      reached_none (record {
        whole = settled_complete g s;
        form = s.form;
        terms = s.terms;
        edges = t.edged_so.edges;
        table = t.table;
        last = s.going_so.no_last (omega arith);
      })
  event_read E (EventFits.happened {j = j} {u = u} {v = v} p q r) g t =
      let m = good.few_events in
      let e = lt-ltb j 16 (omega arith) in
      named_read j u v (omega arith) (rw e p) q r g t (happened j u v) (rw e refl)
  event_read E (EventFits.tried {j = j} {u = u} {v = v} p q r) g t =
      let m = good.few_events in
      let e = le-ltb (16 + j) 16 (omega arith) in
      let d : 16 + j - 16 ≡ j = omega arith in
      named_read (16 + j) u v (omega arith) (rw (e, d) p) q r g t (tried j u v) (rw (e, d) refl)

-- ---- the two forms

module _ (T : Terms) (good : Good T) (tidy : Tidy T) where
  pub reread : (R : Relations) → Inside T.relations T.members R → (f : File) × Reread (written T R) false T (plain_state R) f
  unfolding written
  reread R inside =
      let s = lines_read T good tidy R inside nothing (unfold nothing in refl) going_first in
      let t = s.holds in
      let old : s.file.stored ≡ false = t.settled_so.form ∙ unfold nothing in refl in
      let h = t.settled_so.going_so in
      let l = t.settled_so.high in
      let empty : (k a b : ℕ) → s.file.table k a b ≡ false = h.no_bits (omega arith) in (
        s.file,
        record {
          accepts = read_printed s.taken (settled_complete s.file t.settled_so) (level_empty s.file.terms s.file.table empty);
          form_read = old;
          terms = t.settled_so.terms;
          edges = t.edges;
          table = fun_ext (λ k. fun_ext (λ a. fun_ext (λ b. empty k a b)));
          last = h.no_last (omega arith);
        },
      )

  form_passed : Passed (tests nothing (Form 2))
  unfolding tests nothing
  form_passed = pass refl (pass refl (pass refl none))

  module _ (S : State) (fits : Storable T S) where
    abbrev R : Relations
    R = S.now.edge

    abbrev begun : File
    begun = after_line nothing (Form 2)

    begun_edged : Reached begun (all_lines T R) (Edged T R true 6)
    unfolding after_line nothing
    begun_edged = lines_read T good tidy R fits.edges begun refl (going (Ranged.form (omega arith)) form_passed going_first)

    stored_read : Reached nothing (stored_lines T S) (Whole T good R S.table fits.bits S.now.event)
    unfolding stored_lines
    stored_read =
        reached_then
        (reached_one {P = λ (f : File). Reached f (all_lines T R) (Edged T R true 6)} (Ranged.form (omega arith)) form_passed begun_edged)
        (λ f e. reached_then e (λ g t. reached_then (bits_done_from T good R S.table fits.bits g t)
        (event_read T good R S.table fits.bits S.now.event fits.last)))

    pub reread_stored : (f : File) × Reread (stored T S) true T S f
    unfolding stored
    reread_stored =
        let s = stored_read in
        let t = s.holds in (
          s.file,
          record {
            accepts = read_printed s.taken t.whole (subst₂ Level (sym t.terms) (sym t.table) fits.level);
            form_read = t.form;
            terms = t.terms;
            edges = t.edges;
            table = t.table;
            last = t.last;
          },
        )
