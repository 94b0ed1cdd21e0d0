-- Reading what is written, the effects: with them the file read so far has the terms.
use Prim.Native.Nat.{ℕ, zero, suc, ◌≤◌, ◌<◌}
use mathlib.Core.Path.{◌≡◌, refl, sym, ap, ap₂, subst, fun_ext, ◌∙◌}
use mathlib.Core.Logic.{⊎_elim}
use mathlib.Core.List.{List, [], ◌∷◌, ◌++◌, append-nil, append_assoc}
use mathlib.Core.Bool.{Bool, true, false, cond}
use native.Mathlib.Omega.{arith}
use lib.Dec.{eqb, ltb}
use lib.ListN.{length, length-append}
use borrow.Author.Tests.{ltb-true, ltb-false, lt-ltb, le-leb}
use Rattle.sets.proofs.Finite.{true_or_false, last_or_below}
use Rattle.theory.specs.Terms.{Terms, Effect}
use Rattle.theory.specs.Fit.Within.{more}
use Rattle.theory.specs.Fit.{Good, Within}
use Rattle.file.specs.File.{File, after_line}
use Rattle.file.specs.Reading.{tests, complete}
use Rattle.file.specs.Writing.{listed, effect_lines}
use Rattle.file.specs.declared.line.Line.{Line}
use Rattle.file.specs.declared.line.Line.TheVariants as lines
use Rattle.file.proofs.Printed.{Ranged}
use Rattle.file.specs.Refused.{Passed}
use Rattle.file.proofs.Derivation.{Reached, reached_so, reached_then, reached_one, reached_none}
use Rattle.file.specs.Refused.Passed.{none, pass}
use Rattle.file.proofs.Update.{update_same, update_other}
use Rattle.file.proofs.Invariant.{FileFits, going, complete-is}
use Rattle.file.proofs.Accepted.{Tidy}
use Rattle.file.proofs.ReadEntries.{Headed}
use Rattle.file.proofs.ReadMarks.{Marked}

-- The line of an effect, and the effect that the line says.
abbrev effect_at : ℕ → Effect → Line
effect_at j x = lines.Effect j (cond x.adds 1 2) x.relation (cond x.back 1 0)

effect_said : (x : Effect) → ◌≡◌ {A = Effect} (record { adds = eqb (cond x.adds 1 2) 1; relation = x.relation; back = eqb (cond x.back 1 0) 1 }) x
effect_said x =
    λ i. record { adds = action x.adds i; relation = x.relation; back = direction x.back i }
  where
    action : (b : Bool) → eqb (cond b 1 2) 1 ≡ b
    action true = refl
    action false = refl

    direction : (b : Bool) → eqb (cond b 1 0) 1 ≡ b
    direction true = refl
    direction false = refl

effect_ranged : (j : ℕ) (x : Effect) → j < 100000 → x.relation < 100000 → Ranged (effect_at j x)
effect_ranged j x h i = Ranged.effect h (some x.adds) (few x.adds) i (two x.back)
  where
    some : (b : Bool) → 0 < cond b 1 2
    some true = omega arith
    some false = omega arith

    few : (b : Bool) → cond b 1 2 < 3
    few true = omega arith
    few false = omega arith

    two : (b : Bool) → cond b 1 0 < 2
    two true = omega arith
    two false = omega arith

-- The effects of the events below j have been read, and these of event j.
record Effected (T : Terms) (stored : Bool) (j : ℕ) (so_far : List Effect) (g : File) : Type 0 where
  low : 2 ≤ g.phase
  high : g.phase ≤ 5
  head : Headed T stored g
  entries : g.terms.entries ≡ T.entries
  entry : (k : ℕ) → g.terms.entry k ≡ T.entry k
  policies : g.policies ≡ T.events
  policy : (i : ℕ) → g.terms.policy i ≡ T.policy i
  kept : (i : ℕ) → g.terms.kept i ≡ T.kept i
  event : g.event ≤ j
  before : (i : ℕ) → i < j → g.terms.effects i ≡ T.effects i
  here : g.terms.effects j ≡ so_far
  going_so : FileFits g

-- The terms have been read, and of what follows them nothing that has a later phase.
pub record Settled (T : Terms) (stored : Bool) (phase : ℕ) (g : File) : Type 0 where
  pub low : 2 ≤ g.phase
  pub high : g.phase ≤ phase
  pub form : g.stored ≡ stored
  pub policies : g.policies ≡ T.events
  pub terms : g.terms ≡ T
  pub going_so : FileFits g

pub settled_complete : {T : Terms} {stored : Bool} {phase : ℕ} (g : File) → Settled T stored phase g → complete g ≡ true
settled_complete g t = complete-is g t.low (t.policies ∙ sym (ap (λ (x : Terms). x.events) t.terms))

module _ (T : Terms) (good : Good T) (tidy : Tidy T) (stored : Bool) where
  marks_done : (g : File) → Marked T stored T.events g → Effected T stored 0 [] g
  marks_done g t =
      let h = t.high in let m = t.marks in record {
        low = t.low;
        high = omega arith;
        head = t.head;
        entries = t.entries;
        entry = t.entry;
        policies = t.policies;
        policy = t.policy;
        kept = λ i. ⊎_elim
            (λ l. t.kept i (ltb-true i T.events l))
            (λ l. let n = ltb-false i T.events l in t.going_so.marks.later i (omega arith) ∙ sym (tidy.kept i n))
            (true_or_false (ltb i T.events));
        event = let e = t.going_so.no_event (omega arith) in omega arith;
        before = λ i l. absurd (omega arith);
        here = t.going_so.no_effects (omega arith) 0;
        going_so = t.going_so;
      }

  module _ (j : ℕ) (l : j < T.events) (x : Effect) (r : x.relation < T.relations) (so_far : List Effect) (few : length so_far < 4)
      (g : File) (t : Effected T stored j so_far g) where
    ranged : Ranged (effect_at j x)
    ranged = let e = good.few_events in let m = good.few_relations in effect_ranged j x (omega arith) (omega arith)

    passed : Passed (tests g (effect_at j x))
    unfolding tests
    passed =
        let e = t.head.events in let m = t.head.relations in let n = ap length t.here in
        pass (complete-is g t.low (t.policies ∙ sym e))
        (pass (le-leb g.phase 5 t.high)
        (pass (le-leb g.event j t.event)
        (pass (lt-ltb j g.terms.events (omega arith))
        (pass (lt-ltb (length (g.terms.effects j)) 4 (omega arith))
        (pass (lt-ltb x.relation g.terms.relations (omega arith))
        none)))))

    effected : Effected T stored j (so_far ++ (x ∷ [])) (after_line g (effect_at j x))
    unfolding after_line
    effected = record {
      low = omega arith;
      high = omega arith;
      head = record { form = t.head.form; members = t.head.members; relations = t.head.relations; events = t.head.events };
      entries = t.entries;
      entry = t.entry;
      policies = t.policies;
      policy = t.policy;
      kept = t.kept;
      event = omega arith;
      before = λ i m. update_other g.terms.effects j _ i (λ z. omega arith) ∙ t.before i m;
      here = update_same g.terms.effects j _ ∙ ap₂ (λ (es : List Effect) (y : Effect). es ++ (y ∷ [])) t.here (effect_said x);
      going_so = going ranged passed t.going_so;
    }

  -- The effects of one event.
  event_read : (j : ℕ) → j < T.events → (so_far es : List Effect) → Within T.relations es → so_far ++ es ≡ T.effects j
      → (g : File) → Effected T stored j so_far g → Reached g (effect_lines j es) (Effected T stored j (T.effects j))
  unfolding effect_lines
  event_read j l so_far [] w e g t = reached_none (subst (λ (es : List Effect). Effected T stored j es g) (sym (append-nil so_far) ∙ e) t)
  event_read j l so_far (x ∷ es) (more r w) e g t =
      let a = append_assoc so_far (x ∷ []) es in
      let few : length so_far < 4 =
      (let m = length-append so_far (x ∷ es) in let n = ap length e in let o = tidy.few_effects j in omega arith) in
      reached_then
      (reached_one (ranged j l x r so_far few g t) (passed j l x r so_far few g t) (effected j l x r so_far few g t))
      (λ h u. event_read j l (so_far ++ (x ∷ [])) es w (a ∙ e) h u)

  event_done : (j : ℕ) (g : File) → Effected T stored j (T.effects j) g → Effected T stored (suc j) [] g
  event_done j g t =
      let m = t.event in record {
        low = t.low;
        high = t.high;
        head = t.head;
        entries = t.entries;
        entry = t.entry;
        policies = t.policies;
        policy = t.policy;
        kept = t.kept;
        event = omega arith;
        before = λ i l. ⊎_elim (λ n. t.before i n) (λ n. subst (λ (k : ℕ). g.terms.effects k ≡ T.effects k) (sym n) t.here) (last_or_below i j l);
        here = t.going_so.effects.later (suc j) (omega arith);
        going_so = t.going_so;
      }

  events_read : (n : ℕ) → n ≤ T.events → (g : File) → Effected T stored 0 [] g → Reached g (listed n (λ j. effect_lines j (T.effects j))) (Effected T stored n [])
  unfolding listed
  events_read zero h g t = reached_none t
  events_read (suc n) h g t =
      reached_then (events_read n (omega arith) g t)
      (λ f u. reached_so (event_read n h [] (T.effects n) (good.effects n h) refl f u) (event_done n))

  effects_done : (g : File) → Effected T stored T.events [] g → Settled T stored 5 g
  effects_done g t =
      let entry : g.terms.entry ≡ T.entry = fun_ext t.entry in
      let policy : g.terms.policy ≡ T.policy = fun_ext t.policy in
      let kept : g.terms.kept ≡ T.kept = fun_ext t.kept in
      let effects : g.terms.effects ≡ T.effects = fun_ext (λ i. ⊎_elim
      (λ l. t.before i (ltb-true i T.events l))
      (λ l. let m = ltb-false i T.events l in let e = t.head.events in
      t.going_so.effects.beyond i (omega arith) ∙ sym (tidy.effects i m))
      (true_or_false (ltb i T.events))) in
      record {
        low = t.low;
        high = t.high;
        form = t.head.form;
        policies = t.policies;
        terms = λ i. record {
          members = t.head.members i;
          relations = t.head.relations i;
          events = t.head.events i;
          entries = t.entries i;
          entry = entry i;
          policy = policy i;
          effects = effects i;
          kept = kept i;
        };
        going_so = t.going_so;
      }

  pub settled : (g : File) → Marked T stored T.events g → Reached g (listed T.events (λ j. effect_lines j (T.effects j))) (Settled T stored 5)
  settled g t = reached_so (events_read T.events (omega arith) g (marks_done g t)) effects_done
