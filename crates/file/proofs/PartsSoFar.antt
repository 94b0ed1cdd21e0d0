-- The lines that a file read so far has said, part by part, and one line more of each part.
use Prim.Native.Nat.{ℕ, zero, suc, ◌+◌, ◌-◌, ◌/◌, ◌%◌, ◌≤◌, ◌<◌}
use mathlib.Core.Path.{◌≡◌, refl, sym, ap, ap₂, ◌∙◌}
use mathlib.Core.Logic.{⊎_elim}
use mathlib.Core.List.{List, [], ◌∷◌, ◌++◌}
use mathlib.Core.Bool.{Bool, true, false, cond, ◌&&◌}
use native.Mathlib.Omega.{arith}
use lib.Dec.{eqb, ltb}
use borrow.Author.Tests.{eqb-true, eq-eqb, ltb-false}
use Rattle.sets.proofs.Finite.{true_or_false, is_false, and_left, and_right}
use Rattle.theory.specs.Formula as formulas
use Rattle.theory.specs.Terms as terms
use Rattle.file.specs.File.{File, update, with_bit, event_said}
use Rattle.file.specs.Writing.{table_says, listed, effect_lines, bit_at, event_edge_line}
use Rattle.file.specs.declared.line.Line.{Line}
use Rattle.file.specs.declared.line.Line.TheVariants.{Members, Labels, Entry, Policy, Effect, Edge, Form, EventEdge, Mark}
use Rattle.file.proofs.Update.{update_same, update_other}
use Rattle.file.proofs.Fit.{code}
use Rattle.file.proofs.LinesAppended.{listed_none, listed_more, listed_changed}

-- The members and labels, by phase; the entries, policies, marks and effects.
unfoldable pub head_lines : (phase members relations events : ℕ) → List Line
head_lines zero N r e = []
head_lines (suc zero) N r e = Members N ∷ []
head_lines (suc (suc p)) N r e = Members N ∷ Labels r e ∷ []

unfoldable pub entry_lines : ℕ → (ℕ → formulas.Entry) → List Line
entry_lines n g = listed n (λ k. Entry k (g k).op (g k).a (g k).b (g k).c ∷ [])

unfoldable pub policy_lines : ℕ → (ℕ → ℕ) → List Line
policy_lines n p = listed n (λ j. Policy j (p j) ∷ [])

unfoldable pub mark_lines : ℕ → (ℕ → Bool) → List Line
mark_lines n k = listed n (λ j. cond (k j) (Mark j ∷ []) [])

unfoldable pub event_lines : ℕ → (ℕ → List terms.Effect) → List Line
event_lines n s = listed n (λ j. effect_lines j (s j))

-- The S line; the lines of set bits with numbers below n.
unfoldable pub form_lines : Bool → List Line
form_lines true = Form 2 ∷ []
form_lines false = []

unfoldable pub bit_lines : ℕ → (ℕ → ℕ → ℕ → Line) → ((k a b : ℕ) → Bool) → List Line
bit_lines n says R = listed n (bit_at says R)

-- The parts of what a file has said, and what follows each of them.
module _ (f : File) where
  abbrev pub forms_of : List Line
  forms_of = form_lines f.stored

  abbrev pub heads_of : List Line
  heads_of = head_lines f.phase f.terms.members f.terms.relations f.terms.events

  abbrev pub entries_of : List Line
  entries_of = entry_lines f.terms.entries f.terms.entry

  abbrev pub policies_of : List Line
  policies_of = policy_lines f.policies f.terms.policy

  abbrev pub marks_of : List Line
  marks_of = mark_lines f.terms.events f.terms.kept

  abbrev pub events_of : List Line
  events_of = event_lines f.terms.events f.terms.effects

  abbrev pub edges_of : List Line
  edges_of = bit_lines 65536 Edge f.edges

  abbrev pub bits_of : List Line
  bits_of = bit_lines 131072 (table_says f.terms) f.table

  abbrev pub after_edges : List Line
  after_edges = bits_of ++ event_edge_line f.last

  abbrev pub after_effects : List Line
  after_effects = edges_of ++ after_edges

  abbrev pub after_marks : List Line
  after_marks = events_of ++ after_effects

  abbrev pub after_policies : List Line
  after_policies = marks_of ++ after_marks

  abbrev pub after_entries : List Line
  after_entries = policies_of ++ after_policies

  abbrev pub after_heads : List Line
  after_heads = entries_of ++ after_entries

  abbrev pub after_form : List Line
  after_form = heads_of ++ after_heads

  unfoldable pub so_far : List Line
  so_far = forms_of ++ after_form

-- The S line.
pub form_more : (b : Bool) (n : ℕ) → b ≡ false → n ≡ 2 → form_lines true ≡ form_lines b ++ (Form n ∷ [])
unfolding form_lines
form_more b n e h = rw (e, h) refl

-- No members yet, the members, the labels, and no change after them.
pub head_none : (p N r e : ℕ) → p ≡ 0 → head_lines p N r e ≡ []
unfolding head_lines
head_none p N r e h = rw h refl

pub head_first : (p N n r e : ℕ) → p ≡ 0 → head_lines 1 n r e ≡ head_lines p N r e ++ (Members n ∷ [])
unfolding head_lines
head_first p N n r e h = rw h refl

pub head_second : (p N r e r' e' : ℕ) → p ≡ 1 → head_lines 2 N r e ≡ head_lines p N r' e' ++ (Labels r e ∷ [])
unfolding head_lines
head_second p N r e r' e' h = rw h refl

pub head_late : (p N r e : ℕ) → 2 ≤ p → head_lines p N r e ≡ Members N ∷ Labels r e ∷ []
unfolding head_lines
head_late zero N r e h = absurd (omega arith)
head_late (suc zero) N r e h = absurd (omega arith)
head_late (suc (suc p)) N r e h = refl

-- ---- each part, one line more

pub entries_none : (n : ℕ) (g : ℕ → formulas.Entry) → n ≡ 0 → entry_lines n g ≡ []
unfolding entry_lines
entries_none n g e = listed_none n _ (λ i l. absurd (omega arith))

pub entries_more : (n : ℕ) (g : ℕ → formulas.Entry) (o a b c : ℕ)
    → entry_lines (n + 1) (update g n (record { op = o; a = a; b = b; c = c })) ≡ entry_lines n g ++ (Entry n o a b c ∷ [])
unfolding entry_lines
entries_more n g o a b c =
    let v : formulas.Entry = record { op = o; a = a; b = b; c = c } in
    let line : ℕ → formulas.Entry → List Line = λ k x. Entry k x.op x.a x.b x.c ∷ [] in
    listed_more n (λ k. line k (g k)) (λ k. line k (update g n v k)) (λ i l. ap (line i) (update_other g n v i (λ z. omega arith)))
    ∙ ap (λ (x : formulas.Entry). entry_lines n g ++ line n x) (update_same g n v)

pub policies_none : (n : ℕ) (p : ℕ → ℕ) → n ≡ 0 → policy_lines n p ≡ []
unfolding policy_lines
policies_none n p e = listed_none n _ (λ i l. absurd (omega arith))

pub policies_more : (j n : ℕ) (p : ℕ → ℕ) → policy_lines (j + 1) (update p j n) ≡ policy_lines j p ++ (Policy j n ∷ [])
unfolding policy_lines
policies_more j n p =
    let line : ℕ → ℕ → List Line = λ k x. Policy k x ∷ [] in
    listed_more j (λ k. line k (p k)) (λ k. line k (update p j n k)) (λ i l. ap (line i) (update_other p j n i (λ z. omega arith)))
    ∙ ap (λ (x : ℕ). policy_lines j p ++ line j x) (update_same p j n)

pub marks_none : (n : ℕ) (k : ℕ → Bool) → ((j : ℕ) → k j ≡ false) → mark_lines n k ≡ []
unfolding mark_lines
marks_none n k h = listed_none n _ (λ i l. rw (h i) refl)

pub marks_more : (n j : ℕ) (k : ℕ → Bool) → j < n → ((i : ℕ) → j ≤ i → k i ≡ false) → mark_lines n (update k j true) ≡ mark_lines n k ++ (Mark j ∷ [])
unfolding mark_lines
marks_more n j k l h =
    let line : ℕ → Bool → List Line = λ i b. cond b (Mark i ∷ []) [] in
    listed_changed n j (λ i. line i (k i)) (λ i. line i (update k j true i)) (Mark j ∷ []) l
    (rw (update_same k j true, h j (omega arith)) refl)
    (λ i z. ap (line i) (update_other k j true i z))
    (λ i m. ap (line i) (h i (omega arith)))

pub events_none : (n : ℕ) (s : ℕ → List terms.Effect) → ((j : ℕ) → s j ≡ []) → event_lines n s ≡ []
unfolding event_lines effect_lines
events_none n s h = listed_none n _ (λ i l. rw (h i) refl)

effects_append : (j : ℕ) (es : List terms.Effect) (x : terms.Effect) → effect_lines j (es ++ (x ∷ [])) ≡ effect_lines j es ++ effect_lines j (x ∷ [])
unfolding effect_lines
effects_append j [] x = refl
effects_append j (e ∷ es) x = ap {B = List Line} (λ ls. Effect j (cond e.adds 1 2) e.relation (cond e.back 1 0) ∷ ls) (effects_append j es x)

effect-line : (j c k d : ℕ) → 0 < c → c < 3 → d < 2 → effect_lines j (record { adds = eqb c 1; relation = k; back = eqb d 1 } ∷ []) ≡ Effect j c k d ∷ []
unfolding effect_lines
effect-line j c k d p q r = ap₂ (λ (x y : ℕ). Effect j x k y ∷ []) (action c p q) (direction d r)
  where
    action : (c : ℕ) → 0 < c → c < 3 → cond (eqb c 1) 1 2 ≡ c
    action zero p q = absurd (omega arith)
    action (suc zero) p q = refl
    action (suc (suc zero)) p q = refl
    action (suc (suc (suc c))) p q = absurd (omega arith)

    direction : (d : ℕ) → d < 2 → cond (eqb d 1) 1 0 ≡ d
    direction zero r = refl
    direction (suc zero) r = refl
    direction (suc (suc d)) r = absurd (omega arith)

pub events_more : (n : ℕ) (s : ℕ → List terms.Effect) (j c k d : ℕ) → 0 < c → c < 3 → d < 2 → j < n → ((i : ℕ) → j < i → s i ≡ [])
    → event_lines n (update s j (s j ++ (record { adds = eqb c 1; relation = k; back = eqb d 1 } ∷ []))) ≡ event_lines n s ++ (Effect j c k d ∷ [])
unfolding event_lines
events_more n s j c k d p q r l h =
    let x : terms.Effect = record { adds = eqb c 1; relation = k; back = eqb d 1 } in
    let t : List terms.Effect = s j ++ (x ∷ []) in
    listed_changed n j (λ i. effect_lines i (s i)) (λ i. effect_lines i (update s j t i)) (Effect j c k d ∷ []) l
    (ap (effect_lines j) (update_same s j t) ∙ effects_append j (s j) x ∙ ap (λ (ls : List Line). effect_lines j (s j) ++ ls) (effect-line j c k d p q r))
    (λ i z. ap (effect_lines i) (update_other s j t i z))
    (λ i m. ap (effect_lines i) (h i m) ∙ unfold effect_lines in refl)

-- Edges and bits of tables.
module _ (n : ℕ) (says : ℕ → ℕ → ℕ → Line) (R : (k a b : ℕ) → Bool) where
  bit_none : (q : ℕ) → R (q / 4096) (q / 64 % 64) (q % 64) ≡ false → bit_at says R q ≡ []
  bit_none q h = rw h refl

  pub bits_none : ((k a b : ℕ) → R k a b ≡ false) → bit_lines n says R ≡ []
  unfolding bit_lines
  bits_none h = listed_none n (bit_at says R) (λ i l. bit_none i (h (i / 4096) (i / 64 % 64) (i % 64)))

  pub bits_more : (k a b : ℕ) → code k a b < n → a < 64 → b < 64 → ((l c d : ℕ) → code k a b ≤ code l c d → R l c d ≡ false)
      → bit_lines n says (with_bit R k a b) ≡ bit_lines n says R ++ (says k a b ∷ [])
  unfolding bit_lines
  bits_more k a b p q r h =
      listed_changed n (code k a b) (bit_at says R) (bit_at says (with_bit R k a b)) (says k a b ∷ []) p
      (there (code k a b) (omega arith) (omega arith) (omega arith) ∙ ap (λ (ls : List Line). ls ++ (says k a b ∷ [])) (sym (none (code k a b) (omega arith))))
      (λ i z. other i (is_false _ (λ e.
      let t = and_right (eqb (i / 4096) k) _ e in
      let u = eqb-true (i / 4096) k (and_left (eqb (i / 4096) k) _ e) in
      let v = eqb-true (i / 64 % 64) a (and_left (eqb (i / 64 % 64) a) _ t) in
      let w = eqb-true (i % 64) b (and_right (eqb (i / 64 % 64) a) _ t) in
      z (omega arith))))
      (λ i z. none i (omega arith))
    where
      none : (i : ℕ) → code k a b ≤ i → bit_at says R i ≡ []
      none i l = bit_none i (h (i / 4096) (i / 64 % 64) (i % 64) (omega arith))

      there : (i : ℕ) → i / 4096 ≡ k → i / 64 % 64 ≡ a → i % 64 ≡ b → bit_at says (with_bit R k a b) i ≡ says k a b ∷ []
      there i u v w = rw (u, v, w, eq-eqb k k refl, eq-eqb a a refl, eq-eqb b b refl) refl

      other : (i : ℕ) → eqb (i / 4096) k && (eqb (i / 64 % 64) a && eqb (i % 64) b) ≡ false → bit_at says (with_bit R k a b) i ≡ bit_at says R i
      other i e = rw e refl

-- The event edge.
pub event_line : (j u v : ℕ) → event_edge_line (event_said j u v) ≡ EventEdge j u v ∷ []
event_line j u v =
    ⊎_elim
    (λ e. rw e refl)
    (λ e. let l = ltb-false j 16 e in let d : 16 + (j - 16) ≡ j = omega arith in rw (e, d) refl)
    (true_or_false (ltb j 16))
