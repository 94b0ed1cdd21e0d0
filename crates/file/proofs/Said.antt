-- What an accepted text is read as is what its lines say, taken line by line and with no test.
use Prim.Native.Nat.{ℕ, suc, ◌+◌, ◌-◌, ◌≤◌}
use mathlib.Core.Path.{◌≡◌, refl, sym, ap, fun_ext, ◌∙◌}
use mathlib.Core.Logic.{⊎_elim}
use mathlib.Core.List.{List, [], ◌∷◌, ◌++◌, append-nil, append_assoc}
use mathlib.Core.Bool.{Bool, true, cond, ◌||◌, or-true, or-false}
use native.Mathlib.Omega.{arith}
use lib.Dec.{eqb, ltb}
use lib.ListN.{length, get_or}
use borrow.Author.Tests.{eqb-true, eqb-false, ltb-true, ltb-false, lt-ltb, le-ltb}
use Rattle.sets.proofs.Finite.{true_or_false}
use Rattle.theory.specs.Formula as formulas
use Rattle.theory.specs.Terms.{Terms}
use Rattle.theory.specs.Terms as terms
use Rattle.fields.specs.Split.{lines}
use Rattle.file.specs.File.{File, nothing, update, after_line}
use Rattle.file.specs.Reading.{tests, reading}
use Rattle.file.specs.Reading.Reading.{accepted}
use Rattle.file.specs.Said.{said_lines, members_said, relations_said, events_said, entries_said, policies_said, effects_said, kept_said, terms_said, SaidBy}
use Rattle.file.specs.declared.line.Line.{Line}
use Rattle.file.proofs.Printed.{Ranged}
use Rattle.file.proofs.Printed.Ranged.{members, labels, entry, policy, effect, edge, form, bit, pair, event, mark}
use Rattle.file.specs.Refused.{Passed}
use Rattle.file.proofs.Derivation.{passed_at, Taken, reading_accepting}
use Rattle.file.proofs.Derivation.Taken.{none, one}
use Rattle.file.proofs.Update.{update_other}
use Rattle.file.proofs.Fit.{no_entry}
use Rattle.file.proofs.SaidState.{beside-said}
use Rattle.file.proofs.Invariant.{FileFits, going_first, going_on, entry_phase, policy_phase, complete_phase}

-- ---- the first n from g, the others from a list

abbrev extend : {A : Type 0} → ℕ → (ℕ → A) → List A → A → ℕ → A
extend n g xs z k = cond (ltb k n) (g k) (get_or xs (k - n) z)

module _ {A : Type 0} (g : ℕ → A) (z : A) where
  extend_none : (xs : List A) (k : ℕ) → extend 0 g xs z k ≡ get_or xs k z
  extend_none xs k = let e : k - 0 ≡ k = omega arith in rw (le-ltb k 0 (omega arith), e) refl

  extend_all : (n k : ℕ) → ((i : ℕ) → n ≤ i → g i ≡ z) → extend n g [] z k ≡ g k
  extend_all n k h = ⊎_elim (λ t. rw t refl) (λ t. rw t (sym (h k (ltb-false k n t)))) (true_or_false (ltb k n))

  extend_more : (n : ℕ) (v : A) (xs : List A) (k : ℕ) → extend (n + 1) (update g n v) xs z k ≡ extend n g (v ∷ xs) z k
  extend_more n v xs k =
      ⊎_elim
      (λ t. let l = ltb-true k n t in
      rw (t, lt-ltb k (n + 1) (omega arith)) (update_other g n v k (λ e. omega arith)))
      (λ t. let l = ltb-false k n t in
      ⊎_elim
      (λ s. let e = eqb-true k n s in let d : k - n ≡ 0 = omega arith in
      rw (t, lt-ltb k (n + 1) (omega arith), d, s) refl)
      (λ s. let e : k ≡ n → ⊥ = eqb-false k n s in let d : k - n ≡ suc (k - (n + 1)) = omega arith in
      rw (t, le-ltb k (n + 1) (omega arith), d) refl)
      (true_or_false (eqb k n)))
      (true_or_false (ltb k n))

-- ---- what f has said, and lines after it

plus : File → List Line → Terms
plus f ls = record {
  members = cond (ltb f.phase 1) (members_said ls) f.terms.members;
  relations = cond (ltb f.phase 2) (relations_said ls) f.terms.relations;
  events = cond (ltb f.phase 2) (events_said ls) f.terms.events;
  entries = f.terms.entries + length (entries_said ls);
  entry = extend f.terms.entries f.terms.entry (entries_said ls) no_entry;
  policy = extend f.policies f.terms.policy (policies_said ls) 0;
  effects = λ j. f.terms.effects j ++ effects_said j ls;
  kept = λ j. f.terms.kept j || kept_said ls j;
}

plus_line : (f : File) {l : Line} → Ranged l → Passed (tests f l) → (ls : List Line) → plus (after_line f l) ls ≡ plus f (l ∷ ls)
unfolding plus tests after_line members_said relations_said events_said entries_said policies_said effects_said kept_said
plus_line f (members {n = n} h) p ls = rw (eqb-true f.phase 0 (passed_at p 0)) refl
plus_line f (labels {r = r} {e = e} h i) p ls = rw (eqb-true f.phase 1 (passed_at p 0)) refl
plus_line f (entry {n = n} {o = o} {a = a} {b = b} {c = c} h i j k m y) p ls =
    let z = (entry_phase f (passed_at p 0)).0 in
    let e = eqb-true n f.terms.entries (passed_at p 1) in
    let v : formulas.Entry = record { op = o; a = a; b = b; c = c } in
    let count : n + 1 + length (entries_said ls) ≡ f.terms.entries + suc (length (entries_said ls)) = omega arith in
    let all : extend (n + 1) (update f.terms.entry n v) (entries_said ls) no_entry ≡ extend f.terms.entries f.terms.entry (v ∷ entries_said ls) no_entry =
    fun_ext (extend_more f.terms.entry no_entry n v (entries_said ls)) ∙ ap (λ (m : ℕ). extend m f.terms.entry (v ∷ entries_said ls) no_entry) e in
    rw (le-ltb f.phase 1 (omega arith), le-ltb f.phase 2 z)
    (λ t. record {
      members = f.terms.members;
      relations = f.terms.relations;
      events = f.terms.events;
      entries = count t;
      entry = all t;
      policy = extend f.policies f.terms.policy (policies_said ls) 0;
      effects = λ j. f.terms.effects j ++ effects_said j ls;
      kept = λ j. f.terms.kept j || kept_said ls j;
    })
plus_line f (policy {j = j} {n = n} h i) p ls =
    let z = (policy_phase f (passed_at p 0)).0 in
    let e = eqb-true j f.policies (passed_at p 1) in
    let all : extend (j + 1) (update f.terms.policy j n) (policies_said ls) 0 ≡ extend f.policies f.terms.policy (n ∷ policies_said ls) 0 =
    fun_ext (extend_more f.terms.policy 0 j n (policies_said ls)) ∙ ap (λ (m : ℕ). extend m f.terms.policy (n ∷ policies_said ls) 0) e in
    rw (le-ltb f.phase 1 (omega arith), le-ltb f.phase 2 z)
    (λ t. record {
      members = f.terms.members;
      relations = f.terms.relations;
      events = f.terms.events;
      entries = f.terms.entries + length (entries_said ls);
      entry = extend f.terms.entries f.terms.entry (entries_said ls) no_entry;
      policy = all t;
      effects = λ j. f.terms.effects j ++ effects_said j ls;
      kept = λ j. f.terms.kept j || kept_said ls j;
    })
plus_line f (effect {j = j} {c = c} {k = k} {d = d} h i q m n) p ls =
    let z = complete_phase f (passed_at p 0) in
    let s = f.terms.effects in
    let x : terms.Effect = record { adds = eqb c 1; relation = k; back = eqb d 1 } in
    let all : ◌≡◌ {A = ℕ → List terms.Effect} (λ i. update s j (s j ++ (x ∷ [])) i ++ effects_said i ls)
    (λ i. s i ++ cond (eqb i j) (x ∷ effects_said i ls) (effects_said i ls)) =
    fun_ext (λ i. ⊎_elim
    (λ t. rw t (append_assoc (s j) (x ∷ []) (effects_said i ls) ∙ ap (λ (m : ℕ). s m ++ (x ∷ effects_said i ls)) (sym (eqb-true i j t))))
    (λ t. rw t refl)
    (true_or_false (eqb i j))) in
    rw (le-ltb f.phase 1 (omega arith), le-ltb f.phase 2 z)
    (λ t. record {
      members = f.terms.members;
      relations = f.terms.relations;
      events = f.terms.events;
      entries = f.terms.entries + length (entries_said ls);
      entry = extend f.terms.entries f.terms.entry (entries_said ls) no_entry;
      policy = extend f.policies f.terms.policy (policies_said ls) 0;
      effects = all t;
      kept = λ j. f.terms.kept j || kept_said ls j;
    })
plus_line f (edge h i j) p ls =
    let z = complete_phase f (passed_at p 0) in
    rw (le-ltb f.phase 1 (omega arith), le-ltb f.phase 2 z) refl
plus_line f (form h) p ls = refl
plus_line f (bit h i j) p ls =
    let z = complete_phase f (passed_at p 1) in
    rw (le-ltb f.phase 1 (omega arith), le-ltb f.phase 2 z) refl
plus_line f (pair h i j k) p ls =
    let z = complete_phase f (passed_at p 1) in
    rw (le-ltb f.phase 1 (omega arith), le-ltb f.phase 2 z) refl
plus_line f (event h i j) p ls =
    let z = complete_phase f (passed_at p 1) in
    rw (le-ltb f.phase 1 (omega arith), le-ltb f.phase 2 z) refl
plus_line f (mark {j = j} h) p ls =
    let z = complete_phase f (passed_at p 0) in
    let k = f.terms.kept in
    let all : ◌≡◌ {A = ℕ → Bool} (λ i. update k j true i || kept_said ls i) (λ i. k i || (eqb i j || kept_said ls i)) =
    fun_ext (λ i. ⊎_elim (λ t. rw t (sym (or-true (k i)))) (λ t. rw t refl) (true_or_false (eqb i j))) in
    rw (le-ltb f.phase 1 (omega arith), le-ltb f.phase 2 z)
    (λ t. record {
      members = f.terms.members;
      relations = f.terms.relations;
      events = f.terms.events;
      entries = f.terms.entries + length (entries_said ls);
      entry = extend f.terms.entries f.terms.entry (entries_said ls) no_entry;
      policy = extend f.policies f.terms.policy (policies_said ls) 0;
      effects = λ j. f.terms.effects j ++ effects_said j ls;
      kept = all t;
    })

plus_on : {f g : File} {ls : List Line} → Taken f ls g → plus g [] ≡ plus f ls
plus_on none = refl
plus_on {f = f} (one {ls = ls} r p t) = plus_on t ∙ plus_line f r p ls

-- ---- the two ends

plus_first : (ls : List Line) → plus nothing ls ≡ terms_said ls
unfolding plus nothing terms_said
plus_first ls =
    let count : 0 + length (entries_said ls) ≡ length (entries_said ls) = omega arith in
    let entry : extend 0 (λ n. no_entry) (entries_said ls) no_entry ≡ (λ n. get_or (entries_said ls) n no_entry) = fun_ext (extend_none (λ n. no_entry) no_entry (entries_said ls)) in
    let policy : extend 0 (λ j. 0) (policies_said ls) 0 ≡ (λ j. get_or (policies_said ls) j 0) = fun_ext (extend_none (λ j. 0) 0 (policies_said ls)) in
    λ t. record {
      members = members_said ls;
      relations = relations_said ls;
      events = events_said ls;
      entries = count t;
      entry = entry t;
      policy = policy t;
      effects = λ j. effects_said j ls;
      kept = kept_said ls;
    }

plus_last : (f : File) → 2 ≤ f.phase → FileFits f → plus f [] ≡ f.terms
unfolding plus entries_said policies_said effects_said kept_said
plus_last f z g =
    let count : f.terms.entries + 0 ≡ f.terms.entries = omega arith in
    rw (le-ltb f.phase 1 (omega arith), le-ltb f.phase 2 z)
    (λ t. record {
      members = f.terms.members;
      relations = f.terms.relations;
      events = f.terms.events;
      entries = count t;
      entry = λ n. extend_all f.terms.entry no_entry f.terms.entries n g.entries.blank t;
      policy = λ j. extend_all f.terms.policy 0 f.policies j g.policies.blank t;
      effects = λ j. append-nil (f.terms.effects j) t;
      kept = λ j. or-false (f.terms.kept j) t;
    })

-- An accepted text is read as what its lines say.
pub said : (text : List ℕ) (f : File) → reading text ≡ accepted f → SaidBy (said_lines (lines text)) f
said text f e =
    let a = reading_accepting text f e in
    let g = going_on a.taken going_first in
    let h = beside-said a.taken g in
    record {
      terms = sym (plus_first (said_lines (lines text))) ∙ sym (plus_on a.taken) ∙ plus_last f (complete_phase f a.whole) g;
      edges = λ k a b i. (h i).edges k a b;
      bits = λ t a b i. (h i).table t a b;
      last = λ i. (h i).last;
      form = λ i. (h i).stored;
    }
