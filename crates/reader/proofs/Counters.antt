-- The counters stand for what the lines have said: the tests against them come to the same.
use Prim.Native.Nat.{ℕ, suc, ◌+◌, ◌*◌, ◌^◌, ◌≤◌, ◌<◌}
use native.Mathlib.Omega.{arith}
use native.Mathlib.Numerals.{add-one}
use mathlib.Core.Path.{◌≡◌, refl, sym, ap, subst, ◌∙◌}
use mathlib.Core.Logic.{⊎_elim}
use mathlib.Core.List.{List, [], append-nil}
use mathlib.Core.Bool.{Bool, true, cond, not}
use lib.Dec.{eqb, ltb}
use lib.ListN.{length, get_or, drop, set, length-set}
use lib.Seq.{get_or-set_same, get_or-set_other}
use borrow.Author.Tests.{eqb-true, eqb-false, ltb-true, leb-true}
use Rattle.sets.specs.Sets.{bit}
use Rattle.sets.proofs.Finite.{true_or_false, last_or_below}
use Rattle.theory.specs.Formula.{Formula, Operand, node, number, below, spelled, free, columns, first_operand, second_operand, third_operand, is_past}
use Rattle.theory.specs.Formula as formulas
use Rattle.theory.specs.Formula.Operand.{variable, entry}
use Rattle.theory.specs.Terms.{formula}
use Rattle.theory.specs.Terms.{tables, past_entry, Alike}
use Rattle.theory.specs.Fit.{◌⇒◌, reach_fits}
use Rattle.theory.specs.Columns.{columns_fit}
use Rattle.memory.specs.TableIndex.{Masked, set_fits, reach_sets}
use Rattle.theory.proofs.Unfolding.{below_spelled, small_below, small_node}
use Rattle.theory.proofs.Good.{fits_variable}
use Rattle.memory.proofs.FreeSets.{fit_set, target_set, reach_set}
use Rattle.file.specs.File.{File, update, with_entry, pair_table}
use Rattle.file.specs.Reading.{in_range, is_lower, complete, tests}
use Rattle.reader.specs.private.Stepping.{slot}
use Rattle.reader.specs.private.Testing.{is_pair, context_tests, FreeIn, reach_in}
use Rattle.reader.specs.Memory.{memory_of}
use Rattle.memory.specs.Layout.{terms_of}
use Rattle.file.specs.declared.line.Line.{Line}
use Rattle.file.specs.declared.line.Line.TheVariants.{Members, Labels, Entry, Policy, Effect, Edge, Form, TableBit, PairBit, EventEdge, Mark, Malformed}
use Rattle.reader.specs.declared.step.Context.{Context}
use Rattle.theory.proofs.AlikeTerms.{number_agree, below_agree, spelled_agree}
use Rattle.file.proofs.Update.{update_same, update_other}
use Rattle.file.proofs.Fit.{operand-fits}
use Rattle.file.proofs.Invariant.{FileFits}
use Rattle.file.proofs.Accepted.{going_good}
use Rattle.reader.proofs.TermsMemory.{memory_alike}
use Rattle.reader.proofs.PairTables.{pair_same}
use Rattle.reader.proofs.FirstFailing.{Same, same_all, same_test}

-- The counters of what has been said.
abbrev pub context_of : File → Context
context_of f = record {
  stored = f.stored;
  phase = f.phase;
  members = f.terms.members;
  relations = f.terms.relations;
  events = f.terms.events;
  entries = f.terms.entries;
  tables = tables f.terms;
  policies = f.policies;
  marks = f.marks;
  event = f.event;
  effects = length (f.terms.effects f.event);
  relation = f.relation;
  from = f.from;
  to = f.to;
}

-- ---- free variables

module _ (f : File) (g : FileFits f) where
  first_small : (n : ℕ) → n < f.terms.entries → first_operand (f.terms.entry n).op ≡ variable → (f.terms.entry n).a < 16
  first_small n l =
      fits_variable (f.terms.relations + 2 * f.terms.events) n (f.terms.entry n).a (first_operand (f.terms.entry n).op) (g.entries.fit n l).first

  -- The variables that are free in an entry are below 16.
  small_entries : (n : ℕ) → n ≤ f.terms.entries → (k x : ℕ) → free (below f.terms.entry n k) x ≡ true → x < 16
  small_entries n l = small_below f.terms.entry n (λ k m. first_small k (omega arith))

  small_policy : (n : ℕ) → n < f.terms.entries → (x : ℕ) → free (formula f.terms n) x ≡ true → x < 16
  unfolding spelled
  small_policy n l x e =
      small_node (number f.terms.entry n) (below f.terms.entry n) (f.terms.entry n).op (f.terms.entry n).a (f.terms.entry n).b (f.terms.entry n).c
      (small_entries n (omega arith)) (first_small n l) x e

-- One entry more.
module _ (f : File) (o a b c : ℕ) where
  abbrev n : ℕ
  n = f.terms.entries

  abbrev e : ℕ → formulas.Entry
  e = f.terms.entry

  abbrev e' : ℕ → formulas.Entry
  e' = update e n (record { op = o; a = a; b = b; c = c })

  old : (k : ℕ) → k < n → e' k ≡ e k
  old k l = update_other e n (record { op = o; a = a; b = b; c = c }) k (λ z. omega arith)

  pub tables_new : number e' (n + 1) ≡ cond (is_past o) (suc (number e n)) (number e n)
  unfolding number
  tables_new = rw (add-one n, number_agree e' e n old, update_same e n (record { op = o; a = a; b = b; c = c }))

  spelled_new : spelled e' n ≡ node (number e' n) (below e' n) o a b c
  unfolding spelled
  spelled_new = let s = update_same e n (record { op = o; a = a; b = b; c = c }) in λ i. node (number e' n) (below e' n) (s i).op (s i).a (s i).b (s i).c

  -- The entries before it stay.
  formula_old : (k : ℕ) → k < n → spelled e' k ≡ spelled e k
  formula_old k l = spelled_agree e' e k (λ j m. old j (omega arith))

  module _ (g : FileFits f) (masks : List ℕ) (masked : Masked f.terms masks) (m : ℕ) (is : FreeIn [] masks (Entry n o a b c) m)
      (ra : in_range (first_operand o) (f.terms.relations + 2 * f.terms.events) a ≡ true)
      (la : is_lower (first_operand o) n a ≡ true) (lb : is_lower (second_operand o) n b ≡ true)
      (lc : is_lower (third_operand o) n c ≡ true)
    where
      variable_small : first_operand o ≡ variable → a < 16
      variable_small = fits_variable (f.terms.relations + 2 * f.terms.events) n a (first_operand o) (operand-fits (first_operand o) _ n a ra la)

      below_entry : (k : Operand) (v : ℕ) → is_lower k n v ≡ true → k ≡ entry → v < n
      unfolding is_lower
      below_entry k v h z = ltb-true v n (rw z at h)

      -- m is the set of its free variables, which are below 16.
      free_new : (x : ℕ) → bit m x ≡ free (spelled e' n) x
      free_new x =
          is (number e' n) b c x (below e' n)
          (λ z. omega (arith, variable_small z))
          (λ z. lower a (below_entry (first_operand o) a la z))
          (λ z. lower b (below_entry (second_operand o) b lb z))
          (λ z. lower c (below_entry (third_operand o) c lc z))
          ∙ ap (λ φ. free φ x) (sym spelled_new)
        where
          lower : (k : ℕ) → k < n → bit (get_or masks k 0) x ≡ free (below e' n k) x
          lower k l = masked.bits k x l ∙ ap (λ φ. free φ x) (sym (below_spelled e' n k l ∙ formula_old k l))

      small_new : (x : ℕ) → free (spelled e' n) x ≡ true → x < 16
      small_new x p =
          small_node (number e' n) (below e' n) o a b c
          (subst (λ (h : ℕ → Formula). (k x : ℕ) → free (h k) x ≡ true → x < 16) (sym (below_agree e' e n old)) (small_entries f g n (omega arith)))
          variable_small x (sym (ap (λ φ. free φ x) spelled_new) ∙ p)

      fit_new : m < 2 ^ 64 → set_fits f.terms.members m ≡ columns_fit f.terms.members (columns (spelled e' n))
      fit_new fits = fit_set m fits (spelled e' n) free_new small_new f.terms.members

      -- The test of a reach by sets is that by formulas.
      reach_new : (eqb o 10 ⇒ reach_sets a (get_or masks b 0) (get_or masks c 0)) ≡ (eqb o 10 ⇒ reach_fits a (formula f.terms b) (formula f.terms c))
      reach_new =
          ⊎_elim
          (λ z. let e : o ≡ 10 = eqb-true o 10 z in
          let bl : b < n = below_entry (second_operand o) b lb (ap second_operand e) in
          let cl : c < n = below_entry (third_operand o) c lc (ap third_operand e) in
          ap (◌⇒◌ (eqb o 10)) (reach_set a (get_or masks b 0) (get_or masks c 0) (formula f.terms b) (formula f.terms c)
          (λ y. masked.bits b y bl) (masked.bits c a cl) (small_policy f g b bl)))
          (λ z. rw z refl)
          (true_or_false (eqb o 10))

      pub masked_new : n < 256 → Masked (with_entry f.terms n o a b c) (set masks n m)
      masked_new l = record {
        long = length-set masks n m ∙ masked.long;
        bits = λ k x h. ⊎_elim
            (λ q. ap (λ (w : ℕ). bit w x) (get_or-set_other masks n k m 0 (λ z. omega arith)) ∙ masked.bits k x q
            ∙ ap (λ φ. free φ x) (sym (formula_old k q)))
            (λ q. subst (λ (j : ℕ). bit (get_or (set masks n m) j 0) x ≡ free (spelled e' j) x) (sym q)
            (ap (λ (w : ℕ). bit w x) (get_or-set_same masks n m 0 (omega (arith, masked.long))) ∙ free_new x))
            (last_or_below k n (omega arith));
      }

-- ---- effects

module _ (f : File) (g : FileFits f) (j : ℕ) (l : f.event ≤ j) where
  pub slot_is : slot (context_of f) j ≡ length (f.terms.effects j)
  slot_is =
      ⊎_elim
      (λ e. ap (λ (b : Bool). cond b (length (f.terms.effects f.event)) 0) e
      ∙ ap (λ (k : ℕ). length (f.terms.effects k)) (sym (eqb-true j f.event e)))
      (λ e. let z : j ≡ f.event → ⊥ = eqb-false j f.event e in
      ap (λ (b : Bool). cond b (length (f.terms.effects f.event)) 0) e ∙ sym (ap length (g.effects.later j (omega arith))))
      (true_or_false (eqb j f.event))

-- ---- the tests come to the same

module _ (f : File) (g : FileFits f) (terms : List ℕ) (words : terms ≡ memory_of f.terms) (masks : List ℕ) (masked : Masked f.terms masks) (m : ℕ)
    (fits : m < 2 ^ 64) where
  -- A table that is there has two columns by the set of its entry, where all policies have been given.
  pair_test : complete f ≡ true → (t : ℕ) → m ≡ get_or masks (past_entry (terms_of terms) t) 0 → is_pair (context_of f) m t ≡ pair_table f.terms t
  pair_test c t is =
      let a = going_good f c g in
      pair_same f.terms a.0 (terms_of terms)
      (subst (λ (w : List ℕ). Alike f.terms (terms_of w)) (append-nil (memory_of f.terms) ∙ sym words) (memory_alike f.terms a.0 a.1 []))
      masks masked t m fits is

  entry-tests : (r : Bool) (o a b c : ℕ) → FreeIn [] masks (Entry f.terms.entries o a b c) m → r ≡ reach_in masks (Entry f.terms.entries o a b c) →
      Same (drop 2 (context_tests (context_of f) m r (Entry f.terms.entries o a b c))) (drop 2 (tests f (Entry f.terms.entries o a b c)))
  unfolding context_tests tests
  entry-tests r o a b c is reach =
      same_test refl (λ _. same_test refl (λ ra. same_test refl (λ _. same_test refl (λ _. same_test refl (λ _.
      same_test refl (λ la. same_test refl (λ lb. same_test refl (λ lc.
      same_test (ap (◌⇒◌ (is_past o)) (fit_new f o a b c g masks masked m is ra la lb lc fits)) (λ _.
      same_test (reach ∙ reach_new f o a b c g masks masked m is ra la lb lc) (λ _. same_all []))))))))))

  pub tests_same : (r : Bool) (l : Line) → FreeIn terms masks l m → r ≡ reach_in masks l → Same (context_tests (context_of f) m r l) (tests f l)
  unfolding context_tests tests
  tests_same q (Members n) is reach = same_all _
  tests_same q (Labels r e) is reach = same_all _
  tests_same q (Entry n o a b c) is reach =
      same_test refl (λ _. same_test refl (λ p.
      subst (λ (n : ℕ). Same (drop 2 (context_tests (context_of f) m q (Entry n o a b c))) (drop 2 (tests f (Entry n o a b c))))
      (sym (eqb-true n f.terms.entries p)) (entry-tests q o a b c is reach)))
  tests_same q (Policy j n) is reach =
      same_test refl (λ _. same_test refl (λ _. same_test refl (λ _. same_test refl (λ p.
      let l : n < f.terms.entries = ltb-true n f.terms.entries p in
      same_test (target_set m fits (formula f.terms n) (λ x. ap (λ (w : ℕ). bit w x) is ∙ masked.bits n x l) (small_policy f g n l))
      (λ _. same_all [])))))
  tests_same q (Effect j a k d) is reach =
      same_test refl (λ _. same_test refl (λ _. same_test refl (λ p. same_test refl (λ _.
      same_test (ap (λ (s : ℕ). ltb s 4) (slot_is f g j (leb-true f.event j p))) (λ _. same_all _)))))
  tests_same q (Edge k a b) is reach = same_all _
  tests_same q (Form n) is reach = same_all _
  tests_same q (TableBit t a b) is reach =
      same_test refl (λ _. same_test refl (λ c. same_test refl (λ _. same_test refl (λ _.
      same_test (ap not (pair_test c t is)) (λ _. same_all _)))))
  tests_same q (PairBit t a b d) is reach =
      same_test refl (λ _. same_test refl (λ c. same_test refl (λ _. same_test refl (λ _.
      same_test (pair_test c t is) (λ _. same_all _)))))
  tests_same q (EventEdge j u v) is reach = same_all _
  tests_same q (Mark j) is reach = same_all _
  tests_same q Malformed is reach = same_all _
