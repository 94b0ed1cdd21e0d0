-- The loop over the lines: what is left, read on from here, gives what the whole text gives; and one law
-- for each way that a turn goes.
use Prim.Native.Nat.{ℕ, zero, suc, ◌+◌, ◌-◌, ◌%◌, ◌^◌, ◌≤◌, ◌<◌}
use native.Mathlib.Omega.{arith}
use mathlib.Core.Path.{◌≡◌, refl, sym, ap, ap₂, subst, ◌∙◌}
use mathlib.Core.Logic.{⊎_elim}
use mathlib.Core.List.{List, [], ◌∷◌}
use mathlib.Core.Bool.{Bool, true, false, cond, false≢true}
use lib.Dec.{ltb}
use lib.ListN.{length, get_or, replicate}
use Rattle.theory.specs.Formula.{number}
use Rattle.memory.specs.Layout.{terms_words, entries_at, policies_at, effects_at, marks_at, entry_words, state_words}
use Rattle.reader.specs.Read.Filling.{old, stored, refused as refusedFilling}
use Rattle.memory.specs.TableIndex.{Masked}
use Rattle.fields.specs.Split.{lines, split}
use Rattle.fields.specs.Split.Lines.{done, cut, line}
use Rattle.fields.specs.private.Lines.{LineTaken}
use Rattle.file.specs.Line.{parsed}
use Rattle.file.specs.File.{File, nothing, after_line}
use Rattle.file.specs.Reading.{tests, Reading, tried, read_on}
use Rattle.file.specs.Reading.Reading.{accepted, refused}
use Rattle.reader.specs.Memory.{effect_word, terms_word, memory_of}
use Rattle.reader.specs.private.Stepping.{begun, is_complete, Ranges, stepped}
use Rattle.reader.specs.private.Testing.{number_from, context_tests, LastSet, FreeIn, reach_in}
use Rattle.reader.specs.private.Storing.{stored_terms, stored_state, stored_sets, all_read, Holds, Reads}
use Rattle.file.specs.declared.line.Line.{Line}
use Rattle.file.specs.declared.line.Line.TheVariants.{Members, Labels, Entry, Policy, Effect, Edge, Form, TableBit, PairBit, EventEdge, Mark, Malformed}
use Rattle.reader.specs.declared.step.Context.{Context}
use Rattle.file.proofs.Printed.{Ranged, formed}
use Rattle.file.specs.Refused.{Passed}
use Rattle.file.proofs.Derivation.{passed_at, tried_passed}
use Rattle.file.proofs.Invariant.{FileFits, going_first, going, complete_phase}
use Rattle.reader.proofs.FirstFailing.{Same, positive, all_pass, tried_fails}
use Rattle.reader.proofs.TermsMemory.{entry_blank}
use Rattle.reader.proofs.WordLists.{tabulate_cong, tabulate_none}
use Rattle.reader.proofs.StateBits.{bits_of, bits_none, bits_words}
use Rattle.reader.proofs.Counters.{context_of, tests_same}
use Rattle.reader.proofs.Passing.{in_ranges, context_after, masked_after, last_after, terms_after, state-after}

-- ---- the words before the first line are 0

none_either : (b : Bool) (x y : ℕ) → x ≡ 0 → y ≡ 0 → cond b x y ≡ 0
none_either true x y p q = p
none_either false x y p q = q

none_word : (i : ℕ) → terms_word nothing.terms i ≡ 0
unfolding terms_word nothing effect_word
none_word i =
    none_either (ltb i entries_at) _ _ (counts i)
    (none_either (ltb i policies_at) _ _ (entry_blank ((i - entries_at) % entry_words))
    (none_either (ltb i effects_at) 0 _ refl (none_either (ltb i marks_at) 0 0 refl refl)))
  where
    counts : (i : ℕ) → ◌≡◌ {A = ℕ} (get_or (0 ∷ 0 ∷ 0 ∷ 0 ∷ []) i 0) 0
    counts zero = refl
    counts (suc zero) = refl
    counts (suc (suc zero)) = refl
    counts (suc (suc (suc zero))) = refl
    counts (suc (suc (suc (suc i)))) = refl

none_terms : replicate terms_words 0 ≡ memory_of nothing.terms
unfolding memory_of
none_terms = sym (tabulate_cong terms_words (terms_word nothing.terms) (λ i. 0) (λ i l. none_word i) ∙ tabulate_none terms_words)

-- ---- the invariant

-- The text t is left from line n on. The counters c, the sets of free variables and the words stand for one
-- file that has been said so far.
pub record Along (text terms state masks t : List ℕ) (c : Context) (n : ℕ) : Type 0 where
  pub file : File
  pub going : FileFits file
  pub context : c ≡ context_of file
  pub masked : Masked file.terms masks
  pub words : terms ≡ memory_of file.terms
  pub bits : state ≡ bits_of file
  pub counted : n + length t ≤ suc (length text)
  pub same : read_on file n (lines t) ≡ all_read text

pub along_first : (text terms state masks : List ℕ) → terms ≡ replicate terms_words 0 → state ≡ replicate state_words 0 → length masks ≡ 256 →
    Along text terms state masks text begun 1
unfolding nothing number
along_first text terms state masks p q r = record {
  file = nothing;
  going = going_first;
  context = refl;
  masked = record { long = r; bits = λ i x l. absurd (omega arith) };
  words = p ∙ none_terms;
  bits = q ∙ sym bits_none;
  counted = omega arith;
  same = refl;
}

-- ---- the ways out of the loop

-- A text that is refused.
refuses : (text terms state masks : List ℕ) (k n : ℕ) → all_read text ≡ refused k n → Reads text (refusedFilling k n) terms state masks
refuses text terms state masks k n e = record {
  given = rw e;
  filled = λ f h. let z : ◌≡◌ {A = ℕ} 0 1 = cc in absurd (omega arith);
}

module _ (text terms state masks t : List ℕ) (c : Context) (n : ℕ) (s : Along text terms state masks t c n) where
  -- Nothing is left.
  read_end : lines t ≡ done → all_read text ≡ cond (is_complete c) (accepted s.file) (refused 1 n)
  unfolding read_on
  read_end h =
      sym s.same ∙ ap (read_on s.file n) h
      ∙ ap (λ (d : Context). cond (is_complete d) (accepted s.file) (refused 1 n)) (sym s.context)

  holding : is_complete c ≡ true → Holds s.file terms state masks
  holding b =
      let g = s.going in
      let p : 2 ≤ s.file.phase = complete_phase s.file (subst (λ (d : Context). is_complete d ≡ true) s.context b) in
      record {
        terms_are = s.words;
        state-is = s.bits ∙ bits_words s.file (g.members (omega arith)).1 g.edges g.bits;
        masked = s.masked;
      }

  -- All lines pass; x says whether one was an S line.
  pub along_done : lines t ≡ done → is_complete c ≡ true → (x : Bool) → c.stored ≡ x → Reads text (cond x stored old) terms state masks
  along_done h b x q =
      let r : all_read text ≡ accepted s.file = read_end h ∙ rw b in
      record {
        given = rw r (ap (λ (y : Bool). cond y stored old) (sym q ∙ ap (λ (d : Context). d.stored) s.context));
        filled = λ f e. let z : s.file ≡ f = cc in subst (λ (y : File). Holds y terms state masks) z (holding b);
      }

  pub along_short : lines t ≡ done → is_complete c ≡ false → Reads text (refusedFilling 1 n) terms state masks
  along_short h b = refuses text terms state masks 1 n (read_end h ∙ rw b)

  -- No line feed is left.
  pub along_cut : lines t ≡ cut t → Reads text (refusedFilling 1 n) terms state masks
  unfolding read_on
  along_cut h = refuses text terms state masks 1 n (sym s.same ∙ ap (read_on s.file n) h)

-- ---- one turn

tests_positive : (c : Context) (m : ℕ) (r : Bool) (l : Line) → positive (context_tests c m r l) ≡ true
unfolding positive context_tests
tests_positive c m q (Members n) = refl
tests_positive c m q (Labels r e) = refl
tests_positive c m q (Entry n o a b d) = refl
tests_positive c m q (Policy j n) = refl
tests_positive c m q (Effect j a k d) = refl
tests_positive c m q (Edge k a b) = refl
tests_positive c m q (Form n) = refl
tests_positive c m q (TableBit t a b) = refl
tests_positive c m q (PairBit t a b d) = refl
tests_positive c m q (EventEdge j u v) = refl
tests_positive c m q (Mark j) = refl
tests_positive c m q Malformed = refl

line_read : (f : File) (n : ℕ) (t b rest : List ℕ) (l : Line) → lines t ≡ line b (lines rest) → l ≡ parsed (split 9 b) →
    read_on f n (lines t) ≡ tried (tests f l) n (read_on (after_line f l) (n + 1) (lines rest))
unfolding read_on
line_read f n t b rest l h q = rw (q, h) refl

-- The line l of bytes b is taken from t, and rest is left. m is the set of free variables that it is tested by, r says
-- whether it may be a reach, and k is the number of its first test that fails.
pub record Turn (text terms state masks t b rest : List ℕ) (c : Context) (n : ℕ) (l : Line) (m : ℕ) (r : Bool) (k : ℕ) : Type 0 where
  pub along : Along text terms state masks t c n
  pub taken : LineTaken t b rest
  pub line : l ≡ parsed (split 9 b)
  pub set : FreeIn terms masks l m
  pub fits : m < 2 ^ 64
  pub reaches : r ≡ reach_in masks l
  pub number : k ≡ number_from 0 (context_tests c m r l)

module _ {text terms state masks t b rest : List ℕ} {c : Context} {n : ℕ} {l : Line} {m : ℕ} {r : Bool} {k : ℕ}
    (s : Turn text terms state masks t b rest c n l m r k)
  where
    abbrev f : File
    f = s.along.file

    number_is : k ≡ number_from 0 (context_tests (context_of f) m r l)
    number_is = s.number ∙ ap (λ (d : Context). number_from 0 (context_tests d m r l)) s.along.context

    abbrev later : Reading
    later = read_on (after_line f l) (n + 1) (lines rest)

    read_line : all_read text ≡ tried (tests f l) n later
    read_line = sym s.along.same ∙ line_read f n t b rest l s.taken.first s.line

    tests_are : Same (context_tests (context_of f) m r l) (tests f l)
    tests_are = tests_same f s.along.going terms s.along.words masks s.along.masked m s.fits r l s.set s.reaches

    pub few_tables : c.tables < 33
    few_tables = subst (λ (d : Context). d.tables < 33) (sym s.along.context) s.along.going.entries.few_tables

    -- The line is refused.
    pub turn_refused : 0 < k → Reads text (refusedFilling k n) terms state masks
    turn_refused h =
        refuses text terms state masks k n
        (read_line ∙ sym (tests_are.come n later)
        ∙ tried_fails (context_tests (context_of f) m r l) n later (tests_positive (context_of f) m r l) (subst (λ (j : ℕ). 0 < j) number_is h)
        ∙ ap (λ (j : ℕ). refused j n) (sym number_is))

    module _ (none : k ≤ 0) where
      passes : Passed (tests f l)
      passes =
          tests_are.passes
          (all_pass (context_tests (context_of f) m r l) (tests_positive (context_of f) m r l) (sym number_is ∙ (omega arith)))

      ranged : Ranged l
      unfolding tests
      ranged =
          ⊎_elim
          (λ z. absurd (false≢true (passed_at (subst (λ (x : Line). Passed (tests f x)) (s.line ∙ z) passes) 0)))
          (λ z. subst Ranged (sym s.line) z.ranged)
          (formed (split 9 b))

      pub turn_ranges : Ranges c l
      turn_ranges = subst (λ (d : Context). Ranges d l) (sym s.along.context) (in_ranges ranged s.along.going passes)

      -- The line is taken.
      pub turn_next : Along text (stored_terms c l terms) (stored_state l state) (stored_sets l m masks) rest (stepped c l) (n + 1)
      turn_next = record {
        file = after_line f l;
        going = going ranged passes s.along.going;
        context = ap (λ (d : Context). stepped d l) s.along.context ∙ context_after ranged s.along.going passes;
        masked = masked_after ranged s.along.going passes terms masks s.along.masked m s.set;
        words = ap₂ (λ (d : Context) (w : List ℕ). stored_terms d l w) s.along.context s.along.words
            ∙ terms_after ranged s.along.going passes;
        bits = ap (stored_state l) s.along.bits ∙ state-after ranged s.along.going passes;
        counted = omega (arith, s.taken.shorter, s.along.counted);
        same = sym (read_line ∙ tried_passed passes n later);
      }

      -- And its set is at hand for the next one.
      pub turn_last : LastSet (stored_terms c l terms) (stored_sets l m masks) (stepped c l).phase (stepped c l).relation m
      turn_last =
          subst (λ (d : Context). LastSet (stored_terms d l terms) (stored_sets l m masks) (stepped d l).phase (stepped d l).relation m)
          (sym s.along.context) (last_after f ranged passes terms masks m s.set)
