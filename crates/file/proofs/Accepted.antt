-- What holds of the file that an accepted text says: its terms are good and tidy; its edges, the bits of its tables and
-- its event edge lie inside the terms; its tables without a free variable are level.
use Prim.Native.Nat.{ℕ, ◌≤◌, ◌<◌}
use mathlib.Core.Path.{◌≡◌, refl, subst}
use mathlib.Core.List.{List, []}
use mathlib.Core.Bool.{true, false}
use native.Mathlib.Omega.{arith}
use lib.ListN.{length}
use lib.Dec.{eqb}
use borrow.Author.Tests.{eqb-true, lt-ltb}
use Rattle.theory.specs.Terms.{Terms}
use Rattle.theory.specs.Moment.{Event}
use Rattle.theory.specs.Formula.{is_past}
use Rattle.theory.specs.Fit.{every, entry_tests, Good, GoodEntry}
use Rattle.theory.proofs.Good.{implies}
use Rattle.fields.specs.Split.{Lines, lines}
use Rattle.file.specs.File.{File, nothing}
use Rattle.file.specs.Reading.{complete, read_on, partly_at, reading}
use Rattle.file.specs.Reading.Reading.{accepted}
use Rattle.file.proofs.Derivation.{Accepting, accepting, reading_read, reading_level}
use Rattle.file.proofs.LevelWords.{Level, level_from, level_to}
use Rattle.file.proofs.Fit.{no_entry, PoliciesFit, Inside, InsideTables, EventFits}
use Rattle.file.proofs.Invariant.{FileFits, going_first, going_on, complete_phase, complete_policies}

-- Nothing is said beyond the last entry and the last event, and an event has at most 4 effects.
pub record Tidy (T : Terms) : Type 0 where
  pub entry : (n : ℕ) → T.entries ≤ n → T.entry n ≡ no_entry
  pub policy : (j : ℕ) → T.events ≤ j → T.policy j ≡ 0
  pub effects : (j : ℕ) → T.events ≤ j → T.effects j ≡ []
  pub few_effects : (j : ℕ) → length (T.effects j) ≤ 4
  pub kept : (j : ℕ) → T.events ≤ j → T.kept j ≡ false

-- What holds where all lines pass. A file of the old form says nothing of tables and of an event edge.
pub record Accepted (f : File) : Type 0 where
  pub good : Good f.terms
  pub tidy : Tidy f.terms
  pub edges : Inside f.terms.relations f.terms.members f.edges
  pub bits : InsideTables f.terms f.table
  pub last : EventFits f.terms.events f.terms.members f.last
  pub entry-tests : (n : ℕ) → n < f.terms.entries → every (entry_tests f.terms n) ≡ true
  pub old_bits : f.stored ≡ false → (t a b : ℕ) → f.table t a b ≡ false
  pub old_last : f.stored ≡ false → f.last ≡ Event.none

-- Good terms pass the tests of the lent memory.
entry_passes : {T : Terms} {n : ℕ} → GoodEntry T n → every (entry_tests T n) ≡ true
unfolding every
entry_passes {T} {n} g =
    rw (
      lt-ltb (T.entry n).op 12 g.known,
      g.first,
      g.second,
      g.third,
      implies (is_past (T.entry n).op) g.columns-fit,
      implies (eqb (T.entry n).op 10) (λ e. g.reaches (eqb-true (T.entry n).op 10 e)),
    ) refl

pub going_good : (f : File) → complete f ≡ true → FileFits f → Good f.terms × Tidy f.terms
going_good f c g =
    let p = complete_phase f c in
    let m = g.members (omega arith) in
    let l = g.labels p in
    let q = subst (λ (n : ℕ). PoliciesFit n f.terms.events f.terms.entries f.terms.entry f.terms.policy)
    (complete_policies f c) g.policies in (
      record {
        some_member = m.0;
        few_members = m.1;
        few_relations = l.0;
        some_event = l.1;
        few_events = l.2;
        few_entries = g.entries.few;
        few_tables = g.entries.few_tables;
        entry = λ n i. let t = g.entries.fit n i in record {
          known = t.known;
          first = t.first;
          second = t.second;
          third = t.third;
          columns-fit = t.columns-fit;
          reaches = t.reaches;
        };
        policy_exists = q.exists;
        policy_free = q.free;
        effects = λ j i. g.effects.within j;
      },
      record {
        entry = g.entries.blank;
        policy = q.blank;
        effects = g.effects.beyond;
        few_effects = g.effects.few;
        kept = λ j i. g.marks.later j (omega (arith, g.marks.few));
      },
    )

accepting_good : (ls : Lines) (f : File) → Accepting nothing ls f → Accepted f
accepting_good ls f a =
    let g = going_on a.taken going_first in
    let h = going_good f a.whole g in
    record {
      good = h.0;
      tidy = h.1;
      edges = g.edges;
      bits = g.bits;
      last = g.last;
      entry-tests = λ n l. entry_passes (h.0.entry n l);
      old_bits = λ s. g.no_bits (g.old s);
      old_last = λ s. let l = g.old s in g.no_last (omega arith);
    }

-- All lines pass: nothing is refused with 11 exactly where the tables without a free variable are level.
module _ (text : List ℕ) (f : File) (e : read_on nothing 1 (lines text) ≡ accepted f) where
  pub read_good : Accepted f
  read_good = accepting_good (lines text) f (accepting nothing 1 (lines text) f e)

  read_level : partly_at f 1 (lines text) ≡ 0 → Level f.terms f.table
  read_level z = level_from (lines text) (accepting nothing 1 (lines text) f e).taken z

  pub level_read : Level f.terms f.table → partly_at f 1 (lines text) ≡ 0
  level_read v = level_to (lines text) (accepting nothing 1 (lines text) f e).taken v

module _ (text : List ℕ) (f : File) (e : reading text ≡ accepted f) where
  pub accepted_good : Accepted f
  accepted_good = read_good text f (reading_read text f e)

  pub accepted_level : Level f.terms f.table
  accepted_level = read_level text f (reading_read text f e) (reading_level text f e)
