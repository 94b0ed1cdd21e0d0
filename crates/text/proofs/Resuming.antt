-- A monitor that stops and goes on: what it wrote is read, can be written at all, and, in the old form too, has it
-- answer as if it had never stopped.
use Prim.Native.Nat.{ℕ, ◌≤◌}
use native.Mathlib.Omega.{arith}
use mathlib.Core.Path.{◌≡◌, refl, sym, ap, ap₂, subst, ◌∙◌}
use mathlib.Core.Bool.{Bool, true, false}
use mathlib.Core.List.{List}
use lib.Dec.{ltb}
use lib.ListN.{length, take, drop}
use lib.Seq.{take_at}
use borrow.Author.Tests.{le-ltb}
use Rattle.theory.specs.Keeper.{Book}
use Rattle.memory.specs.Layout.{terms_words, state_words}
use Rattle.memory.specs.Outcome.{Outcome, checks}
use Rattle.memory.specs.Outcome.Outcome.{passed, refused}
use Rattle.memory.proofs.Outcomes.{Checked, passed_checked, check_passed}
use Rattle.calls.specs.Agreement.{LentStep, Lent, serve_steps}
use Rattle.calls.proofs.Demand.{run}
use Rattle.file.specs.File.{File}
use Rattle.file.specs.Reading.{reading}
use Rattle.file.specs.Reading.Reading.{accepted}
use Rattle.writer.specs.Write.{written_text, is_fresh, if_fresh, write_gives, old_write_gives, old_write_leaves, stored_text, store_gives, fitted, filled_out}
use Rattle.writer.specs.Write.Writing.{bytes}
use Rattle.text.specs.Recorded.{loaded, after_steps, Recorded}
use Rattle.text.specs.Recorded.Recorded.{old, written}
use Rattle.text.proofs.AcceptedMemory.{reread_fresh}
use Rattle.text.proofs.Reloaded.{reloaded, reread_stored_memory}
use Rattle.text.proofs.LoadedBook.{text_stored, loaded_twins}
use Rattle.text.proofs.Demand.{playing, never_stopped}

-- ---- the old form

was_written : (o : Outcome) (b c : Bool) (k n : ℕ) → if_fresh b o (fitted c k o) ≡ bytes n → (passed ≡ o) × (b ≡ true) × (k ≡ n)
was_written passed true true k n e = let z : ◌≡◌ {A = ℕ} 0 1 = cc in absurd (omega arith)
was_written passed true false k n e = (refl, refl, cc)
was_written passed false c k n e = let z : ◌≡◌ {A = ℕ} 0 1 = cc in absurd (omega arith)
was_written (refused i j) b c k n e = let z : ◌≡◌ {A = ℕ} 0 1 = cc in absurd (omega arith)

module _ (L : Lent) (out : List ℕ) (n : ℕ) (g : old_write_gives L.terms L.state out ≡ bytes n) where
  was : (passed ≡ checks L.terms L.state) × (is_fresh L.terms L.state ≡ true) × (length (written_text L.terms L.state) ≡ n)
  unfolding old_write_gives write_gives
  was =
      was_written (checks L.terms L.state) (is_fresh L.terms L.state) (ltb (length out) (length (written_text L.terms L.state)))
      (length (written_text L.terms L.state)) n g

  text_written : take n (old_write_leaves L.terms L.state out) ≡ written_text L.terms L.state
  unfolding old_write_leaves
  text_written =
      ap (λ w. take n (filled_out (written_text L.terms L.state) out w)) g
      ∙ take_at (written_text L.terms L.state) (drop (length (written_text L.terms L.state)) out) n was.2

  abbrev stored : List ℕ
  stored = stored_text L.terms L.state

  stored_fits : store_gives L.terms L.state stored ≡ bytes (length stored)
  unfolding store_gives
  stored_fits = rw (← was.0, le-ltb (length stored) (length stored) (omega arith)) refl

  -- After loading a file of the old form that a monitor wrote, answers are those of that monitor had it never stopped:
  -- of any monitor, whether it has a record or not, and whatever memory is lent.
  pub never_stopped_old : (text : List ℕ) → text ≡ take n (old_write_leaves L.terms L.state out) →
      (terms' state' : List ℕ) → terms_words ≤ length terms' → state_words ≤ length state' → (ss : List LentStep) →
      (serve_steps (loaded text terms' state') ss).0 ≡ (serve_steps L ss).0
  never_stopped_old text same terms' state' tl sl ss =
      let c : Checked L.terms L.state = passed_checked L.terms L.state was.0 in
      let r = reread_fresh L.terms L.state c.long_terms c.long_state c.good_terms c.good-state was.1 terms' state' tl sl in
      let q = reread_stored_memory L.terms L.state c.long_terms c.long_state c.good_terms c.good-state terms' state' tl sl in
      subst (λ t. (serve_steps (loaded t terms' state') ss).0 ≡ (serve_steps L ss).0) (sym (same ∙ text_written))
      (ap₂ (λ m s. (serve_steps (record { terms = m; state = s; before = state' }) ss).0) (r.0 ∙ sym q.0) (r.1 ∙ sym q.1)
      ∙ never_stopped L stored (length stored) stored_fits stored (sym (text_stored L.terms L.state stored (length stored) stored_fits)) terms' state' tl sl ss)

-- ---- files with a record

-- A file with a record is accepted.
pub recorded_accepted : {text : List ℕ} {B : Book} → Recorded text B → (f : File) × (reading text ≡ accepted f)
recorded_accepted (old text f e form) = (f, e)
recorded_accepted (written text B from terms state tl sl ss out n g) =
    let L : Lent = after_steps text terms state ss in
    let c = (loaded_twins L.terms L.state out n g terms state tl sl).checked in
    let r = reloaded L.terms L.state c.long_terms c.long_state c.good_terms c.good-state in
    (r.0, ap reading (text_stored L.terms L.state out n g) ∙ r.1.accepts)

-- A monitor with a record can always be saved: after any list of steps terms and state pass the checks, so storing is
-- refused for want of room only.
pub recorded_checked : (text : List ℕ) (B : Book) → Recorded text B → (terms state : List ℕ) → terms_words ≤ length terms → state_words ≤ length state →
    (ss : List LentStep) → passed ≡ checks (after_steps text terms state ss).terms (after_steps text terms state ss).state
recorded_checked text B has terms state tl sl ss =
    let L : Lent = after_steps text terms state ss in
    let p = (run ss B (loaded text terms state) (playing has terms state tl sl)).1 in
    check_passed L.terms L.state (record {
      long_terms = p.long;
      long_state = omega (arith, p.room, p.held.long);
      good_terms = p.good-memory;
      good-state = p.held.good;
    })
