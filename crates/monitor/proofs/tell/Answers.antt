-- `tell`: the checks of memory and entry, of the pair, and then what the entry is.
use Rattle.std.proofs.Common.{◌≡◌, true, false, Bool, ℕ, List, Ok, refl}
use mathlib.Core.Path.{sym}
use borrow.Author.Tests.{ltb-true}
use lib.Dec.{ltb}
use Rattle.std.proofs.lemmas.Result.{err_from_is_err_and}
use Rattle.sets.proofs.Finite.{and_left, and_right}
use Rattle.memory.specs.Layout.{terms_of, state_of}
use Rattle.memory.specs.Outcome.{askable}
use Rattle.memory.proofs.Outcomes.{Checked, passed_entry}
use Rattle.calls.specs.Telling.{telling_of, paired, tells, holds_at}
use Rattle.calls.proofs.Telling as telling
use Rattle.monitor.proofs.tell.Goals as goal

pub returns-in_err-inspect_entry : goal.returns-in_err-inspect_entry
returns-in_err-inspect_entry c =
    let p = err_from_is_err_and c.from_residual.result c.from_residual.ensures.1 in
    rw (p.1, p.2) (telling.untold _ _ _ _ _ _ _ c.in_err-inspect_entry.ensures.result_value)

pub returns-then-not-are_members : goal.returns-then-not-are_members
returns-then-not-are_members c =
    let p = passed_entry _ _ _ c.in_ok-inspect_entry.ensures.result_value in
    telling.told_unpaired _ _ _ _ _ p.0 p.1 (sym c.if-not-are_members.ensures)

pub is_so-requires-clause-terms_words_in_bounds : goal.is_so-requires-clause-terms_words_in_bounds
is_so-requires-clause-terms_words_in_bounds c =
    let k = (passed_entry _ _ _ c.in_ok-inspect_entry.ensures.result_value).0 in
    (k.long_terms, k.good_terms, c.in_ok-inspect_entry.ensures.indexed refl)

pub is_so-requires-clause-state_words_in_bounds : goal.is_so-requires-clause-state_words_in_bounds
is_so-requires-clause-state_words_in_bounds c =
    let k = (passed_entry _ _ _ c.in_ok-inspect_entry.ensures.result_value).0 in (k.long_state, k.good-state)

pub is_so-requires-clause-bound : goal.is_so-requires-clause-bound
is_so-requires-clause-bound c =
    let x = c.args in
    let T = terms_of x.terms.now in
    let paired = sym c.if-not-are_members.ensures in (
      ltb-true x.entry T.entries (and_left (ltb x.entry T.entries) _ (passed_entry _ _ _ c.in_ok-inspect_entry.ensures.result_value).1),
      ltb-true x.u T.members (and_left (ltb x.u T.members) _ paired),
      ltb-true x.v T.members (and_right (ltb x.u T.members) _ paired),
    )

told : (b : Bool) (terms state : List ℕ) (n u v : ℕ) → Checked terms state → askable (terms_of terms) n ≡ true → paired (terms_of terms) u v ≡ true →
    b ≡ holds_at (terms_of terms) (state_of state) n u v → telling_of (Ok b) ≡ tells terms state n u v
told true terms state n u v k a p e = telling.told terms state n u v k a p refl e
told false terms state n u v k a p e = telling.told terms state n u v k a p refl e

pub returns : goal.returns
returns c =
    let p = passed_entry _ _ _ c.in_ok-inspect_entry.ensures.result_value in
    told _ _ _ _ _ _ p.0 p.1 (sym c.if-not-are_members.ensures) c.is_so.ensures
