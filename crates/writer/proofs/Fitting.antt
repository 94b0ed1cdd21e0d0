-- The ways that writing a text ends: a refusal leaves the output as it was, a whole text fills it from its first byte.
-- And those of asking for the size.
use Prim.Native.Nat.{ℕ, zero, suc, ◌-◌, ◌/◌, ◌≤◌, ◌<◌}
use mathlib.Core.Path.{◌≡◌, refl, ap, ◌∙◌}
use mathlib.Core.Logic.{⊎_elim}
use mathlib.Core.Bool.{true, false, cond}
use mathlib.Core.List.{List, ◌++◌}
use native.Mathlib.Omega.{arith}
use native.Mathlib.Nat.{zero-add}
use lib.Dec.{ltb}
use lib.ListN.{length, get_or, drop}
use lib.Seq.{sets-eq}
use borrow.Author.Tests.{lt-ltb, le-ltb, ltb-true}
use Rattle.sets.proofs.Finite.{true_or_false, and_left}
use Rattle.theory.specs.Terms.{Terms}
use Rattle.theory.proofs.Good.{every_at}
use Rattle.memory.specs.Layout.{event_at, terms_of}
use Rattle.memory.specs.Checks.{good_event, state_tests, good_state}
use Rattle.memory.specs.Outcome.{Outcome, checks}
use Rattle.memory.specs.Outcome.Outcome.{passed, refused}
use Rattle.memory.proofs.Accepted.{good}
use Rattle.memory.proofs.Outcomes.{passed_checked}
use Rattle.fields.specs.private.Put.{Put}
use Rattle.writer.specs.Write.{Writing, fitted, filled_out}
use Rattle.writer.specs.Write.Writing.{bytes, refused as refusedWriting}

-- What the check of terms and state gave, and the text.
module _ (o : Outcome) (text : List ℕ) where
  pub size_unchecked : (n l : ℕ) → refused n l ≡ o → refusedWriting n l ≡ fitted false (length text) o
  size_unchecked n l e = rw (← e) refl

  pub size_whole : passed ≡ o → (m : ℕ) → m ≡ length text → bytes m ≡ fitted false (length text) o
  size_whole e m n = rw (← e, n) refl

  module _ (out : List ℕ) where
    abbrev pub gives : Writing
    gives = fitted (ltb (length out) (length text)) (length text) o

    abbrev Ends : Writing → List ℕ → Type 0
    Ends r p = (r ≡ gives) × (p ≡ filled_out text out gives)

    pub ends_unchecked : (n l : ℕ) → refused n l ≡ o → Ends (refusedWriting n l) out
    ends_unchecked n l e = rw (← e) (refl, refl)

    module _ (e : passed ≡ o) (m : ℕ) (n : m ≡ length text) where
      pub ends_short : length out < m → Ends (refusedWriting 6 0) out
      ends_short h = rw (← e, lt-ltb (length out) (length text) (omega arith)) (refl, refl)

      pub ends_whole : m ≤ length out → (p : List ℕ) (q : ℕ) → Put out p 0 q text → Ends (bytes m) p
      ends_whole h p q x =
          let s : p ≡ text ++ drop (length text) out =
          x.left ∙ sets-eq text out 0 (omega arith) ∙ ap (λ (t : ℕ). text ++ drop t out) (zero-add (length text)) in
          rw (← e, le-ltb (length out) (length text) (omega arith), n) (refl, s)

-- ---- the event word of checked terms and state

-- An event that is named, granted or denied.
event-named : (j e : ℕ) → e < 17 → cond (ltb j 16) j (j - 16) < e → j < 32
event-named j e h l =
    ⊎_elim (λ p. let m = ltb-true j 16 p in omega arith) (λ p. let m : j - 16 < e = rw p at l in omega arith) (true_or_false (ltb j 16))

event_few : (T : Terms) (w : ℕ) → T.events < 17 → good_event T w ≡ true → w ≤ 131072
event_few T zero h e = omega arith
event_few T (suc n) h e =
    let j : ℕ = n / 4096 in
    let l = event-named j T.events h (ltb-true (cond (ltb j 16) j (j - 16)) T.events (and_left (ltb (cond (ltb j 16) j (j - 16)) T.events) _ e)) in
    omega arith

pub event_small : (terms state : List ℕ) → passed ≡ checks terms state → get_or state event_at 0 ≤ 131072
unfolding good_state
event_small terms state e =
    let k = passed_checked terms state e in
    let T = terms_of terms in
    event_few T (get_or state event_at 0) (good terms k.good_terms).few_events (every_at (state_tests T state) k.good-state 3)
