-- A label is a relation, or after the relations an event, granted or denied.
use Prim.Native.Nat.{ℕ, ◌+◌, ◌-◌, ◌*◌, ◌/◌, ◌≤◌, ◌<◌}
use native.Mathlib.Omega.{arith}
use mathlib.Core.Path.{◌≡◌, sym}
use mathlib.Core.Bool.{true}
use lib.Dec.{ltb}
use borrow.Author.Tests.{lt-ltb, ltb-true}
use Rattle.sets.proofs.Finite.{bool_iff}

pub label_relation : (r e v : ℕ) → v < r → true ≡ ltb v (r + 2 * e)
label_relation r e v h = sym (lt-ltb v (r + 2 * e) (omega arith))

pub label_event : (r e v : ℕ) → r ≤ v → ltb ((v - r) / 2) e ≡ ltb v (r + 2 * e)
label_event r e v h =
    bool_iff _ _
    (λ p. lt-ltb v (r + 2 * e) (omega (arith, ltb-true ((v - r) / 2) e p)))
    (λ p. lt-ltb ((v - r) / 2) e (omega (arith, ltb-true v (r + 2 * e) p)))
