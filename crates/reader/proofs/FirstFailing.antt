-- Laws of tests taken one after the other: the first that fails gives the number, and 0 says that all pass.
use Prim.Native.Nat.{ℕ, ◌<◌}
use native.Mathlib.Omega.{arith}
use mathlib.Core.Path.{◌≡◌, refl, sym, ◌∙◌}
use mathlib.Core.Logic.{⊎_elim}
use mathlib.Core.List.{List, [], ◌∷◌}
use mathlib.Core.Bool.{Bool, true, false, cond, ◌&&◌}
use lib.Dec.{ltb}
use borrow.Author.Tests.{ne_eqb, ltb-true}
use Rattle.sets.proofs.Finite.{true_or_false, and_left, and_right}
use Rattle.file.specs.Reading.{Test, test, Reading, tried}
use Rattle.file.specs.Reading.Reading.{refused}
use Rattle.reader.specs.private.Testing.{refused_by, number_from}
use Rattle.file.specs.Refused.{Passed}
use Rattle.file.specs.Refused.Passed.{none, pass}

-- No test has the number 0.
unfoldable pub positive : List Test → Bool
positive [] = true
positive (t ∷ ts) = ltb 0 t.number && positive ts

-- A number stays.
stays : (k : ℕ) (ts : List Test) → 0 < k → number_from k ts ≡ k
unfolding number_from refused_by
stays k [] h = refl
stays k (t ∷ ts) h = rw (ne_eqb k 0 (λ e. omega arith)) (stays k ts h)

passing : (t : Test) (ts : List Test) → t.passes ≡ true → number_from 0 (t ∷ ts) ≡ number_from 0 ts
unfolding number_from refused_by
passing t ts e = rw e

failing : (t : Test) (ts : List Test) → 0 < t.number → t.passes ≡ false → number_from 0 (t ∷ ts) ≡ t.number
unfolding number_from refused_by
failing t ts h e = rw e (stays t.number ts h)

pub all_pass : (ts : List Test) → positive ts ≡ true → number_from 0 ts ≡ 0 → Passed ts
unfolding positive
all_pass [] p e = none
all_pass (t ∷ ts) p e =
    let l : 0 < t.number = ltb-true 0 t.number (and_left (ltb 0 t.number) _ p) in
    let rest = all_pass ts (and_right (ltb 0 t.number) _ p) in
    ⊎_elim
    (λ b. pass b (rest (sym (passing t ts b) ∙ e)))
    (λ b. let z : t.number ≡ 0 = sym (failing t ts l b) ∙ e in absurd (omega arith))
    (true_or_false t.passes)

pub tried_fails : (ts : List Test) (n : ℕ) (r : Reading) → positive ts ≡ true → 0 < number_from 0 ts → tried ts n r ≡ refused (number_from 0 ts) n
unfolding positive tried
tried_fails [] n r p h = absurd (let z : 0 < 0 = unfold number_from in h in omega arith)
tried_fails (t ∷ ts) n r p h =
    let l : 0 < t.number = ltb-true 0 t.number (and_left (ltb 0 t.number) _ p) in
    let rest = tried_fails ts n r (and_right (ltb 0 t.number) _ p) in
    ⊎_elim
    (λ b. rw (passing t ts b, b) (rest (rw (passing t ts b) at h)))
    (λ b. rw (failing t ts l b, b) refl)
    (true_or_false t.passes)

-- Two lists of tests come to the same.
pub record Same (ts us : List Test) : Type 0 where
  pub come : (n : ℕ) (r : Reading) → tried ts n r ≡ tried us n r
  pub passes : Passed ts → Passed us

pub same_all : (ts : List Test) → Same ts ts
same_all ts = record { come = λ n r. refl; passes = λ p. p }

-- A test is that of the other list, and the later ones are so where it passes.
pub same_test : {k : ℕ} {b c : Bool} {ts us : List Test} → b ≡ c → (c ≡ true → Same ts us) → Same (test k b ∷ ts) (test k c ∷ us)
unfolding tried
same_test {k} {b} {c} {ts} {us} e h = record { come = λ n r. rw e (go n r c h); passes = both }
  where
    go : (n : ℕ) (r : Reading) (c : Bool) → (c ≡ true → Same ts us) → cond c (tried ts n r) (refused k n) ≡ cond c (tried us n r) (refused k n)
    go n r true h = (h refl).come n r
    go n r false h = refl

    both : Passed (test k b ∷ ts) → Passed (test k c ∷ us)
    both (pass p ps) = pass (sym e ∙ p) ((h (sym e ∙ p)).passes ps)
