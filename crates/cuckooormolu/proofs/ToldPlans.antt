-- No code for a plan or for an entry can be mistaken for another, and none is that of an answer to a request.
use Prim.Native.Nat.{ℕ}
use native.Mathlib.Omega.{arith}
use mathlib.Core.Path.{◌≡◌, refl}
use mathlib.Core.Bool.{Bool, true, false, cond, not, ◌||◌}
use mathlib.Core.List.{List}
use lib.Dec.{ltb}
use lib.ListN.{length}
use Rattle.theory.specs.Fit.{every}
use Rattle.memory.specs.Layout.{terms_words, state_words, terms_of, state_of}
use Rattle.memory.specs.Checks.{good_memory, good_state}
use Rattle.memory.specs.Outcome.{askable}
use Rattle.calls.specs.Telling.{Telling, paired, holds_at, tells}
use Rattle.calls.specs.Telling.Telling.{holds, fails, refused}
use Rattle.plans.specs.Game.{Ruling, game_tests, known_tests, game_words}
use Rattle.plans.specs.Game.Ruling.{accept, reject, refuse}
use Rattle.plans.specs.Plans.{accepted, ruling}
use Rattle.cuckooormolu.specs.Codes.{Low, ToldRuling, ToldTelling}
use Rattle.cuckooormolu.proofs.Told.{low}

abbrev LowRuling : Ruling → Type 0
LowRuling accept = Unit {0}
LowRuling reject = Unit {0}
LowRuling (refuse n l) = Low n

abbrev LowTelling : Telling → Type 0
LowTelling holds = Unit {0}
LowTelling fails = Unit {0}
LowTelling (refused n l) = Low n

told_ruling : (g : Ruling) → LowRuling g → ToldRuling g
told_ruling accept h = record {
  accepts = ((λ e. refl), (λ e. refl));
  rejects = ((λ e. absurd (omega arith)), (λ e. let z : ◌≡◌ {A = ℕ} 0 1 = cc in absurd (omega arith)));
  refuses = λ n l e. let z : ◌≡◌ {A = ℕ} 0 1 = cc in absurd (omega arith);
  no_answer = ((λ e. omega arith), (λ e. omega arith), (λ e. omega arith));
}
told_ruling reject h = record {
  accepts = ((λ e. absurd (omega arith)), (λ e. let z : ◌≡◌ {A = ℕ} 0 1 = cc in absurd (omega arith)));
  rejects = ((λ e. refl), (λ e. refl));
  refuses = λ n l e. let z : ◌≡◌ {A = ℕ} 0 1 = cc in absurd (omega arith);
  no_answer = ((λ e. omega arith), (λ e. omega arith), (λ e. omega arith));
}
told_ruling (refuse n l) h = record {
  accepts = ((λ e. absurd (omega arith)), (λ e. let z : ◌≡◌ {A = ℕ} 0 1 = cc in absurd (omega arith)));
  rejects = ((λ e. absurd (omega arith)), (λ e. let z : ◌≡◌ {A = ℕ} 0 1 = cc in absurd (omega arith)));
  refuses = λ m k e. let z : n ≡ m = cc in (omega arith, omega arith);
  no_answer = ((λ e. omega arith), (λ e. omega arith), (λ e. omega arith));
}

told_telling : (t : Telling) → LowTelling t → ToldTelling t
told_telling holds h = record {
  affirmed = ((λ e. refl), (λ e. refl));
  denied = ((λ e. absurd (omega arith)), (λ e. let z : ◌≡◌ {A = ℕ} 0 1 = cc in absurd (omega arith)));
  refuses = λ n l e. let z : ◌≡◌ {A = ℕ} 0 1 = cc in absurd (omega arith);
  no_answer = ((λ e. omega arith), (λ e. omega arith), (λ e. omega arith));
}
told_telling fails h = record {
  affirmed = ((λ e. absurd (omega arith)), (λ e. let z : ◌≡◌ {A = ℕ} 0 1 = cc in absurd (omega arith)));
  denied = ((λ e. refl), (λ e. refl));
  refuses = λ n l e. let z : ◌≡◌ {A = ℕ} 0 1 = cc in absurd (omega arith);
  no_answer = ((λ e. omega arith), (λ e. omega arith), (λ e. omega arith));
}
told_telling (refused n l) h = record {
  affirmed = ((λ e. absurd (omega arith)), (λ e. let z : ◌≡◌ {A = ℕ} 0 1 = cc in absurd (omega arith)));
  denied = ((λ e. absurd (omega arith)), (λ e. let z : ◌≡◌ {A = ℕ} 0 1 = cc in absurd (omega arith)));
  refuses = λ m k e. let z : n ≡ m = cc in (omega arith, omega arith);
  no_answer = ((λ e. omega arith), (λ e. omega arith), (λ e. omega arith));
}

low_ruling : (terms state scratch plan : List ℕ) (planner rival goal u v : ℕ) →
    LowRuling (ruling terms state scratch plan planner rival goal u v)
unfolding ruling
low_ruling terms state scratch plan planner rival goal u v =
    go (ltb (length terms) terms_words || (ltb (length state) state_words || ltb (length scratch) game_words))
    (good_memory terms) (good_state (terms_of terms) state) (every (game_tests (terms_of terms) plan planner rival goal))
    (every (known_tests (terms_of terms) plan planner rival u v)) (accepted terms state plan planner rival goal u v)
  where
    go : (a b c d e f : Bool) →
        LowRuling (cond a (refuse 6 0) (cond (not b) (refuse 7 0) (cond (not c) (refuse 8 0) (cond (not d) (refuse 14 0)
        (cond (not e) (refuse 9 0) (cond f accept reject))))))
    go true b c d e f = low 6 refl
    go false false c d e f = low 7 refl
    go false true false d e f = low 8 refl
    go false true true false e f = low 14 refl
    go false true true true false f = low 9 refl
    go false true true true true true = tt
    go false true true true true false = tt

low_telling : (terms state : List ℕ) (n u v : ℕ) → LowTelling (tells terms state n u v)
unfolding tells
low_telling terms state n u v =
    go (ltb (length terms) terms_words || ltb (length state) state_words) (good_memory terms) (good_state (terms_of terms) state)
    (askable (terms_of terms) n) (paired (terms_of terms) u v) (holds_at (terms_of terms) (state_of state) n u v)
  where
    go : (a b c d e f : Bool) →
        LowTelling (cond a (refused 6 0) (cond (not b) (refused 7 0) (cond (not c) (refused 8 0)
        (cond (not d) (refused 14 0) (cond (not e) (refused 9 0) (cond f holds fails))))))
    go true b c d e f = low 6 refl
    go false false c d e f = low 7 refl
    go false true false d e f = low 8 refl
    go false true true false e f = low 14 refl
    go false true true true false f = low 9 refl
    go false true true true true true = tt
    go false true true true true false = tt

pub told_plan : (terms state scratch plan : List ℕ) (planner rival goal u v : ℕ) →
    ToldRuling (ruling terms state scratch plan planner rival goal u v)
told_plan terms state scratch plan planner rival goal u v =
    told_ruling (ruling terms state scratch plan planner rival goal u v)
    (low_ruling terms state scratch plan planner rival goal u v)

pub told_tell : (terms state : List ℕ) (n u v : ℕ) → ToldTelling (tells terms state n u v)
told_tell terms state n u v = told_telling (tells terms state n u v) (low_telling terms state n u v)
