-- The moment that a request over two banks makes, from the effects on the shared relations: in the bank that was asked
-- with its event edge, in the other without one.
use Prim.Native.Nat.{ℕ}
use mathlib.Core.Path.{◌≡◌, sym, subst}
use mathlib.Core.Bool.{Bool, true, false, cond}
use mathlib.Core.List.{List}
use Rattle.theory.specs.Terms.{Terms}
use Rattle.theory.specs.Moment.Event.{none}
use Rattle.theory.specs.Tables.{State, made, advance}
use Rattle.deciding.specs.private.Moving.{Becomes, prev_moved, since_moved, all_affected, occurring, evented, entered}
use Rattle.banking.specs.Banks.{quiet}
use Rattle.banking.specs.private.Beside.{hushed}

-- The effects, if the request is granted.
abbrev pub affected_if : (granted : Bool) → (j u v : ℕ) → Terms → State → State
affected_if g j u v T S = cond g (all_affected j u v T S) S

pub made_effects : {terms m m' : List ℕ} {g : Bool} (j u v : ℕ) → g ≡ true → Becomes terms (all_affected j u v) m m' → Becomes terms (affected_if g j u v) m m'
made_effects {terms} {m} {m'} j u v e p = subst (λ (c : Bool). Becomes terms (affected_if c j u v) m m') (sym e) (record { each = λ S rest has. p.each S rest has })

pub no_effects : {terms m : List ℕ} {g : Bool} (j u v : ℕ) → g ≡ false → Becomes terms (affected_if g j u v) m m
no_effects {terms} {m} j u v e = subst (λ (c : Bool). Becomes terms (affected_if c j u v) m m) (sym e) (record { each = λ S rest has. has })

-- Then the event edge, or none.
pub entered_by : {terms m m₁ m₂ : List ℕ} (g : Bool) (j u v : ℕ) → Becomes terms (affected_if g j u v) m m₁ → Becomes terms (evented (occurring g j u v)) m₁ m₂
    → Becomes terms (entered g j u v) m m₂
entered_by true j u v p q = record { each = λ S rest has. q.each _ rest (p.each S rest has) }
entered_by false j u v p q = record { each = λ S rest has. q.each _ rest (p.each S rest has) }

pub hushed_by : {terms m m₁ m₂ : List ℕ} (g : Bool) (j u v : ℕ) → Becomes terms (affected_if g j u v) m m₁ → Becomes terms (evented none) m₁ m₂
    → Becomes terms (hushed g j u v) m m₂
hushed_by true j u v p q = record { each = λ S rest has. q.each _ rest (p.each S rest has) }
hushed_by false j u v p q = record { each = λ S rest has. q.each _ rest (p.each S rest has) }

-- The steps to the next moment.
pub stepped_quietly : {terms m m₁ m₂ m₃ : List ℕ} (g : Bool) (j u v : ℕ) → Becomes terms prev_moved m m₁ → Becomes terms (hushed g j u v) m₁ m₂ → Becomes terms since_moved m₂ m₃
    → Becomes terms (λ T S. advance T S (quiet (made T S.now g j u v))) m m₃
unfolding advance
stepped_quietly {terms} {m} {m₁} {m₂} {m₃} g j u v p q r = record { each = λ S rest has. r.each _ rest (q.each _ rest (p.each S rest has)) }
