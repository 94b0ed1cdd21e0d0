-- What the functions that make a moment of two banks leave of the other bank's state before its tables are moved on.
use Rattle.std.specs.Prelude.{ℕ, Bool}
use Rattle.theory.specs.Terms.{Terms}
use Rattle.theory.specs.Tables.{State, made}
use Rattle.banking.specs.Banks.{quiet}

-- The state at that moment, with its old tables.
abbrev pub hushed : (granted : Bool) → (j u v : ℕ) → Terms → State → State
hushed g j u v T S = record { now = quiet (made T S.now g j u v); table = S.table }
