-- A request record that is answered.
use Prim.Native.Nat.{ℕ}
use Rattle.calls.specs.declared.Record.{Record}

-- The record with another answer.
abbrev pub put_answer : Record → ℕ → Record
put_answer r a = record { event = r.event; from = r.from; to = r.to; answer = a }
