-- The number of a refusal and its line (docs/SCOPE.md, Refusals).
use Rattle.std.specs.Prelude.{ℕ}
use Rattle.memory.specs.declared.refusal.Fault.{Fault}
use Rattle.memory.specs.declared.refusal.Fault.TheVariants.{Form, Range, Operand, Past, Policy, Reach, Table}
use Rattle.memory.specs.declared.refusal.Refusal.{Refusal}
use Rattle.memory.specs.declared.refusal.Refusal.TheVariants.{Line, Short, Terms, State, Name, Fresh, Size, Plan, Numbers}

-- What a line of a text is refused with.
abbrev pub fault_number : Fault → ℕ
fault_number Form = 1
fault_number Range = 2
fault_number Operand = 3
fault_number Past = 4
fault_number Policy = 5
fault_number Reach = 10
fault_number Table = 11

abbrev pub refusal_number : Refusal → ℕ
refusal_number (Line f n) = fault_number f
refusal_number Short = 6
refusal_number Terms = 7
refusal_number State = 8
refusal_number Name = 9
refusal_number Fresh = 12
refusal_number Size = 13
refusal_number Plan = 14
refusal_number Numbers = 15

-- The line is 0 where no text is read.
abbrev pub refusal_line : Refusal → ℕ
refusal_line (Line f n) = n
refusal_line Short = 0
refusal_line Terms = 0
refusal_line State = 0
refusal_line Name = 0
refusal_line Fresh = 0
refusal_line Size = 0
refusal_line Plan = 0
refusal_line Numbers = 0
