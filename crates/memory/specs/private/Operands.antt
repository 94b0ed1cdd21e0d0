-- Operators and operands as code has them.
use Rattle.std.specs.Prelude.{ℕ, Bool, ◌&&◌, ltb}
use Rattle.theory.specs.Formula.{Operand, first_operand, second_operand, third_operand, operators}
use Rattle.theory.specs.Formula.Operand.{unused, variable, binder, label, entry, count}
use Rattle.theory.specs.Fit.{operand_fits}
use Rattle.memory.specs.declared.operands.Kind.{Kind}
use Rattle.memory.specs.declared.operands.Kind.TheVariants.{Unused, Variable, Binder, Label, Entry, Count}

abbrev pub operand_kind : Kind → Operand
operand_kind Unused = unused
operand_kind Variable = variable
operand_kind Binder = binder
operand_kind Label = label
operand_kind Entry = entry
operand_kind Count = count

-- The operator exists, and its operands are in the ranges of entry n.
abbrev pub ranges_fit : (op a b c labels n : ℕ) → Bool
ranges_fit op a b c labels n =
    ltb op operators
    && (operand_fits (first_operand op) labels n a && (operand_fits (second_operand op) labels n b && operand_fits (third_operand op) labels n c))
