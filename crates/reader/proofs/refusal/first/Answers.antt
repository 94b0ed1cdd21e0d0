-- What was found stays; else the fault is found where the test fails.
use Rattle.std.proofs.Common.{◌≡◌, arith}
use borrow.Author.Tests.{ne_eqb}
use Rattle.std.proofs.lemmas.Result.{err_from_is_err_and}
use Rattle.memory.specs.declared.refusal.Fault.{Fault}
use Rattle.memory.specs.declared.refusal.Fault.TheVariants.{Form, Range, Operand, Past, Policy, Reach, Table}
use Rattle.memory.specs.Refusal.{fault_number}
use Rattle.reader.specs.private.Testing.{refused_by}
use Rattle.reader.proofs.refusal.first.Goals as goal

-- No fault has number 0.
some : (f : Fault) → fault_number f ≡ 0 → ⊥
some Form e = omega (arith, e)
some Range e = omega (arith, e)
some Operand e = omega (arith, e)
some Past e = omega (arith, e)
some Policy e = omega (arith, e)
some Reach e = omega (arith, e)
some Table e = omega (arith, e)

pub returns-in_err-k : goal.returns-in_err-k
unfolding refused_by
returns-in_err-k c =
    let p = err_from_is_err_and c.from_residual.result c.from_residual.ensures.1 in
    let f = c.in_err-k.field-0.0 in
    rw (p.1, p.2, c.in_err-k.was, ne_eqb (fault_number f) 0 (some f))
