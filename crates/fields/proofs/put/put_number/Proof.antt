-- `fields::put::put_number` meets its contract: a number below 100 has one digit, or two.
use native.Mathlib.Omega.{arith}
use mathlib.Core.Path.{subst}
use borrow.Author.Rules.{rules}
use Rattle.fields.specs.private.Put.{Put}
use Rattle.fields.proofs.Digits.{digits_single, digits_double}
use Rattle.fields.proofs.Output.{put_then}
use Rattle.fields.proofs.put.put_number.Statement.{statement}
use Rattle.fields.proofs.put.put_number.Tie as tie

returns-2 : tie.Need-returns-then-n-lt100
returns-2 c =
    let q = c in
    let p = q in
    subst (Put _ _ _ _) (digits_double _ (omega arith) (omega arith)) (put_then p.put-next.ensures q.put-then-n-lt100.ensures)

pub put_number_spec : {M : Type 1} → statement M
put_number_spec =
    tie.close
    (tie.spec
    (λ c. search rules)
    (λ c. search rules)
    (λ c κs. search rules)
    (λ c. search rules)
    (λ c. subst (Put _ _ _ _) (digits_single _ (omega arith)) c.put.ensures)
    (λ c. search rules)
    (λ c. search rules)
    (λ c κs. search rules)
    (λ c. search rules)
    (λ c. search rules)
    (λ c κs. search rules)
    (λ c. search rules)
    returns-2
    (λ c κs. search rules)
    (λ c. search rules)
    (λ c. search rules))
