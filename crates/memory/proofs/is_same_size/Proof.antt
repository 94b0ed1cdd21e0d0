-- `memory::is_same_size` meets its contract.
use borrow.Author.Rules.{rules}
use mathlib.Core.Path.{ap₂}
use mathlib.Core.Bool.{◌&&◌}
use lib.Dec.{eqb}
use Rattle.memory.proofs.is_same_size.Statement.{statement}
use Rattle.memory.proofs.is_same_size.Tie as tie

returns : tie.Need-returns
returns c =
    ap₂ ◌&&◌ (ap₂ eqb c.members.ensures.0 c.members-2.ensures.0)
    (ap₂ ◌&&◌ (ap₂ eqb c.relations.ensures.0 c.relations-2.ensures.0)
    (ap₂ eqb c.events.ensures.0 c.events-2.ensures.0))

pub is_same_size_spec : {M : Type 1} → statement M
is_same_size_spec =
    tie.close
    (tie.spec
    (λ c κs. search rules)
    (λ c κs. search rules)
    (λ c κs. search rules)
    (λ c κs. search rules)
    (λ c κs. search rules)
    (λ c κs. search rules)
    returns)
