-- `memory::banks::check_banks` meets its contract.
use Rattle.memory.specs.Layout.{terms_of}
use Rattle.memory.proofs.Accepted.{good}
use Rattle.memory.proofs.OwnTests.{good-banks}
use Rattle.memory.proofs.banks.check_banks.Statement.{statement}
use Rattle.memory.proofs.banks.check_banks.Tie as tie

check-own-requires : tie.Need-check_own-requires
check-own-requires c κs = let x = c in ((x.requires.0.0, x.requires.0.2), x.requires.1)

check-own-requires-2 : tie.Need-check_own-requires-2
check-own-requires-2 c κs =
    let x = c in ((x.requires.0.0, x.requires.0.3), x.requires.1)

returns : tie.Need-returns
returns c =
    let x = c in
    good-banks (terms_of x.args.terms.now) (good _ x.requires.0.0) x.args.relations.now x.args.own.now x.args.other.now x.requires.0.1
    c.check_relations.ensures c.check_own.ensures c.check_own-2.ensures

pub check_banks_spec : {M : Type 1} → statement M
check_banks_spec =
    tie.close
    (tie.spec
    (λ c κs. let x = c in (x.requires.0.0, x.requires.0.1))
    check-own-requires
    check-own-requires-2
    returns)
