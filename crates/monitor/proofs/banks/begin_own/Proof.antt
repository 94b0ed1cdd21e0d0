-- `monitor::banks::begin_own` meets its contract.
use borrow.Author.Rules.{rules}
use lib.Seq.{length-take-le}
use Rattle.monitor.proofs.BankBegun.{own_begins}
use Rattle.monitor.proofs.banks.begin_own.Statement.{statement}
use Rattle.monitor.proofs.banks.begin_own.Tie as tie

begin-requires : tie.Need-begin-requires
begin-requires c κs =
    let x = c in
    (x.requires.0, (length-take-le 1024 x.args.relations.now x.requires.1.0, length-take-le 2049 x.args.own.now x.requires.1.1, length-take-le 2049 x.args.second.now x.requires.1.2))

returns : tie.Need-returns
returns c =
    let b = c in
    let x = b in
    own_begins x.args.relations.now _ _ x.args.second.now x.requires.1.0 b.begin.ensures

pub begin_own_spec : {M : Type 1} → statement M
begin_own_spec =
    tie.close
    (tie.spec
    (λ c. search rules)
    (λ c. search rules)
    (λ c. search rules)
    (λ c. search rules)
    (λ c. search rules)
    (λ c. search rules)
    (λ c. search rules)
    (λ c. search rules)
    (λ c. search rules)
    begin-requires
    (λ c. search rules)
    returns)
