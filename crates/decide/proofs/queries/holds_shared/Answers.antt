use Rattle.std.proofs.Common.{◌<◌, arith}
use Rattle.memory.specs.Layout.{terms_of}
use Rattle.deciding.proofs.Remembering as rem
use Rattle.decide.proofs.queries.holds_shared.Goals as goal

pub holds_at-requires-clause-memo : goal.holds_at-requires-clause-memo
holds_at-requires-clause-memo c =
    let l : c.args.entry < (terms_of c.args.present.now.terms.now).entries = c.requires.bound.0 in
    rem.memo_lower (omega arith) (c.prepare.ensures.by_index c.args.present.now.relations.now c.args.present.now.past.now)
