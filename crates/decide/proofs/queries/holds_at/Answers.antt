use Rattle.std.proofs.Common.{◌∙◌, arith}
use Rattle.memory.specs.Layout.{terms_of}
use Rattle.deciding.specs.private.Rows.{assigned}
use Rattle.deciding.proofs.AtEntry as sites
use Rattle.deciding.proofs.Requests as requests
use Rattle.deciding.proofs.Counting as counting
use Rattle.decide.proofs.queries.holds_at.Goals as goal

pub rebind-vars-requires : goal.rebind-vars-requires
rebind-vars-requires c = (omega arith, omega (arith, sites.member_short c.args.present.now.ready _ c.requires.bound.2))

pub decide-requires-clause-rows_asked : goal.decide-requires-clause-rows_asked
decide-requires-clause-rows_asked c =
    let v = c.rebind-vars in
    requests.request_asked _ (assigned v.result) v.ensures _ c.args.u _ c.args.present.now.ready c.requires.bound.0 c.requires.bound.1 c.requires.bound.2
    (counting.single-is c.single.result _ c.single.ensures (sites.member_short c.args.present.now.ready _ c.requires.bound.1))

pub bounds-f-u : goal.bounds-f-u
bounds-f-u c = omega (arith, sites.member_short c.args.present.now.ready _ c.requires.bound.1)

pub offset_bounds-f-u : goal.offset_bounds-f-u
offset_bounds-f-u c = omega (arith, sites.member_short c.args.present.now.ready _ c.requires.bound.1)

pub returns : goal.returns
returns c =
    let x = c.args in
    let v = c.rebind-vars in
    c.has.ensures
    ∙ requests.request_answer x.v (assigned v.result) v.ensures (terms_of x.present.now.terms.now) x.present.now.relations.now x.present.now.past.now _ _ c.single.result
    c.requires.bound.2 (counting.single-is c.single.result _ c.single.ensures (sites.member_short c.args.present.now.ready _ c.requires.bound.1))
    c.decide.ensures.rows
