use Rattle.std.proofs.Common.{rules, ap, length, eqb}
use Rattle.std.proofs.lemmas.Iterator.{YieldsList-from_slice}
use Rattle.std.proofs.lemmas.Iterator.Search.{position_from_yields_List}
use Rattle.std.specs.Option.{unwrap_or}
use borrow.Author.Tests.{tests}
use mathlib.Core.Path.{◌∙◌}
use Rattle.fields.proofs.Scan.{place_found}
use Rattle.fields.proofs.field.find.Goals as goal

pub returns : goal.returns
returns c =
    let s = c.args.s.now in
    let p = position_from_yields_List (λ x. eqb x c.args.c) _ _ _ c.position.ensures.ran (YieldsList-from_slice s cc) (λ x b q k. search (rules, tests)) in
    rw place_found (c.unwrap_or.ensures ∙ ap (λ r. unwrap_or r (length s)) p)
