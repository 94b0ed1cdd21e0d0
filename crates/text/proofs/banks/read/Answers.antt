-- One law for each way that it goes.
use Rattle.std.proofs.lemmas.Result.{err_from_is_err_and}
use Rattle.reader.proofs.Ended.{unrefused}
use Rattle.text.proofs.BanksRead.{short_first, short_second, fill_refused, fill_opened}
use Rattle.text.proofs.banks.read.Goals as goal

pub returns-then-first-lt-OWN : goal.returns-then-first-lt-OWN
returns-then-first-lt-OWN c =
    let q = short_first c.args.text.now c.args.terms.now c.args.relations.now c.args.first.now c.args.second.now c.if-first-lt-OWN.true in
    record { result_value = q.0; terms_after = q.1.0; relations_after = q.1.1.0; first_after = q.1.1.1.0; second_after = q.1.1.1.1 }

pub returns-then-second-lt-OWN : goal.returns-then-second-lt-OWN
returns-then-second-lt-OWN c =
    let q = short_second c.args.text.now c.args.terms.now c.args.relations.now c.args.first.now c.args.second.now c.if-first-lt-OWN.false c.if-second-lt-OWN.true in
    record { result_value = q.0; terms_after = q.1.0; relations_after = q.1.1.0; first_after = q.1.1.1.0; second_after = q.1.1.1.1 }

pub returns-in_err-fill_relations : goal.returns-in_err-fill_relations
returns-in_err-fill_relations c =
    let f = c.in_err-fill_relations.ensures in
    let q = fill_refused c.args.text.now c.args.terms.now c.args.relations.now c.args.first.now c.args.second.now c.if-first-lt-OWN.false c.if-second-lt-OWN.false _ _ f.result_value _ _ f.terms_after f.relations_after in
    let p = err_from_is_err_and c.from_residual.result c.from_residual.ensures.1 in
    record { result_value = rw (p.1, p.2) q.0; terms_after = q.1.0; relations_after = q.1.1.0; first_after = q.1.1.1.0; second_after = q.1.1.1.1 }

pub returns : goal.returns
returns c =
    let f = c.in_ok-fill_relations.ensures in
    let o = c.open.ensures in
    let q = fill_opened c.args.text.now c.args.terms.now c.args.relations.now c.args.first.now c.args.second.now c.if-first-lt-OWN.false c.if-second-lt-OWN.false _ (unrefused c.in_ok-fill_relations.field-0) f.result_value
    _ _ f.terms_after f.relations_after _ _ _ o.result_value o.first_after o.second_after in
    record { result_value = q.0; terms_after = q.1.0; relations_after = q.1.1.0; first_after = q.1.1.1.0; second_after = q.1.1.1.1 }
