use Rattle.std.proofs.Common.{◌≡◌, ℕ, [], ◌∷◌, List, get_or, arith}
use mathlib.Core.Path.{sym, ap, ◌∙◌, subst}
use borrow.Author.Tests.{eqb-false, ltb-true}
use Rattle.memory.specs.Layout.{terms_of}
use Rattle.memory.proofs.Accepted.{good}
use Rattle.deciding.specs.private.Rows.{operand_bits}
use Rattle.deciding.proofs.Loops as loops
use Rattle.deciding.proofs.Pairs as pairs
use Rattle.deciding.proofs.Remembering as rem
use Rattle.deciding.proofs.AtEntry as sites
use Rattle.deciding.proofs.Assignments as assignments
use Rattle.decide.proofs.tables.pair_rows.Goals as goal

pub loop-b-init : goal.loop-b-init
loop-b-init c =
    let clear = c.clear.ensures in
    record {
      filled = pairs.filled_none _ _ _ (loops.zero_long clear) (λ k. ap (λ (l : List ℕ). get_or l k 0) clear ∙ loops.zeros 64 k);
      grown = rem.grown_same c.requires.memo;
    }

pub decide-requires-clause-rows_asked : goal.decide-requires-clause-rows_asked
decide-requires-clause-rows_asked c =
    let T = terms_of c.args.present.now.terms.now in
    record {
      exists = c.requires.operand_bound.0;
      wanted = λ m e. ltb-true m T.members (sym (sites.mask_is c.args.present.now.ready c.mask-all.result c.members-n.result c.mask-all.ensures c.members-n.ensures.value m) ∙ e);
      vars = assignments.vars_assign c.args.x c.loop-b.b c.requires.operand_bound.2 (omega arith) c.rebind-vars.ensures
          (assignments.vars_zeros (good c.args.present.now.terms.now c.args.present.now.ready.good).some_member);
    }

pub loop-b-preserved : goal.loop-b-preserved
loop-b-preserved c =
    let x = c.args in
    let l = c.loop-b in
    let bound = c.requires.operand_bound in
    let members = c.members-n.ensures.value in
    record {
      filled = pairs.pair_more (terms_of x.present.now.terms.now) x.present.now.relations.now x.present.now.past.now x.operand x.x x.y l.b _ bound.1 (omega arith) bound.3
          (eqb-false x.x x.y bound.4) c.rebind-vars.ensures (sites.mask_is c.args.present.now.ready c.mask-all.result c.members-n.result c.mask-all.ensures members)
          c.decide.ensures.rows l.invariant.filled (rw members at c.add_rows.ensures);
      grown = rem.grown_then l.invariant.grown c.decide.ensures.grown;
    }

pub returns : goal.returns
returns c =
    let x = c.args in
    let l = c.loop-b in
    let all : l.b ≡ (terms_of x.present.now.terms.now).members = omega arith in
    record {
      table = pairs.filled_all _ _ x.x x.y [] _
          (subst (λ (b : ℕ). pairs.Filled (terms_of x.present.now.terms.now).members (operand_bits (terms_of x.present.now.terms.now) x.present.now.relations.now x.present.now.past.now (x.x ∷ x.y ∷ []) x.operand) b l.out) all l.invariant.filled);
      grown = l.invariant.grown;
    }
