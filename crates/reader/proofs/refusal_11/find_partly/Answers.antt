use Rattle.std.proofs.Common.{sym, ap, ℕ, ◌&&◌, ltb, arith}
use mathlib.Core.Path.{◌∙◌}
use Rattle.reader.proofs.PartlyFilled.{Look, looking_done, looking_cut, looking_here, looking_next}
use Rattle.reader.proofs.refusal_11.find_partly.Goals as goal
use Rattle.reader.proofs.refusal_11.find_partly.Goals.{After-is_partly}

pub returns-in_err-bytes : goal.returns-in_err-bytes
returns-in_err-bytes c =
    rw c.from_residual.ensures
    (looking_cut _ _ _ _ _ _ c.loop-bytes.invariant.1 (rw c.in_err-bytes.was at c.in-Some.ensures.steps).last)

look : (c : After-is_partly) →
    let x = c.args in
    let l = c.loop-bytes in
    Look x.text.now x.terms.now x.state.now x.masks.now l.bytes-iterator.rest.now c.in_ok-bytes.field-0.now c.next.new.self.rest.now
    l.n c.mask-full.result c.parse_line-line.result
look c = record {
  looking = c.loop-bytes.invariant.1;
  fits = omega (arith, c.mask-full.type_inv);
  bits = λ m. c.mask-full.ensures m ∙ ap (λ (n : ℕ). ltb m 64 && ltb m n) c.members.ensures.value;
  taken = rw c.in_ok-bytes.was at c.in-Some.ensures.steps;
  line = c.parse_line-line.ensures;
}

pub returns-then-is_partly : goal.returns-then-is_partly
returns-then-is_partly c = (omega arith, looking_here (look (goal.at.returns-then-is_partly c).After-is_partly) (sym c.is_partly.ensures ∙ c.if-is_partly.true))

pub loop-bytes-preserved : goal.loop-bytes-preserved
loop-bytes-preserved c = (omega arith, looking_next (look (goal.at.loop-bytes-preserved c).After-is_partly) (sym c.is_partly.ensures ∙ c.if-is_partly.false))

pub returns : goal.returns
returns c = looking_done _ _ _ _ _ _ c.loop-bytes.invariant.1 c.in-None.ensures.steps
