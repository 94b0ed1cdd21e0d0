-- A turn of the loop is put together once, where all that is known of its line is.
use Rattle.std.proofs.Common.{◌≡◌, ◌<◌, ℕ, Ok, Err, refl, sym, ap, true, false, arith}
use mathlib.Core.Path.{◌∙◌}
use Rattle.std.specs.Prelude.{Result}
use Rattle.memory.specs.declared.refusal.Fault.{Fault}
use Rattle.memory.specs.declared.refusal.Fault.TheVariants.{Form, Range, Operand, Past, Policy, Reach, Table}
use Rattle.memory.specs.Refusal.{fault_number}
use Rattle.reader.specs.private.Testing.{found}
use Rattle.reader.proofs.LineLoop.{Turn, along_first, along_done, along_short, along_cut, turn_refused, turn_ranges, turn_next, turn_last}
use Rattle.reader.proofs.read.read_lines.Goals as goal
use Rattle.reader.proofs.read.read_lines.Goals.{After-fault_of}

turn : (c : After-fault_of) (k : ℕ) → found c.fault_of.result ≡ k →
    let l = c.loop-bytes in
    Turn c.args.text.now l.terms l.state l.masks l.bytes-iterator.rest.now c.in-Some-bytes.bytes.now c.next.new.self.rest.now l.c l.n
    c.parse_line-line.result c.free_in-m.result c.reach_in-reaches.result k
turn c k e = record {
  along = c.loop-bytes.invariant.along;
  taken = rw c.in-Some-bytes.is at c.in-Some.ensures.steps;
  line = c.parse_line-line.ensures;
  set = c.free_in-m.ensures;
  fits = omega (arith, c.free_in-m.type_inv);
  reaches = c.reach_in-reaches.ensures;
  number = sym e ∙ c.fault_of.ensures;
}

pub loop-bytes-init : goal.loop-bytes-init
loop-bytes-init c = record {
  along = rw (c.into_iter-bytes-iterator.ensures.into_iter_gives, c.of-bytes-items.ensures, c.begin-c.ensures)
      (along_first _ _ _ _ c.requires.0 c.requires.1 c.requires.2);
  last = rw c.begin-c.ensures (λ e. absurd (omega (arith, e)));
}

pub returns-in_default : goal.returns-in_default
returns-in_default c =
    along_cut _ _ _ _ _ _ _ c.loop-bytes.invariant.along (rw c.in_default.is at c.in-Some.ensures.steps).last

positive : (f : Fault) → 0 < fault_number f
positive Form = omega arith
positive Range = omega arith
positive Operand = omega arith
positive Past = omega arith
positive Policy = omega arith
positive Reach = omega arith
positive Table = omega arith

pub returns-in-Err : goal.returns-in-Err
returns-in-Err c =
    let f = c.in-Err.fault in
    turn_refused (turn (goal.at.returns-in-Err c).After-fault_of (fault_number f) (ap found c.in-Err.is)) (positive f)

none : (r : Result Unit Fault) → ((f : Fault) → r ≡ Err f → ⊥) → found r ≡ 0
none (Ok u) h = refl
none (Err f) h = absurd (h f refl)

pub store_terms-requires-clause-ranges : goal.store_terms-requires-clause-ranges
store_terms-requires-clause-ranges c = turn_ranges (turn (goal.at.store_terms-requires-clause-ranges c).After-fault_of 0 (none _ c.in_default-fault_of.not-Err)) (omega arith)

pub store_state-requires-clause-ranges : goal.store_state-requires-clause-ranges
store_state-requires-clause-ranges c = turn_ranges (turn (goal.at.store_state-requires-clause-ranges c).After-fault_of 0 (none _ c.in_default-fault_of.not-Err)) (omega arith)

pub store_set-requires-clause-ranges : goal.store_set-requires-clause-ranges
store_set-requires-clause-ranges c = turn_ranges (turn (goal.at.store_set-requires-clause-ranges c).After-fault_of 0 (none _ c.in_default-fault_of.not-Err)) (omega arith)

pub step-c-requires-clause-ranges : goal.step-c-requires-clause-ranges
step-c-requires-clause-ranges c = turn_ranges (turn (goal.at.step-c-requires-clause-ranges c).After-fault_of 0 (none _ c.in_default-fault_of.not-Err)) (omega arith)

pub loop-bytes-preserved : goal.loop-bytes-preserved
loop-bytes-preserved c =
    let t = turn (goal.at.loop-bytes-preserved c).After-fault_of 0 (none _ c.in_default-fault_of.not-Err) in
    record {
      along = rw (c.store_terms.ensures, c.store_state.ensures, c.store_set.ensures, c.step-c.ensures) (turn_next t (omega arith));
      last = rw (c.store_terms.ensures, c.store_set.ensures, c.step-c.ensures) (turn_last t (omega arith));
    }

pub returns-then-not-is_complete : goal.returns-then-not-is_complete
returns-then-not-is_complete c =
    along_short _ _ _ _ _ _ _ c.loop-bytes.invariant.along c.in-None.ensures.steps (sym c.is_complete.ensures ∙ c.if-not-is_complete.true)

pub returns-then-c : goal.returns-then-c
returns-then-c c =
    along_done _ _ _ _ _ _ _ c.loop-bytes.invariant.along c.in-None.ensures.steps
    (sym c.is_complete.ensures ∙ c.if-not-is_complete.false) true c.if-c.true

pub returns-else-c : goal.returns-else-c
returns-else-c c =
    along_done _ _ _ _ _ _ _ c.loop-bytes.invariant.along c.in-None.ensures.steps
    (sym c.is_complete.ensures ∙ c.if-not-is_complete.false) false c.if-c.false
