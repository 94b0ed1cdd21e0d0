-- Where the bit is set, its line is there.
use Prim.Native.Nat.{◌%◌}
use mathlib.Core.Bool.{true, false}
use Rattle.file.specs.Line.{fields_of}
use Rattle.writer.proofs.PutLines.{put_bit_there, put_bit_none, put_one_said, put_two_said}
use Rattle.writer.proofs.bits.put_bit.Goals as goal

pub returns-then-not-has-clause-put : goal.returns-then-not-has-clause-put
returns-then-not-has-clause-put c =
    put_bit_none c.args.table c.args.pairs c.args.w c.args.i c.args.b c.requires.1 _ _ _
    c.has.ensures c.if-not-has.true

pub returns-then-not-table-clause-put : goal.returns-then-not-table-clause-put
unfolding fields_of
returns-then-not-table-clause-put c =
    rw c.if-not-table.true
    (put_bit_there false c.args.pairs c.args.w c.args.i c.args.b c.requires.1 _ c.has.ensures c.if-not-has.false c.put_triple.ensures.put)

pub returns-then-has-clause-put : goal.returns-then-has-clause-put
unfolding fields_of
returns-then-has-clause-put c =
    rw c.if-not-table.false
    (put_bit_there true c.args.pairs c.args.w c.args.i c.args.b c.requires.1 _ c.has.ensures c.if-not-has.false
    (put_two_said c.args.pairs _ (c.args.i % 64) c.args.b _ c.has-2.ensures c.if-has.true c.put_quad.ensures.put))

pub returns-clause-put : goal.returns-clause-put
unfolding fields_of
returns-clause-put c =
    rw c.if-not-table.false
    (put_bit_there true c.args.pairs c.args.w c.args.i c.args.b c.requires.1 _ c.has.ensures c.if-not-has.false
    (put_one_said c.args.pairs _ (c.args.i % 64) c.args.b _ c.has-2.ensures c.if-has.false c.put_triple-2.ensures.put))
