-- Where the bit is set, its line is counted.
use Prim.Native.Nat.{◌%◌}
use lib.ListN.{length, get_or}
use Rattle.file.specs.Words.{kind_words}
use mathlib.Core.Path.{◌≡◌, refl}
use mathlib.Core.List.{[]}
use mathlib.Core.Bool.{true, false}
use Rattle.file.specs.Line.{fields_of}
use Rattle.writer.proofs.PutLines.{put_bit_there, put_bit_none, put_one_said, put_two_said}
use Rattle.writer.proofs.skip.skip_bit.Goals as goal

edge-letter : length (get_or kind_words 5 []) ≡ 1
unfolding kind_words
edge-letter = refl

table-letter : length (get_or kind_words 7 []) ≡ 1
unfolding kind_words
table-letter = refl

pub returns-then-not-has-clause-put : goal.returns-then-not-has-clause-put
returns-then-not-has-clause-put c =
    put_bit_none c.args.table c.args.pairs c.args.w c.args.i c.args.b c.requires.1 _ _ _
    c.has.ensures c.if-not-has.true

pub returns-then-not-table-clause-put : goal.returns-then-not-table-clause-put
unfolding fields_of
returns-then-not-table-clause-put c =
    rw c.if-not-table.true
    (put_bit_there false c.args.pairs c.args.w c.args.i c.args.b c.requires.1 _ c.has.ensures c.if-not-has.false (c.skip_triple.ensures.skipped _ edge-letter))

pub returns-then-has-clause-put : goal.returns-then-has-clause-put
unfolding fields_of
returns-then-has-clause-put c =
    rw c.if-not-table.false
    (put_bit_there true c.args.pairs c.args.w c.args.i c.args.b c.requires.1 _ c.has.ensures c.if-not-has.false
    (put_two_said c.args.pairs _ (c.args.i % 64) c.args.b _ c.has-2.ensures c.if-has.true (c.skip_quad.ensures.skipped _ table-letter)))

pub returns-clause-put : goal.returns-clause-put
unfolding fields_of
returns-clause-put c =
    rw c.if-not-table.false
    (put_bit_there true c.args.pairs c.args.w c.args.i c.args.b c.requires.1 _ c.has.ensures c.if-not-has.false
    (put_one_said c.args.pairs _ (c.args.i % 64) c.args.b _ c.has-2.ensures c.if-has.false (c.skip_triple-2.ensures.skipped _ table-letter)))
