-- Each arm puts the word of its number.
use Rattle.std.proofs.Common.{arith}
use Rattle.file.specs.Words.{operator_words}
use Rattle.writer.proofs.Placed.{put_at, put_past}
use Rattle.writer.proofs.vocabulary.put_operator.Goals as goal

pub returns-in-0 : goal.returns-in-0
unfolding operator_words
returns-in-0 c = put_at operator_words 0 _ c.in-0.is (c.put_bytes.ensures.all (omega arith))

pub returns-in-1 : goal.returns-in-1
unfolding operator_words
returns-in-1 c = put_at operator_words 1 _ c.in-1.is (c.put_bytes-in-1.ensures.all (omega arith))

pub returns-in-2 : goal.returns-in-2
unfolding operator_words
returns-in-2 c = put_at operator_words 2 _ c.in-2.is (c.put_bytes-in-2.ensures.all (omega arith))

pub returns-in-3 : goal.returns-in-3
unfolding operator_words
returns-in-3 c = put_at operator_words 3 _ c.in-3.is (c.put_bytes-in-3.ensures.all (omega arith))

pub returns-in-4 : goal.returns-in-4
unfolding operator_words
returns-in-4 c = put_at operator_words 4 _ c.in-4.is (c.put_bytes-in-4.ensures.all (omega arith))

pub returns-in-5 : goal.returns-in-5
unfolding operator_words
returns-in-5 c = put_at operator_words 5 _ c.in-5.is (c.put_bytes-in-5.ensures.all (omega arith))

pub returns-in-6 : goal.returns-in-6
unfolding operator_words
returns-in-6 c = put_at operator_words 6 _ c.in-6.is (c.put_bytes-in-6.ensures.all (omega arith))

pub returns-in-7 : goal.returns-in-7
unfolding operator_words
returns-in-7 c = put_at operator_words 7 _ c.in-7.is (c.put_bytes-in-7.ensures.all (omega arith))

pub returns-in-8 : goal.returns-in-8
unfolding operator_words
returns-in-8 c = put_at operator_words 8 _ c.in-8.is (c.put_bytes-in-8.ensures.all (omega arith))

pub returns-in-9 : goal.returns-in-9
unfolding operator_words
returns-in-9 c = put_at operator_words 9 _ c.in-9.is (c.put_bytes-in-9.ensures.all (omega arith))

pub returns-in-10 : goal.returns-in-10
unfolding operator_words
returns-in-10 c = put_at operator_words 10 _ c.in-10.is (c.put_bytes-in-10.ensures.all (omega arith))

pub returns-in-11 : goal.returns-in-11
unfolding operator_words
returns-in-11 c = put_at operator_words 11 _ c.in-11.is (c.put_bytes-in-11.ensures.all (omega arith))

pub returns-in_default : goal.returns-in_default
unfolding operator_words
returns-in_default c = put_past _ _ operator_words c.args.op (omega arith)
