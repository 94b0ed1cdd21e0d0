-- Each arm puts the word of its number.
use Rattle.std.proofs.Common.{arith}
use Rattle.file.specs.Words.{direction_words}
use Rattle.writer.proofs.Placed.{put_at, put_past}
use Rattle.writer.proofs.vocabulary.put_direction.Goals as goal

pub returns-in-0 : goal.returns-in-0
unfolding direction_words
returns-in-0 c = put_at direction_words 0 _ c.in-0.is (c.put_bytes.ensures.all (omega arith))

pub returns-in-1 : goal.returns-in-1
unfolding direction_words
returns-in-1 c = put_at direction_words 1 _ c.in-1.is (c.put_bytes-in-1.ensures.all (omega arith))

pub returns-in_default : goal.returns-in_default
unfolding direction_words
returns-in_default c = put_past _ _ direction_words c.args.direction (omega arith)
