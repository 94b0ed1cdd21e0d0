-- The word is the policy of the event.
use Rattle.file.specs.Line.{fields_of}
use Rattle.file.specs.declared.line.Line.TheVariants.{Policy}
use Rattle.writer.proofs.PutLines.{put_line}
use Rattle.writer.proofs.write.put_policy_of.Goals as goal

pub returns-clause-put : goal.returns-clause-put
unfolding fields_of
returns-clause-put c = rw (← c.policy_of-n.ensures.value) (put_line (Policy _ _) c.put_pair.ensures.put)
