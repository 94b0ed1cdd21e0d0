use Rattle.sets.proofs.Joined.{Parted}
use Rattle.sets.proofs.union_of.Given as goal

abbrev pub invariant-loop-chunk : goal.invariant-loop-chunk
invariant-loop-chunk l = Parted l.ws l.lanes l.chunk-iterator.rest.now l.chunk-iterator.size
