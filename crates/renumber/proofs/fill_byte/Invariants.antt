-- The loop's invariant: n is 2 ^ k, and the words of the sets of the first k members are there.
use Rattle.std.proofs.Common.{◌≡◌, ◌^◌, length}
use Rattle.theory.specs.NewNumbers.{new_number}
use Rattle.renumber.specs.private.Spread.{ByteOf}
use Rattle.renumber.proofs.fill_byte.Given as goal

abbrev pub invariant-loop-k : goal.invariant-loop-k
invariant-loop-k l = record {
  power : l.n ≡ 2 ^ l.k;
  long : length l.part ≡ 256;
  byte : ByteOf (new_number l.all) l.b l.part l.n;
}
