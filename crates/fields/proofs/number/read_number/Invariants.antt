-- The digits of the rest, read on from v, give what all of f gives; v has at most as many digits as were read.
use Rattle.std.proofs.Common.{◌≡◌, ◌^◌, ◌<◌, drop}
use Rattle.fields.specs.Number.{all_digits, value_from, value_of}
use Rattle.fields.proofs.number.read_number.Given as goal

abbrev pub invariant-loop-d : goal.invariant-loop-d
invariant-loop-d l =
    (l.v < 10 ^ l.d-index)
    × ((all_digits (drop l.d-index l.f) ≡ all_digits l.f) × (value_from l.v (drop l.d-index l.f) ≡ value_of l.f))
