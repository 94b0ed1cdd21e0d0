-- Laws of one step through the lines of a text.
use Prim.Native.Nat.{ℕ, ◌+◌, ◌-◌, ◌≤◌, ◌<◌}
use native.Mathlib.Omega.{arith}
use native.Mathlib.Numerals.{add-one}
use mathlib.Core.Path.{◌≡◌, refl}
use mathlib.Core.List.{List, [], ◌∷◌}
use lib.ListN.{length, take, drop}
use lib.Seq.{length-take-le}
use Rattle.fields.specs.Split.{lines, place}
use Rattle.fields.specs.Split.Lines.{done}
use Rattle.fields.specs.private.Lines.{LineTaken, CutTaken}
use Rattle.fields.proofs.Split.{place_le, lines_here, lines_cut, part_rest, rest_shorter}

pub lines_end : (t : List ℕ) → length t ≡ 0 → lines t ≡ done
unfolding lines
lines_end [] h = refl
lines_end (x ∷ t) h = absurd (omega arith)

module _ (t : List ℕ) (n : ℕ) (e : n ≡ place 10 t) where
  pub taken : n < length t → LineTaken t (take n t) (take (length t - (n + 1)) (drop (n + 1) t))
  taken h = record {
    first = rw (part_rest (n + 1) t, add-one n, e, lines_here t (omega arith)) refl;
    shorter = omega (arith, rest_shorter n t, length-take-le n t (omega arith));
  }

  pub cut_taken : length t ≤ n → 0 < length t → CutTaken t []
  cut_taken h s = record {
    last = lines_cut t (omega (arith, place_le 10 t)) s;
    some = s;
    none = refl;
  }
