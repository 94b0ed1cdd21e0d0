-- The preset of the marked cases is the one of docs/SCOPE.md: reading its text gives those terms and first edges.
use Prim.Native.Nat.{ℕ, zero, suc, ◌<◌}
use native.Mathlib.Omega.{arith}
use mathlib.Core.Path.{◌≡◌, refl}
use mathlib.Core.Bool.{Bool, true, false, cond, ◌&&◌}
use lib.Dec.{eqb}
use Rattle.sets.specs.Sets.{all_below}
use Rattle.theory.specs.Formula.{node, number, below, spelled, free, those}
use Rattle.theory.specs.Fit.{every, only_free, closed, reach_fits}
use Rattle.theory.specs.Cases.{preset, own}
use Rattle.fields.specs.Split.{split, lines, alike}
use Rattle.fields.specs.Number.{is_digit, all_digits, is_number, value_from, value_of}
use Rattle.file.specs.Words.{operator_words, kind_words, index_from, operator_of, kind_of}
use Rattle.file.specs.Line.{single_line, labels_line, short_entry_line, entry_line, policy_line, triple_line}
use Rattle.file.specs.Line.{line_of, parsed}
use Rattle.file.specs.File.{nothing, after_line}
use Rattle.file.specs.Reading.{in_range, is_lower, tests, tried, read_on, partly_at, levelled, reading}
use Rattle.file.specs.Said.{said_lines}
use Rattle.file.specs.Preset.{preset_text, taken_in, preset_file, ReadsPreset}

-- Computed by the checker.
pub preset_read : ReadsPreset
unfolding preset_text preset_file taken_in said_lines lines split alike
    kind_words operator_words index_from kind_of operator_of is_digit all_digits is_number value_from value_of
    single_line labels_line entry_line short_entry_line policy_line triple_line line_of parsed nothing after_line
    in_range is_lower every tests tried read_on partly_at levelled reading
    node number below spelled free those all_below only_free closed reach_fits preset own
preset_read = record {
  read = refl;
  terms = record {
    members = refl;
    relations = refl;
    events = refl;
    entries = refl;
    entry = entry_same;
    policy = policy_same;
    effects = λ j l. refl;
    kept = λ j l. refl;
  };
  edges = λ k a b. edge_same (eqb k 0) (eqb a 0) (eqb b 2);
}
  where
    entry_same : (n : ℕ) → n < 9 → preset_file.terms.entry n ≡ preset.entry n
    entry_same zero l = refl
    entry_same (suc zero) l = refl
    entry_same (suc (suc zero)) l = refl
    entry_same (suc (suc (suc zero))) l = refl
    entry_same (suc (suc (suc (suc zero)))) l = refl
    entry_same (suc (suc (suc (suc (suc zero))))) l = refl
    entry_same (suc (suc (suc (suc (suc (suc zero)))))) l = refl
    entry_same (suc (suc (suc (suc (suc (suc (suc zero))))))) l = refl
    entry_same (suc (suc (suc (suc (suc (suc (suc (suc zero)))))))) l = refl
    entry_same (suc (suc (suc (suc (suc (suc (suc (suc (suc n))))))))) l = absurd (let z : ⊥ = omega arith in z)

    policy_same : (j : ℕ) → j < 3 → preset_file.terms.policy j ≡ preset.policy j
    policy_same zero l = refl
    policy_same (suc zero) l = refl
    policy_same (suc (suc zero)) l = refl
    policy_same (suc (suc (suc j))) l = absurd (let z : ⊥ = omega arith in z)

    edge_same : (x y z : Bool) → cond (x && (y && z)) true false ≡ x && y && z
    edge_same true true true = refl
    edge_same true true false = refl
    edge_same true false z = refl
    edge_same false y z = refl
