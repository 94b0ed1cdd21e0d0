-- Computed bounds of small terms.
use Prim.Native.Nat.{ℕ}
use mathlib.Core.Path.{◌≡◌, refl}
use mathlib.Core.Bool.{false}
use mathlib.Core.List.{List, [], ◌∷◌}
use lib.ListN.{get_or, length}
use Rattle.theory.specs.Formula.{Entry}
use Rattle.theory.specs.Terms.{Terms}
use Rattle.effort.specs.Effort.{smaller, set_of, sets_of, is_one, rows_of, calls_of, asked_of, more, more_if, is_entry, more_of, policies, count_after, total, brief, effort_of}
use Rattle.memory.specs.TableIndex.{in_free}
use Rattle.sets.specs.Sets.{bit, pack}

abbrev e : (op a b c : ℕ) → Entry
e op a b c = record { op = op; a = a; b = b; c = c }

-- N members, one event, whose policy is entry p.
abbrev terms : (N : ℕ) → List Entry → (p : ℕ) → Terms
terms N es p = record {
  members = N;
  relations = 1;
  events = 1;
  entries = length es;
  entry = λ n. get_or es n (e 0 0 0 0);
  policy = λ j. p;
  effects = λ j. [];
  kept = λ j. false;
}

-- Is the target a friend of a friend? One row of the policy, and one for each member of its operand.
friends_of_friends : effort_of (terms 64 (e 1 0 0 0 ∷ e 4 0 0 0 ∷ e 4 0 1 0 ∷ []) 2) ≡ 65
unfolding smaller set_of sets_of is_one rows_of calls_of asked_of more more_if is_entry more_of policies count_after total brief in_free bit pack
friends_of_friends = refl

-- Its table, which asks for all members: a since of it.
once_a_friend : effort_of (terms 64 (e 1 0 0 0 ∷ e 4 0 0 0 ∷ e 4 0 1 0 ∷ e 7 0 2 0 ∷ []) 3) ≡ 128
unfolding smaller set_of sets_of is_one rows_of calls_of asked_of more more_if is_entry more_of policies count_after total brief in_free bit pack
once_a_friend = refl

-- Three variables, bound in turn, and an entry that reads all three.
abbrev nested : List Entry
nested =
    e 0 0 0 0
    ∷ e 1 1 0 0
    ∷ e 4 0 1 0
    ∷ e 9 1 2 0
    ∷ e 1 2 0 0
    ∷ e 4 0 4 0
    ∷ e 9 2 5 0
    ∷ e 3 3 6 0
    ∷ e 1 3 0 0
    ∷ e 4 0 8 0
    ∷ e 9 3 9 0
    ∷ e 3 7 10 0
    ∷ e 8 3 11 0
    ∷ e 4 0 12 0
    ∷ e 8 2 13 0
    ∷ e 4 0 14 0
    ∷ e 8 1 15 0
    ∷ []

three_variables : effort_of (terms 64 nested 16) ≡ 193218
unfolding smaller set_of sets_of is_one rows_of calls_of asked_of more more_if is_entry more_of policies count_after total brief in_free bit pack
three_variables = refl
