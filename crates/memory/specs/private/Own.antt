-- The tests of `good_state` that look at a bank's own words, by the words of its own: what the private
-- functions of the check answer.
use Rattle.std.specs.Prelude.{ℕ, ◌+◌, ◌*◌, Bool, List, [], ◌∷◌, ltb, get_or}
use Rattle.sets.specs.Sets.{all_below}
use Rattle.theory.specs.Formula.{number, is_past}
use Rattle.theory.specs.Terms.{Terms, formula, tables}
use Rattle.theory.specs.Fit.{◌⇒◌, every, closed}
use Rattle.theory.specs.Limits.{max_members, max_tables}
use Rattle.memory.specs.Layout.{block_words, table_columns}
use Rattle.memory.specs.Checks.{table_fits, level, good_event}

abbrev pub own_tests : Terms → List ℕ → List Bool
own_tests T w =
    all_below max_tables (λ t. all_below max_members (λ a. table_fits T.members (table_columns T t) (ltb t (tables T)) a (get_or w (block_words * t + a) 0)))
    ∷ all_below T.entries (λ n. is_past (T.entry n).op ⇒ (closed (formula T n) ⇒
    all_below max_members (λ a. level T.members (get_or w (block_words * number T.entry n + a) 0))))
    ∷ good_event T (get_or w 2048 0)
    ∷ []

unfoldable pub good_own : Terms → List ℕ → Bool
good_own T w = every (own_tests T w)
