-- How a table with two columns is renumbered, row by row. Row d is that of members a = d / 16 and b = d % 16: quarter d
-- % 4 of word d / 4, with a bit for each c.
use Rattle.std.specs.Prelude.{ℕ, ◌+◌, ◌*◌, ◌/◌, ◌%◌, ◌<◌, ◌≡◌, Bool, true, false, ◌&&◌, List, [], ◌∷◌, eqb, length, get_or}
use Rattle.sets.specs.Sets.{any_below, bit}
use Rattle.theory.specs.Columns.{pair_word, pair_bit}
use Rattle.theory.specs.Limits.{pair_members, max_relations}
use Rattle.theory.specs.Terms.{Terms}
use Rattle.memory.specs.Layout.{block_words, table_columns}

-- The numbers of so few members are below 16.
abbrev pub Few : (p : ℕ → ℕ) → Type 0
Few p = (m : ℕ) → m < pair_members → p m < pair_members

-- Row d of a table whose words are ws has a bit that goes to bit k of word j.
abbrev pub goes_to : (p : ℕ → ℕ) → (ws : ℕ → ℕ) → (d j k : ℕ) → Bool
goes_to p ws d j k =
    eqb j (pair_word (p (d / 16)) (p (d % 16)))
    && any_below 16 (λ c. bit (ws (d / 4)) (16 * (d % 4) + c) && eqb k (pair_bit (p (d % 16)) (p c)))

-- The first n rows have gone to their places, and nothing else is there.
pub record Gone (p : ℕ → ℕ) (ws : ℕ → ℕ) (into : List ℕ) (n : ℕ) : Type 0 where
  pub long : length into ≡ block_words
  pub bits : (j k : ℕ) → bit (get_or into j 0) k ≡ any_below n (λ d. goes_to p ws d j k)

-- There are two columns.
abbrev pub is_two : List ℕ → Bool
is_two [] = false
is_two (x ∷ []) = false
is_two (x ∷ y ∷ zs) = true

-- Block b of a state is one of its first s tables, and has two columns. The blocks of 16 relations come first.
unfoldable pub is_pairs : (T : Terms) → (s b : ℕ) → Bool
is_pairs T s b = any_below s (λ t. eqb b (max_relations + t) && is_two (table_columns T t))
