-- The tables of words, and the number of a word: its place in the table.
use Rattle.std.specs.Prelude.{ℕ, suc, ◌+◌, List, [], ◌∷◌, Bool, true, cond, not, ◌&&◌, ltb}
use Rattle.fields.specs.Split.{alike}

-- docs/SCOPE.md, Meaning: the words in the order of their numbers.
unfoldable pub operator_words : List (List ℕ)
operator_words =
    (116 ∷ 111 ∷ 112 ∷ [])  -- top
    ∷ (118 ∷ 97 ∷ 114 ∷ [])  -- var
    ∷ (110 ∷ 111 ∷ 116 ∷ [])  -- not
    ∷ (111 ∷ 114 ∷ [])  -- or
    ∷ (111 ∷ 117 ∷ 116 ∷ [])  -- out
    ∷ (105 ∷ 110 ∷ [])  -- in
    ∷ (112 ∷ 114 ∷ 101 ∷ 118 ∷ [])  -- prev
    ∷ (115 ∷ 105 ∷ 110 ∷ 99 ∷ 101 ∷ [])  -- since
    ∷ (98 ∷ 105 ∷ 110 ∷ 100 ∷ [])  -- bind
    ∷ (97 ∷ 116 ∷ [])  -- at
    ∷ (114 ∷ 101 ∷ 97 ∷ 99 ∷ 104 ∷ [])  -- reach
    ∷ (109 ∷ 97 ∷ 110 ∷ 121 ∷ [])  -- many
    ∷ []

unfoldable pub action_words : List (List ℕ)
action_words =
    (97 ∷ 100 ∷ 100 ∷ [])  -- add
    ∷ (100 ∷ 101 ∷ 108 ∷ [])  -- del
    ∷ []

unfoldable pub direction_words : List (List ℕ)
direction_words =
    (102 ∷ 119 ∷ 100 ∷ [])  -- fwd
    ∷ (98 ∷ 97 ∷ 99 ∷ 107 ∷ [])  -- back
    ∷ []

-- The kinds of lines: M to G in the order in which they come, then those that only the stored form has, then K.
unfoldable pub kind_words : List (List ℕ)
kind_words =
    (77 ∷ [])  -- M
    ∷ (76 ∷ [])  -- L
    ∷ (70 ∷ [])  -- F
    ∷ (80 ∷ [])  -- P
    ∷ (69 ∷ [])  -- E
    ∷ (71 ∷ [])  -- G
    ∷ (83 ∷ [])  -- S
    ∷ (84 ∷ [])  -- T
    ∷ (86 ∷ [])  -- V
    ∷ (75 ∷ [])  -- K
    ∷ []

-- The place, counted from k, of the first word that f is; the place after the last where f is none of them.
unfoldable pub index_from : ℕ → List (List ℕ) → List ℕ → ℕ
index_from k [] f = k
index_from k (w ∷ ws) f = cond (alike f w) k (index_from (suc k) ws f)

abbrev pub index_of : List (List ℕ) → List ℕ → ℕ
index_of ws f = index_from 0 ws f

unfoldable pub operator_of : List ℕ → ℕ
operator_of f = index_of operator_words f

-- docs/SCOPE.md, Memory: 0 none, 1 add, 2 del.
unfoldable pub action_of : List ℕ → ℕ
action_of f = cond (ltb (index_of action_words f) 2) (index_of action_words f + 1) 0

-- docs/SCOPE.md, Memory: 0 fwd, 1 back.
unfoldable pub direction_of : List ℕ → ℕ
direction_of f = index_of direction_words f

unfoldable pub kind_of : List ℕ → ℕ
kind_of f = index_of kind_words f

-- ---- a table serves both ways where its words are pairwise different

-- Whether w is none of the words.
unfoldable pub absent : List ℕ → List (List ℕ) → Bool
absent w [] = true
absent w (v ∷ vs) = not (alike v w) && absent w vs

-- Whether the words are pairwise different.
unfoldable pub distinct : List (List ℕ) → Bool
distinct [] = true
distinct (w ∷ ws) = absent w ws && distinct ws
