-- A number field, its value, and the digits of a number (docs/SCOPE.md, The terms file: decimal, 1 to 5
-- digits, leading zeros among them).
use Rattle.std.specs.Prelude.{ℕ, zero, suc, ◌+◌, ◌-◌, ◌*◌, ◌/◌, ◌%◌, List, [], ◌∷◌, ◌++◌, Bool, true, cond, Option, Some, None, ◌&&◌, eqb, leb, ltb, length, get_or}

unfoldable pub is_digit : ℕ → Bool
is_digit d = leb 48 d && leb d 57

unfoldable pub all_digits : List ℕ → Bool
all_digits [] = true
all_digits (d ∷ ds) = is_digit d && all_digits ds

unfoldable pub is_number : List ℕ → Bool
is_number f = ltb 0 (length f) && (leb (length f) 5 && all_digits f)

-- The value of digits that follow a value v.
unfoldable pub value_from : ℕ → List ℕ → ℕ
value_from v [] = v
value_from v (d ∷ ds) = value_from (v * 10 + (d - 48)) ds

unfoldable pub value_of : List ℕ → ℕ
value_of f = value_from 0 f

-- What a field is as a number.
unfoldable pub number_of : List ℕ → Option ℕ
number_of f = cond (is_number f) (Some (value_of f)) None

-- The digits of a number, of which there are at most k.
unfoldable pub digits_in : ℕ → ℕ → List ℕ
digits_in zero n = []
digits_in (suc k) n = cond (ltb n 10) ((48 + n) ∷ []) (digits_in k (n / 10) ++ ((48 + n % 10) ∷ []))

unfoldable pub digits : ℕ → List ℕ
digits n = digits_in 5 n

-- A zero before other digits.
unfoldable pub padded : List ℕ → Bool
padded f = ltb 1 (length f) && eqb (get_or f 0 0) 48

-- A number field's normal form: the digits of its value.
abbrev pub normal : List ℕ → List ℕ
normal f = digits (value_of f)
