-- Letters, digits, runs of bytes of a kind, and the value of a row of digits (document 01, section 'Text').
use Rattle.std.specs.Prelude.{ℕ, suc, ◌+◌, ◌*◌, ◌-◌, min, List, [], ◌∷◌, Bool, ◌&&◌, ◌||◌, cond, leb}

-- 'lower-case letters': a to z
unfoldable pub is_letter : ℕ → Bool
is_letter b = leb 97 b && leb b 122

-- 'digits': 0 to 9
unfoldable pub is_digit : ℕ → Bool
is_digit b = leb 48 b && leb b 57

-- 'lower-case letters or digits'
unfoldable pub is_name_byte : ℕ → Bool
is_name_byte b = is_letter b || is_digit b

-- how many bytes of the kind p the list begins with
unfoldable pub run : (ℕ → Bool) → List ℕ → ℕ
run p [] = 0
run p (b ∷ s) = cond (p b) (suc (run p s)) 0

-- the number that digits write, after a number v
unfoldable pub decimal_from : ℕ → List ℕ → ℕ
decimal_from v [] = v
decimal_from v (b ∷ s) = decimal_from (v * 10 + (b - 48)) s

-- 'Whole numbers are decimal'
unfoldable pub decimal : List ℕ → ℕ
decimal s = decimal_from 0 s

-- one more than the highest value of a leaf, 10^18
abbrev pub over : ℕ
over = 1000000000000000001

-- the number that digits write, held at 10^18 + 1: every number of a text is compared with 10^18 at most
unfoldable pub value_of : List ℕ → ℕ
value_of s = min over (decimal s)
