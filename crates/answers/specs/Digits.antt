-- Numbers as bytes (document 01, section 'Text': 'Whole numbers are decimal without leading zeros').
use Rattle.std.specs.Prelude.{ℕ, zero, suc, ◌+◌, ◌/◌, ◌%◌, cond, List, [], ◌∷◌, ◌++◌, leb}

-- the digits of v, the lowest one split off as long as there are more; at most `left` digits
unfoldable pub digits_within : ℕ → ℕ → List ℕ
digits_within zero v = []
digits_within (suc left) v = cond (leb v 9) ((v + 48) ∷ []) (digits_within left (v / 10) ++ ((v % 10 + 48) ∷ []))

-- no number has more digits than it counts, and 0 has one: they read back as v (`digits-read`) and are a number of the text (`digits_number`)
unfoldable pub digits : ℕ → List ℕ
unfolding digits_within
digits v = digits_within (suc v) v
