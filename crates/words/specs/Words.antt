-- What a name and a number are, and how they are read (document 01, section 'Text').
use Rattle.std.specs.Prelude.{ℕ, ◌≤◌, ◌<◌, ◌≡◌, List, true, ◌&&◌, ◌||◌, cond, not, ltb, eqb, get_or, length}
use Rattle.words.specs.Bytes.{is_letter, is_digit, is_name_byte, run}
use Rattle.std.specs.Prelude.{None, Option, Some}

-- 'A name has 1 to 15 lower-case letters or digits, a letter first'
abbrev pub IsName : List ℕ → Type 0
IsName n = (is_letter (get_or n 0 0) ≡ true) × (run is_name_byte n ≡ length n) × (length n ≤ 15)

-- 'Whole numbers are decimal without leading zeros': one digit at least, and no 0 before another
abbrev pub IsNumber : List ℕ → Type 0
IsNumber n = (0 < length n) × (run is_digit n ≡ length n) × ((not (eqb (get_or n 0 0) 48) || eqb (length n) 1) ≡ true)

-- the number that the bytes begin with
unfoldable pub number_form : List ℕ → Option ℕ
number_form s =
    cond (ltb 0 (run is_digit s) && (not (eqb (get_or s 0 0) 48) || eqb (run is_digit s) 1)) (Some (run is_digit s)) None
