-- Keys of names in a flat list of words, and the place of a key among keys. Two names are the same where their keys are
-- (words KeyLaws, `name-key`).
use Rattle.std.specs.Prelude.{ℕ, suc, ◌+◌, ◌*◌, List, [], ◌∷◌, Bool, cond, ◌&&◌, eqb, ltb, length, get_or}
use Rattle.words.specs.declared.Key.{Key}
use Rattle.names.specs.Many.{many}

unfoldable pub same_key : Key → Key → Bool
same_key x y = eqb x.a y.a && eqb x.b y.b

-- key i of the table that begins at base
unfoldable pub key_at : List ℕ → ℕ → ℕ → Key
key_at s base i = record { a = get_or s (base + i * 2) 0; b = get_or s (base + i * 2 + 1) 0 }

-- its first n keys
unfoldable pub keys_at : List ℕ → ℕ → ℕ → List Key
keys_at s base n = many (key_at s base) n

-- the place of the first key equal to k, or the length of the list
unfoldable pub place_of : Key → List Key → ℕ
place_of k [] = 0
place_of k (x ∷ xs) = cond (same_key x k) 0 (suc (place_of k xs))

-- whether k is one of the keys
unfoldable pub is_among : Key → List Key → Bool
is_among k xs = ltb (place_of k xs) (length xs)
