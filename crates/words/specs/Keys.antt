-- A name as two numbers: its first eight bytes and the others, the first byte lowest.
use Rattle.std.specs.Prelude.{ℕ, zero, suc, ◌+◌, ◌*◌, ◌/◌, ◌%◌, cond, List, [], ◌∷◌, ◌++◌, eqb, take, drop}
use Rattle.words.specs.declared.Key.{Key}

unfoldable pub little : List ℕ → ℕ
little [] = 0
little (b ∷ s) = b + little s * 256

unfoldable pub key_of : List ℕ → Key
key_of s = record { a = little (take 8 s); b = little (drop 8 s) }

-- the bytes that a number is made of, the first byte lowest and none of them 0; at most `left`
unfoldable pub bytes_within : ℕ → ℕ → List ℕ
bytes_within zero m = []
bytes_within (suc left) m = cond (eqb m 0) [] (m % 256 ∷ bytes_within left (m / 256))

-- the name of a key. A name has at most 15 bytes: its key has the first eight, and the others
unfoldable pub name_of : Key → List ℕ
unfolding bytes_within
name_of k = bytes_within 8 k.a ++ bytes_within 7 k.b
