-- What contracts of inner functions and proofs cite. Nothing here has to be believed.
use Rattle.std.specs.Prelude.{List, ℕ, ◌+◌, set}
use Rattle.words.specs.declared.Key.{Key}

-- the words with the key k written at the word i
unfoldable pub put_key : List ℕ → ℕ → Key → List ℕ
put_key s i k = set (set s i k.a) (i + 1) k.b
