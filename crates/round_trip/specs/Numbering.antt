-- Numbers ascending, each once: how the N of a reward's variables are placed (document 02, L2: 'the reader numbers them by ascending N'). Which variables are written
-- with their N, and how the reader sorts them, stands in reading Numbering; PlaceLaws ties the two.
use Rattle.std.specs.Prelude.{Bool, true, ◌&&◌, cond, List, [], ◌∷◌, ℕ, eqb, ltb}

abbrev pub every : (List ℕ → Bool) → List (List ℕ) → Bool
every p [] = true
every p (n ∷ ns) = p n && every p ns

unfoldable pub inserted : ℕ → List ℕ → List ℕ
inserted x [] = x ∷ []
inserted x (y ∷ ys) = cond (ltb x y) (x ∷ y ∷ ys) (cond (eqb x y) (y ∷ ys) (y ∷ inserted x ys))

unfoldable pub sorted : List ℕ → List ℕ
unfolding inserted
sorted [] = []
sorted (x ∷ xs) = inserted x (sorted xs)
