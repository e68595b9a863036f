-- Lists of terms in ascending order, as the variables of a diagram are (document 01, section 'Combination').
use Rattle.std.specs.Prelude.{List, [], ◌∷◌, ℕ, zero, suc, ◌≤◌}

-- every number of the list is in P
abbrev pub All : (ℕ → Type 0) → List ℕ → Type 0
All P [] = Unit {0}
All P (x ∷ xs) = P x × All P xs

-- every number is at least n, and each greater than the one before it
abbrev pub Ascending : ℕ → List ℕ → Type 0
Ascending n [] = Unit {0}
Ascending n (x ∷ xs) = (n ≤ x) × Ascending (suc x) xs

-- m, m + 1, .., m + n - 1
abbrev pub consecutive : ℕ → ℕ → List ℕ
consecutive m zero = []
consecutive m (suc n) = m ∷ consecutive (suc m) n
