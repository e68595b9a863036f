-- Sets of variables as one word, and choices of objects for them as one number: what the code keeps of a table's names.
use Rattle.std.specs.Prelude.{cond, List, [], ◌∷◌, ℕ, zero, suc, ◌+◌, ◌*◌, ◌/◌, ◌%◌, get_or, set, eqb}
use Rattle.label.specs.Limits.{first_variable, variable_count}

-- the variables of the set m, ascending: bit i is variable v + i, for the first k of them
unfoldable pub names_from : ℕ → ℕ → ℕ → List ℕ
names_from zero v m = []
names_from (suc k) v m = cond (eqb (m % 2) 1) (v ∷ names_from k (suc v) (m / 2)) (names_from k (suc v) (m / 2))

unfoldable pub names_of : ℕ → List ℕ
names_of m = names_from variable_count first_variable m

-- the objects of terms, a word for each
abbrev pub env_of : List ℕ → ℕ → ℕ
env_of env t = get_or env t 0

-- the place of a choice: its objects are digits in base n, the first variable's the lowest
unfoldable pub place_of : ℕ → List ℕ → (ℕ → ℕ) → ℕ
place_of n [] θ = 0
place_of n (v ∷ vs) θ = θ v + n * place_of n vs θ

-- the choice with the place c
unfoldable pub decoded : ℕ → List ℕ → ℕ → List ℕ → List ℕ
decoded n [] c env = env
decoded n (v ∷ vs) c env = decoded n vs (c / n) (set env v (c % n))
