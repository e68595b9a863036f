-- A table: what a function of the place answers for the places 0, 1, .. n - 1.
use Rattle.std.specs.Prelude.{ℕ, zero, suc, List, [], ◌∷◌, ◌++◌}

unfoldable pub many : {A : Type 0} → (ℕ → A) → ℕ → List A
many f zero = []
many f (suc n) = many f n ++ (f n ∷ [])
