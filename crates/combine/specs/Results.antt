-- What a plan's entries stand for: the diagrams that its pairs form, worked out from its words.
use Rattle.std.specs.Prelude.{◌≡◌, Bool, true, false, ◌&&◌, ◌||◌, cond, List, [], ◌∷◌, ◌++◌, ℕ, zero, suc, ◌*◌, ◌≤◌, ◌<◌, length, get_or, eqb, ltb}
use Rattle.label.specs.Limits.{leaf_mark}
use Rattle.diagram.specs.Sizes.{highest_value}
use Rattle.diagram.specs.Diagram.{Diagram, leaf}
use Rattle.apply.specs.Apply.{node}
use Rattle.plan.specs.Plan.{pair_label_at, first_at, second_at}

-- entry k is an end
unfoldable pub is_end_at : List ℕ → ℕ → Bool
is_end_at ws k = eqb (pair_label_at ws k) leaf_mark

-- what entry k forms, the results of the entries before it being `done`
unfoldable pub result_at : (ℕ → ℕ → ℕ) → List ℕ → List Diagram → ℕ → Diagram
result_at op ws done k =
    cond (is_end_at ws k) (leaf (op (first_at ws k) (second_at ws k)))
    (node (pair_label_at ws k) (get_or done (first_at ws k) (leaf 0)) (get_or done (second_at ws k) (leaf 0)))

-- what the first n entries form
unfoldable pub results : (ℕ → ℕ → ℕ) → List ℕ → ℕ → List Diagram
results op ws zero = []
results op ws (suc k) = results op ws k ++ (result_at op ws (results op ws k) k ∷ [])

-- some end among the first n entries has a result above 10^18
unfoldable pub exceeds_at : (ℕ → ℕ → ℕ) → List ℕ → ℕ → Bool
exceeds_at op ws k = is_end_at ws k && ltb highest_value (op (first_at ws k) (second_at ws k))

unfoldable pub exceeds : (ℕ → ℕ → ℕ) → List ℕ → ℕ → Bool
exceeds op ws zero = false
exceeds op ws (suc k) = exceeds op ws k || exceeds_at op ws k

-- the first n entries of a plan can be worked on: a branch has earlier entries and a label below a leaf's mark, an end has two values
pub record Sound (ws : List ℕ) (n : ℕ) : Type 0 where
  pub room : n * 5 ≤ length ws
  pub labels : (k : ℕ) → k < n → is_end_at ws k ≡ false → pair_label_at ws k < leaf_mark
  pub firsts : (k : ℕ) → k < n → is_end_at ws k ≡ false → first_at ws k < k
  pub seconds : (k : ℕ) → k < n → is_end_at ws k ≡ false → second_at ws k < k
  pub values : (k : ℕ) → k < n → is_end_at ws k ≡ true → (first_at ws k ≤ highest_value) × (second_at ws k ≤ highest_value)

-- and k is one of them
pub record SoundAt (ws : List ℕ) (n k : ℕ) : Type 0 where
  pub sound : Sound ws n
  pub less : k < n
