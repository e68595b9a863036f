-- Forming the rows of a plan's entries, one after another (document 01, section 'Combination': every pair forms its reduced diagram).
use Rattle.std.specs.Prelude.{◌≡◌, true, false, cond, List, ℕ, ◌*◌, ◌-◌, ◌≤◌, ◌<◌, length, get_or}
use Rattle.label.specs.Limits.{leaf_mark}
use Rattle.diagram.specs.Diagram.{Diagram, leaf}
use Rattle.diagram.specs.Validity.{tree}
use Rattle.apply.specs.declared.Operation.{Operation}
use Rattle.apply.specs.Combination.{operate}
use Rattle.apply.specs.Apply.{node}
use Rattle.plan.specs.Plan.{pair_label_at, first_at, second_at}
use Rattle.store.specs.Space.{diagrams_of, Holds, add_all}
use Rattle.combine.specs.Callers.{Calm}
use Rattle.combine.specs.Results.{is_end_at, results, exceeds, Sound}

-- what entry k forms, once the last word of each earlier entry is the number of the row that it formed
unfoldable pub entry_at : Operation → List ℕ → List ℕ → ℕ → Diagram
entry_at op ws s k =
    cond (is_end_at ws k) (leaf (operate op (first_at ws k) (second_at ws k)))
    (node (pair_label_at ws k) (tree s (second_at ws (first_at ws k))) (tree s (second_at ws (second_at ws k))))

-- a branch entry's children are rows of the space
pub record ChildRows (ws : List ℕ) (n k rows : ℕ) : Type 0 where
  pub label : pair_label_at ws k < leaf_mark
  pub first : first_at ws k < n
  pub second : second_at ws k < n
  pub high : second_at ws (first_at ws k) < rows
  pub low : second_at ws (second_at ws k) < rows

pub record FormableAt (op : Operation) (ws : List ℕ) (n k rows : ℕ) : Type 0 where
  pub room : n * 5 ≤ length ws
  pub less : k < n
  pub ends : is_end_at ws k ≡ true → Calm op (first_at ws k) (second_at ws k)
  pub branches : is_end_at ws k ≡ false → ChildRows ws n k rows

-- the first k entries of the plan ws₀ were formed in a space that held rs; the plan is ws now, and each formed entry's last word is the number of its row
pub record Forming (op : Operation) (ws₀ : List ℕ) (rs : List Diagram) (ws : List ℕ) (k : ℕ) (s heads links : List ℕ) (rows : ℕ) : Type 0 where
  pub holds : Holds s heads links rows
  pub diagrams : diagrams_of s rows ≡ add_all rs (results (operate op) ws₀ k)
  pub labels : (j : ℕ) → pair_label_at ws j ≡ pair_label_at ws₀ j
  pub firsts : (j : ℕ) → first_at ws j ≡ first_at ws₀ j
  pub ahead : (j : ℕ) → k ≤ j → second_at ws j ≡ second_at ws₀ j
  pub number : (j : ℕ) → j < k → second_at ws j < rows
  pub formed : (j : ℕ) → j < k → tree s (second_at ws j) ≡ get_or (results (operate op) ws₀ k) j (leaf 0)

-- what `form` requires: entries that can be worked on, none of them with a result above 10^18
pub record Formable (op : Operation) (ws : List ℕ) (n : ℕ) : Type 0 where
  pub sound : Sound ws n
  pub calm : exceeds (operate op) ws n ≡ false
  pub some : 0 < n

-- the last of the diagrams
unfoldable pub last_of : List Diagram → Diagram
last_of ds = get_or ds (length ds - 1) (leaf 0)
