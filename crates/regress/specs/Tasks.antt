-- The rows of a lent listing as tasks: a leaf to be formed, or the row step of a label (document 01, section 'Regression').
use Rattle.std.specs.Prelude.{◌≡◌, ◌≢◌, true, cond, List, ℕ, ◌+◌, ◌*◌, ◌≤◌, ◌<◌, length, get_or, take, eqb}
use Rattle.refusal.specs.declared.Refusal.TheVariants.{Space}
use Rattle.label.specs.Limits.{leaf_mark, term_end}
use Rattle.label.specs.Terms.{is_term}
use Rattle.label.specs.Labels.{are_arities, places_of, is_label, terms_of, unpacked}
use Rattle.label.specs.Inner.{map_of}
use Rattle.label.specs.Renamings.{moved}
use Rattle.label.specs.Callers.{TermMap}
use Rattle.label.specs.declared.Atom.{Atom}
use Rattle.diagram.specs.Sizes.{highest_value, space_rows}
use Rattle.diagram.specs.Diagram.{Diagram, leaf}
use Rattle.diagram.specs.Words.{label_at, high_at, low_at, is_listing}
use Rattle.diagram.specs.Validity.{tree}
use Rattle.regression.specs.Calls.{Run, pure, bind, form}
use Rattle.regression.specs.Step.{test_diagram, row_step}
use Rattle.regression.specs.Regression.{argument}
use Rattle.regress.specs.declared.Task.{Task}
use Rattle.regress.specs.declared.Task.TheVariants.{Leaf, Branch}
use Rattle.refusal.specs.declared.Refusal.{Refusal}
use Rattle.std.specs.Prelude.{Err, None, Ok, Option, Result, Some}

-- row k of the listing ws, where `numbers` has the rows of the results of the rows before it
unfoldable pub task_at : List ℕ → List ℕ → ℕ → Task
task_at ws numbers k =
    cond (eqb (label_at ws k) leaf_mark) (Leaf (high_at ws k)) (Branch (label_at ws k) (get_or numbers (high_at ws k) 0) (get_or numbers (low_at ws k) 0))

-- what reading it requires
pub record Taskable (ws numbers : List ℕ) (k : ℕ) : Type 0 where
  pub room : k * 3 + 3 ≤ length ws
  pub high : label_at ws k ≢ leaf_mark → high_at ws k < length numbers
  pub low : label_at ws k ≢ leaf_mark → low_at ws k < length numbers

-- the step of a task in a space, T given for its label
abbrev pub task_run : (ℕ → Run Diagram) → List ℕ → Task → Run Diagram
task_run T s (Leaf v) = form (leaf v)
task_run T s (Branch l h w) = bind (T l) (λ x. row_step x (tree s h) (tree s w))

-- a task of a listing in a space of count rows
pub record Tasked (ar : List ℕ) (count : ℕ) (t : Task) : Type 0 where
  pub value : (v : ℕ) → t ≡ Leaf v → v ≤ highest_value
  pub label : (l h w : ℕ) → t ≡ Branch l h w → (is_label ar l ≡ true) × (h < count) × (w < count)

-- T of a replacement by a map of terms: the test of the new label
abbrev pub replaced_by : List ℕ → List ℕ → ℕ → Run Diagram
replaced_by ar map l = pure (test_diagram (moved ar (map_of map) l))

-- a map that turns terms into terms
pub record Mapping (ar map : List ℕ) : Type 0 where
  pub arities : are_arities ar ≡ true
  pub terms : TermMap map
  pub keeps : (t : ℕ) → is_term t ≡ true → is_term (map_of map t) ≡ true

-- the answer of forming, as that of a step
abbrev pub told_as : Option (ℕ × ℕ) → Result (ℕ × ℕ) (Refusal × ℕ)
told_as (Some (i, n)) = Ok (i, n)
told_as None = Err (Space, space_rows)

-- a truth diagram's listing, and the label that it is used at
pub record Usable (ar ws : List ℕ) (l : ℕ) : Type 0 where
  pub listing : is_listing ar ws ≡ true
  pub label : is_label ar l ≡ true

-- the used places of an atom of arity n
abbrev pub used_places : ℕ → Atom → List ℕ
used_places n a = take n (places_of a)

-- what writing the map of a label's arguments requires
pub record Arguable (ar : List ℕ) (l : ℕ) (map : List ℕ) : Type 0 where
  pub arities : are_arities ar ≡ true
  pub label : is_label ar l ≡ true
  pub room : length map ≡ term_end

-- the map has for each term what replaces it, where the arguments become the terms of l
pub record Argued (ar : List ℕ) (l : ℕ) (map : List ℕ) : Type 0 where
  pub whole : length map ≡ term_end
  pub each : (t : ℕ) → t < term_end → get_or map t 0 ≡ argument (terms_of ar (unpacked l)) t
