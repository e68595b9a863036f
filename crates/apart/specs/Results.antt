-- The result of a call apart, from two rows of the working space to the closed listing in the result buffer (document 01, section 'Combination').
use Rattle.std.specs.Prelude.{◌≡◌, true, cond, List, ℕ, ◌*◌, ◌≤◌, ◌<◌, length, take, ltb}
use Rattle.label.specs.Labels.{are_arities}
use Rattle.refusal.specs.declared.Refusal.TheVariants.{Pairs, Value, Space}
use Rattle.diagram.specs.Sizes.{most_rows, space_rows, most_pairs, result_words}
use Rattle.diagram.specs.Diagram.{Diagram, Ordered, Reduced}
use Rattle.diagram.specs.Rows.{onto, rows}
use Rattle.diagram.specs.Listing.{listing, Fine}
use Rattle.diagram.specs.Validity.{Valid, tree}
use Rattle.diagram.specs.Inner.{Written}
use Rattle.diagram.specs.Variables.{closed}
use Rattle.apply.specs.declared.Operation.{Operation}
use Rattle.apply.specs.declared.Combined.{Combined}
use Rattle.apply.specs.declared.Combined.TheVariants.{Done, Refused}
use Rattle.apply.specs.Apply.{apply}
use Rattle.apply.specs.Pairs.{pairs, pair_count, overflows}
use Rattle.apply.specs.Combination.{operate, written}
use Rattle.store.specs.Space.{diagrams_of, Holds}
use Rattle.std.specs.Prelude.{Option, Some}

-- what `close_up` requires: the first m rows of the buffer are a listing
pub record Closable (ar out : List ℕ) (m : ℕ) : Type 0 where
  pub valid : Valid ar (take (m * 3) out)
  pub room : m * 3 ≤ length out

-- a good diagram, but for its count of rows
pub record Regular (ar : List ℕ) (d : Diagram) : Type 0 where
  pub arities : are_arities ar ≡ true
  pub ordered : Ordered d
  pub reduced : Reduced d
  pub fine : Fine ar d

-- the diagram d has a row among those of the space, and the answer r names it and their count: there was room
pub record Stands (d : Diagram) (r : Option (ℕ × ℕ)) (s : List ℕ) : Type 0 where
  pub root : ℕ
  pub count : ℕ
  pub answer : r ≡ Some (root, count)
  pub there : root < count
  pub within : count ≤ space_rows
  pub is : tree s root ≡ d
  pub written : Written s (diagrams_of s count)

-- what `write_result` requires: the result is a row of the space, and there is room for its listing
pub record Writable (ar s : List ℕ) (count root : ℕ) (out : List ℕ) : Type 0 where
  pub written : Written s (diagrams_of s count)
  pub words : space_rows * 3 ≤ length s
  pub within : count ≤ space_rows
  pub root-there : root < count
  pub regular : Regular ar (tree s root)
  pub room : result_words ≤ length out

-- what it answers: the rows of the closed result and the pairs, or that the rows are above 1,024 (refusal 9)
unfoldable pub result_answer : List ℕ → Diagram → ℕ → Combined
result_answer ar d p = cond (ltb most_rows (length (rows (closed ar d)))) (Refused Space) (Done (length (rows (closed ar d))) p)

pub record ResultWritten (ar : List ℕ) (d : Diagram) (p : ℕ) (out : List ℕ) (r : Combined) (out' : List ℕ) : Type 0 where
  pub answer : r ≡ result_answer ar d p
  pub words : out' ≡ written r (listing (closed ar d)) out

-- what `join` requires: rows i and j of a space whose rows have labels and values in their ranges
pub record Joinable (ar s heads links : List ℕ) (count i j : ℕ) (out : List ℕ) : Type 0 where
  pub arities : are_arities ar ≡ true
  pub holds : Holds s heads links count
  pub first : i < count
  pub second : j < count
  pub fine : (k : ℕ) → k < count → Fine ar (tree s k)
  pub first-ordered : Ordered (tree s i)
  pub second-ordered : Ordered (tree s j)
  pub room : result_words ≤ length out

-- what it answers, where the rows rs were in the space: pairs (10), value (11), space (9), then the result
unfoldable pub joined_answer : Operation → List ℕ → Diagram → Diagram → List Diagram → Combined
joined_answer op ar a b rs =
    cond (ltb most_pairs (pair_count op a b)) (Refused Pairs)
    (cond (overflows (operate op) (pairs op a b)) (Refused Value)
    (cond (ltb space_rows (length (onto (apply (operate op) a b) rs))) (Refused Space)
    (result_answer ar (apply (operate op) a b) (pair_count op a b))))

pub record JoinedUp (op : Operation) (ar : List ℕ) (a b : Diagram) (rs : List Diagram) (out : List ℕ) (r : Combined) (out' : List ℕ) : Type 0 where
  pub answer : r ≡ joined_answer op ar a b rs
  pub words : out' ≡ written r (listing (closed ar (apply (operate op) a b))) out
