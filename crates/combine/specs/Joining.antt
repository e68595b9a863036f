-- One combination in a working space: what it answers and what the space holds then (document 01, section 'Combination': pairs, value, space).
use Rattle.std.specs.Prelude.{◌≡◌, cond, List, ℕ, length, take, ltb}
use Rattle.diagram.specs.Sizes.{space_rows}
use Rattle.diagram.specs.Diagram.{Diagram}
use Rattle.diagram.specs.Rows.{onto}
use Rattle.diagram.specs.Listing.{index}
use Rattle.apply.specs.declared.Operation.{Operation}
use Rattle.apply.specs.Combination.{operate}
use Rattle.apply.specs.Apply.{apply}
use Rattle.apply.specs.Pairs.{pairs, pair_count, overflows}
use Rattle.plan.specs.Plan.{Clean}
use Rattle.store.specs.Space.{diagrams_of, Holds, Formation, add_all}
use Rattle.combine.specs.Results.{results}
use Rattle.combine.specs.Forming.{last_of}
use Rattle.combine.specs.declared.Joined.{Joined}
use Rattle.combine.specs.declared.Joined.TheVariants.{At, TooManyPairs, TooHighValue, NoRoom}
use Rattle.std.specs.Prelude.{None, Option, Some}

-- the rows after a combination of a and b in a space that holds rs
abbrev pub rows_after : Operation → Diagram → Diagram → List Diagram → List Diagram
rows_after op a b rs = onto (apply (operate op) a b) rs

-- the result's row, the rows then, the pairs; or pairs above the limit, then a leaf pair above 10^18, then no room
unfoldable pub join_answer : Operation → ℕ → Diagram → Diagram → List Diagram → Joined
join_answer op limit a b rs =
    cond (ltb limit (pair_count op a b)) TooManyPairs
    (cond (overflows (operate op) (pairs op a b)) TooHighValue
    (cond (ltb space_rows (length (rows_after op a b rs))) NoRoom
    (At (index (apply (operate op) a b) (rows_after op a b rs)) (length (rows_after op a b rs)) (pair_count op a b))))

-- the rows in the space after an answer, of which there were n
abbrev pub count_after : ℕ → Joined → ℕ
count_after n (At i m p) = m
count_after n TooManyPairs = n
count_after n TooHighValue = n
count_after n NoRoom = space_rows

abbrev pub diagrams_after : Operation → Diagram → Diagram → List Diagram → Joined → List Diagram
diagrams_after op a b rs (At i m p) = rows_after op a b rs
diagrams_after op a b rs TooManyPairs = rs
diagrams_after op a b rs TooHighValue = rs
diagrams_after op a b rs NoRoom = take space_rows (rows_after op a b rs)

pub record Joint (op : Operation) (limit : ℕ) (a b : Diagram) (s₀ : List ℕ) (count : ℕ) (r : Joined) (s heads links index : List ℕ) : Type 0 where
  pub answer : r ≡ join_answer op limit a b (diagrams_of s₀ count)
  pub clean : Clean index
  pub holds : Holds s heads links (count_after count r)
  pub diagrams : diagrams_of s (count_after count r) ≡ diagrams_after op a b (diagrams_of s₀ count) r

-- what forming the rows of a plan of n pairs ensures
abbrev pub joined_as : ℕ → Option (ℕ × ℕ) → Joined
joined_as n (Some (i, m)) = At i m n
joined_as n None = NoRoom

pub record FormedAll (op : Operation) (ws : List ℕ) (n : ℕ) (s₀ : List ℕ) (count : ℕ) (r : Joined) (s heads links : List ℕ) : Type 0 where
  pub made : Option (ℕ × ℕ)
  pub answer : r ≡ joined_as n made
  pub formation : Formation (last_of (results (operate op) ws n)) (add_all (diagrams_of s₀ count) (results (operate op) ws n)) made s heads links
