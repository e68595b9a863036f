-- A shared combination in an empty working space.
use Rattle.std.specs.Prelude.{◌≡◌, List, [], ℕ, ◌≤◌, length}
use Rattle.diagram.specs.Sizes.{space_words}
use Rattle.diagram.specs.Listing.{diagram_of}
use Rattle.diagram.specs.Validity.{Valid}
use Rattle.apply.specs.declared.Operation.{Operation}
use Rattle.store.specs.Space.{diagrams_of, Holds}
use Rattle.combine.specs.Joining.{join_answer, count_after, diagrams_after}
use Rattle.combine.specs.declared.Joined.{Joined}

-- two listings, and a working space
pub record Operands (ar x y work : List ℕ) : Type 0 where
  pub first : Valid ar x
  pub second : Valid ar y
  pub room : space_words ≤ length work

-- what a combination with room for `limit` pairs answers, and what the space holds then
pub record SharedIn (op : Operation) (limit : ℕ) (x y work : List ℕ) (r : Joined) (s : List ℕ) : Type 0 where
  pub answer : r ≡ join_answer op limit (diagram_of x) (diagram_of y) []
  pub heads : List ℕ
  pub links : List ℕ
  pub holds : Holds s heads links (count_after 0 r)
  pub diagrams : diagrams_of s (count_after 0 r) ≡ diagrams_after op (diagram_of x) (diagram_of y) [] r
