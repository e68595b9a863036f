-- What the public calls of a combination have established once their listings and buffers are checked, and what they still owe
-- (document 01, section 'Combination').
use Rattle.std.specs.Prelude.{◌≡◌, List, ℕ, ◌≤◌, length}
use Rattle.diagram.specs.Sizes.{result_words, space_words}
use Rattle.diagram.specs.Listing.{listing, diagram_of}
use Rattle.diagram.specs.Validity.{Valid}
use Rattle.apply.specs.declared.Operation.{Operation}
use Rattle.apply.specs.declared.Names.{Names}
use Rattle.apply.specs.declared.Combined.{Combined}
use Rattle.apply.specs.Combination.{combination, diagram_answer, written}

-- the pairs that room is first made for
abbrev pub few : ℕ
few = 320

-- two listings, and room for a result and for the rows formed
pub record Callable (ar x y out work : List ℕ) : Type 0 where
  pub first : Valid ar x
  pub second : Valid ar y
  pub out-room : result_words ≤ length out
  pub work-room : space_words ≤ length work

-- the answer, and the result buffer then
pub record CombineAnswered (op : Operation) (names : Names) (ar x y out : List ℕ) (r : Combined) (out' : List ℕ) : Type 0 where
  pub answer : r ≡ diagram_answer op names ar (diagram_of x) (diagram_of y)
  pub words : out' ≡ written r (listing (combination op names ar (diagram_of x) (diagram_of y))) out
