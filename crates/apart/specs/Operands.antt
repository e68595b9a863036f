-- The operands of a call apart (document 01, section 'Combination': "the first operand is closed up, the second's variables follow after", "an apart call
-- forms both operands' rows as renamed"; document 02, L12: "sum, product and max done apart move the second's minimum variables aside too").
use Rattle.std.specs.Prelude.{◌≡◌, cond, ◌||◌, List, ℕ, ◌+◌, ◌≤◌, length, ltb}
use Rattle.label.specs.Limits.{first_variable, variable_count, first_minimum, minimum_count}
use Rattle.diagram.specs.Sizes.{most_rows}
use Rattle.diagram.specs.Listing.{diagram_of}
use Rattle.diagram.specs.Validity.{Valid}
use Rattle.diagram.specs.Variables.{variables, minimums}
use Rattle.listing.specs.Used.{Used, marked_variables, marked_minimums}
use Rattle.rename.specs.Inner.{KindsFit}
use Rattle.store.specs.Space.{Holds}
use Rattle.combine.specs.Calls.{Callable}
use Rattle.std.specs.Prelude.{None, Option, Some}

-- what `enter` requires: a listing with its terms marked, numbers among their kind for its variables from `first` on and its minimum variables from `minimum` on,
-- a place for the number of each row, and a space
pub record Enterable (ar ws used : List ℕ) (first minimum : ℕ) (s heads links : List ℕ) (count : ℕ) (numbers : List ℕ) : Type 0 where
  pub valid : Valid ar ws
  pub marks : Used ar (diagram_of ws) used
  pub fit : KindsFit ar first minimum (diagram_of ws)
  pub places : most_rows ≤ length numbers
  pub holds : Holds s heads links count

-- where the second operand's variables of each kind begin; "8 judges each kind by itself"
unfoldable pub aside_of : List ℕ → List ℕ → Option (ℕ × ℕ)
aside_of used_x used_y =
    cond (ltb variable_count (marked_variables used_x + marked_variables used_y) || ltb minimum_count (marked_minimums used_x + marked_minimums used_y)) None
    (Some ((first_variable + marked_variables used_x), (first_minimum + marked_minimums used_x)))

-- what `combine_moved` requires: a call whose operands have their terms marked and 64 variables of each kind together at most, the second's from `first` and `minimum` on
pub record Separable (ar x y used_x used_y : List ℕ) (first minimum : ℕ) (out work : List ℕ) : Type 0 where
  pub call : Callable ar x y out work
  pub first_marks : Used ar (diagram_of x) used_x
  pub second-marks : Used ar (diagram_of y) used_y
  pub few : length (variables ar (diagram_of x)) + length (variables ar (diagram_of y)) ≤ variable_count
  pub few-minimums : length (minimums ar (diagram_of x)) + length (minimums ar (diagram_of y)) ≤ minimum_count
  pub first-is : first ≡ first_variable + length (variables ar (diagram_of x))
  pub minimum-is : minimum ≡ first_minimum + length (minimums ar (diagram_of x))
