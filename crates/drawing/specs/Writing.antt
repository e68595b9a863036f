-- What building a line's diagram answers and writes (document 01, sections 'Text' and 'Refusals by trade word').
use Rattle.std.specs.Prelude.{◌≡◌, true, List, [], ℕ, ◌+◌, ◌*◌, ◌≤◌, ◌<◌, length, get_or}
use Rattle.label.specs.Limits.{leaf_mark}
use Rattle.label.specs.Labels.{are_arities, is_label}
use Rattle.diagram.specs.Sizes.{highest_value, result_words, space_words, space_rows, most_pairs}
use Rattle.diagram.specs.Diagram.{Diagram}
use Rattle.diagram.specs.Rows.{rows}
use Rattle.diagram.specs.Inner.{Written}
use Rattle.diagram.specs.Validity.{tree}
use Rattle.store.specs.Space.{diagrams_of}
use Rattle.refusal.specs.declared.Refusal.{Refusal}
use Rattle.refusal.specs.Outcome.{Outcome, ok, refused}
use Rattle.regression.specs.RegressCall.{written_as}
use Rattle.reading.specs.Operations.{Op}
use Rattle.row_steps.specs.Running.{Final}
use Rattle.build.specs.Machine.{build}
use Rattle.drawing.specs.Stacks.{Ops}
use Rattle.std.specs.Prelude.{Err, Ok, Result}

-- the first n operations of the words: values up to 10^18, labels below a leaf's mark; and room for a result and for the rows formed
pub record Buildable (ops : List ℕ) (n : ℕ) (out work : List ℕ) : Type 0 where
  pub words : n * 2 ≤ length ops
  pub values : (k : ℕ) → k < n → get_or ops (k * 2) 0 ≡ 0 → get_or ops (k * 2 + 1) 0 ≤ highest_value
  pub labels : (k : ℕ) → k < n → get_or ops (k * 2) 0 ≡ 1 → get_or ops (k * 2 + 1) 0 < leaf_mark
  pub out-room : result_words ≤ length out
  pub work-room : space_words ≤ length work

-- each label that they ask is one under the arity list
pub record Labelled (ar ops : List ℕ) (n : ℕ) : Type 0 where
  pub arities : are_arities ar ≡ true
  pub labels : (k : ℕ) → k < n → get_or ops (k * 2) 0 ≡ 1 → is_label ar (get_or ops (k * 2 + 1) 0) ≡ true

-- the same of words that hold nothing else
pub record Callable (ops out work : List ℕ) : Type 0 where
  pub good : Ops ops
  pub out-room : result_words ≤ length out
  pub work-room : space_words ≤ length work

pub record Under (ar ops : List ℕ) : Type 0 where
  pub arities : are_arities ar ≡ true
  pub labels : (k : ℕ) → k * 2 + 2 ≤ length ops → get_or ops (k * 2) 0 ≡ 1 → is_label ar (get_or ops (k * 2 + 1) 0) ≡ true

abbrev pub built_as : Outcome Diagram → Result ℕ Refusal
built_as (ok d) = Ok (length (rows d))
built_as (refused w) = Err w

-- the answer, and the result buffer then: words behind a result stay, and a refusal changes none
pub record BuildAnswered (o : Outcome Diagram) (out : List ℕ) (r : Result ℕ Refusal) (out' : List ℕ) : Type 0 where
  pub answer : r ≡ built_as o
  pub words : out' ≡ written_as o out

-- what writing a row of the space requires
pub record RowWritable (s : List ℕ) (count root : ℕ) (out : List ℕ) : Type 0 where
  pub written : Written s (diagrams_of s count)
  pub space-words : space_rows * 3 ≤ length s
  pub within : count ≤ space_rows
  pub there : root < count
  pub room : result_words ≤ length out

-- what building in the working space requires: a plan with room for `limit` pairs, and room for the rows formed
pub record Roomy (plan : List ℕ) (limit : ℕ) (work : List ℕ) : Type 0 where
  pub words : limit * 5 ≤ length plan
  pub most : limit ≤ most_pairs
  pub work-room : space_words ≤ length work

-- the operations build the row `root` of a space of count rows
pub record BuiltRow (os : List Op) (s : List ℕ) (count root : ℕ) : Type 0 where
  pub written : Written s (diagrams_of s count)
  pub within : count ≤ space_rows
  pub there : root < count
  pub gives : build os [] ≡ ok (tree s root, diagrams_of s count)

-- what it ensures: the row of what is built, or the refusal; one for pairs is the machine's own only where there is room for all
pub record Builds (limit : ℕ) (os : List Op) (r : Result (ℕ × ℕ) (Refusal × ℕ)) (s : List ℕ) : Type 0 where
  pub row : (root count : ℕ) → r ≡ Ok (root, count) → BuiltRow os s count root
  pub refusal : (w : Refusal) (count : ℕ) → r ≡ Err (w, count) → Final limit w → build os [] ≡ refused w
