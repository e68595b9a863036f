-- What the inner functions of a regression call take and give (document 01, section 'Regression').
use Rattle.std.specs.Prelude.{◌≡◌, true, cond, List, [], ℕ, ◌-◌, ◌*◌, ◌≤◌, ◌<◌, length, ltb}
use Rattle.refusal.specs.declared.Refusal.{Refusal}
use Rattle.refusal.specs.declared.Refusal.TheVariants.{Space}
use Rattle.refusal.specs.Outcome.{Outcome, ok, refused}
use Rattle.label.specs.Limits.{predicate_count}
use Rattle.diagram.specs.Sizes.{result_words, space_words, space_rows, most_rows}
use Rattle.diagram.specs.Diagram.{Diagram}
use Rattle.diagram.specs.Rows.{rows}
use Rattle.diagram.specs.Inner.{Written}
use Rattle.diagram.specs.Words.{is_listing}
use Rattle.diagram.specs.Validity.{tree}
use Rattle.store.specs.Space.{diagrams_of, Holds}
use Rattle.regression.specs.Calls.{Run}
use Rattle.regression.specs.RegressCall.{are_listings, regressed_as, written_as}
use Rattle.row_steps.specs.Running.{count_then, Final}
use Rattle.truths.specs.TruthChecks.{Lent}
use Rattle.std.specs.Prelude.{Result}
use Rattle.std.specs.Prelude.{Err, Ok}

-- the checks 14 and 18 are passed; the checks 7 and 6 keep no step from running, so they are not asked for
pub record Regressable (ar value truths spans out work : List ℕ) : Type 0 where
  pub value-listing : is_listing ar value ≡ true
  pub truth-listings : are_listings ar truths spans 1 (predicate_count - 1) ≡ true
  pub result : result_words ≤ length out
  pub room : space_words ≤ length work

-- what a run in an empty space requires: listings, and a working space
pub record Runnable (ar value truths spans work : List ℕ) : Type 0 where
  pub value-listing : is_listing ar value ≡ true
  pub lent : Lent ar truths spans
  pub room : space_words ≤ length work

-- what running the step m in an empty space with room for `limit` pairs ensures: the rows then, their table by some heads and links, and the row or the refusal
-- that the step gives; a refusal for pairs is the step's own only where there is room for all
pub record Regresses (limit : ℕ) (m : Run Diagram) (r : Result (ℕ × ℕ) (Refusal × ℕ)) (s : List ℕ) : Type 0 where
  pub heads : List ℕ
  pub links : List ℕ
  pub holds : Holds s heads links (count_then r)
  pub row : (i n : ℕ) → r ≡ Ok (i, n) → (i < n) × (m [] ≡ ok (tree s i, diagrams_of s n))
  pub refusal : (w : Refusal) (n : ℕ) → r ≡ Err (w, n) → Final limit w → m [] ≡ refused w

-- a row of a space of count rows, and room for the listing of the diagram that stands there
pub record Listable (s : List ℕ) (count root : ℕ) (out : List ℕ) : Type 0 where
  pub written : Written s (diagrams_of s count)
  pub words : space_rows * 3 ≤ length s
  pub within : count ≤ space_rows
  pub root-there : root < count
  pub room : result_words ≤ length out

-- a result above 1,024 rows is also 9
abbrev pub held : Diagram → Outcome Diagram
held d = cond (ltb most_rows (length (rows d))) (refused Space) (ok d)

-- the answer o, and the result buffer that was `before` and is `after`
pub record RegressAnswered (o : Outcome Diagram) (r : Result ℕ Refusal) (before after : List ℕ) : Type 0 where
  pub answer : r ≡ regressed_as o
  pub result : after ≡ written_as o before
