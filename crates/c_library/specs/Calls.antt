-- What each exported call owes: equations for its answer, its counts and its result buffer, in the words of the call behind it.
use Rattle.std.specs.Prelude.{◌≡◌, List, ℕ, length}
use Rattle.apply.specs.declared.Operation.{Operation}
use Rattle.apply.specs.declared.Names.{Names}
use Rattle.apply.specs.Combination.{combine_answer, combine_result}
use Rattle.regression.specs.RegressCall.{regress_answer, regress_result, free_answer, free_result}
use Rattle.cutting.specs.Cut.{cut_answer, cut_buffer}
use Rattle.reduction.specs.Reduction.{reduce_call, answer_of, buffer_of}
use Rattle.elimination.specs.Answer.{value_answer}
use Rattle.texts.specs.Running.{filled, in_front}
use Rattle.c_library.specs.Answers.{combined_number, combined_rows, combined_pairs, rows_number, rows_after, cut_number, cut_row, cut_edge, cut_rows}
use Rattle.c_library.specs.Answers.{valued_number, valued_value, ran_number, ran_bytes, ran_lines}

-- a combination of x and y; r is the answer, and a dash marks what is lent after the call
pub record Combines (op : Operation) (names : Names) (ar x y out work : List ℕ) (rows pairs r : ℕ) (out' : List ℕ) (rows' pairs' : ℕ) : Type 0 where
  pub answer : r ≡ combined_number (combine_answer op names ar x y (length out) (length work))
  pub buffer : out' ≡ combine_result op names ar x y (length work) out
  pub row_count : rows' ≡ combined_rows (combine_answer op names ar x y (length out) (length work)) rows
  pub pair-count : pairs' ≡ combined_pairs (combine_answer op names ar x y (length out) (length work)) pairs

-- the regression of a value listing under truth diagrams
pub record Regresses (ar value truths spans out work : List ℕ) (rows r : ℕ) (out' : List ℕ) (rows' : ℕ) : Type 0 where
  pub answer : r ≡ rows_number (regress_answer ar value truths spans (length out) (length work))
  pub buffer : out' ≡ regress_result ar value truths spans (length work) out
  pub row_count : rows' ≡ rows_after (regress_answer ar value truths spans (length out) (length work)) rows

-- freeing the parameters of an action that has `count` of them
pub record Frees (ar words : List ℕ) (count : ℕ) (out work : List ℕ) (rows r : ℕ) (out' : List ℕ) (rows' : ℕ) : Type 0 where
  pub answer : r ≡ rows_number (free_answer ar words count (length out) (length work))
  pub buffer : out' ≡ free_result ar words count (length work) out
  pub row_count : rows' ≡ rows_after (free_answer ar words count (length out) (length work)) rows

-- a cut of a listing
pub record Cuts (ar words out work : List ℕ) (row edge rows r : ℕ) (out' : List ℕ) (row' edge' rows' : ℕ) : Type 0 where
  pub answer : r ≡ cut_number (cut_answer ar words (length out) (length work))
  pub buffer : out' ≡ cut_buffer ar words out (length work)
  pub row_cut : row' ≡ cut_row (cut_answer ar words (length out) (length work)) row
  pub edge-cut : edge' ≡ cut_edge (cut_answer ar words (length out) (length work)) edge
  pub row_count : rows' ≡ cut_rows (cut_answer ar words (length out) (length work)) rows

-- the reduction of a listing by model checking (document 02, L13)
pub record Reduces (ar words out work : List ℕ) (rows r : ℕ) (out' : List ℕ) (rows' : ℕ) : Type 0 where
  pub answer : r ≡ rows_number (answer_of (reduce_call ar words (length out) (length work)))
  pub buffer : out' ≡ buffer_of out (reduce_call ar words (length out) (length work))
  pub row_count : rows' ≡ rows_after (answer_of (reduce_call ar words (length out) (length work))) rows

-- valuing a listing in a state of n objects
pub record Values (ar words : List ℕ) (n : ℕ) (constants facts : List ℕ) (value r value' : ℕ) : Type 0 where
  pub answer : r ≡ valued_number (value_answer ar words n constants facts)
  pub highest : value' ≡ valued_value (value_answer ar words n constants facts) value

-- a whole text
pub record Runs (text out : List ℕ) (lines r : ℕ) (out' : List ℕ) (bytes' lines' : ℕ) : Type 0 where
  pub answer : r ≡ ran_number (filled (length out) text).answer
  pub buffer : out' ≡ in_front (filled (length out) text).bytes out
  pub byte-count : bytes' ≡ ran_bytes (filled (length out) text).answer
  pub line-count : lines' ≡ ran_lines (filled (length out) text).answer lines
