-- What counting the states asks and answers (document 02, L11).
use Rattle.std.specs.Prelude.{◌≡◌, true, List, ℕ, ◌*◌, ◌≤◌, ◌<◌, length, take}
use Rattle.refusal.specs.Outcome.{Outcome, ok, refused}
use Rattle.label.specs.Limits.{predicate_count}
use Rattle.diagram.specs.Sizes.{most_rows}
use Rattle.diagram.specs.Words.{is_listing}
use Rattle.state.specs.Lent.{most_objects, constants_below}
use Rattle.spread.specs.Spread.{Entry, entry_words}
use Rattle.refusal.specs.declared.Refusal.{Refusal}
use Rattle.std.specs.Prelude.{Err, Ok, Result}

-- two words a line; a listing of 1,024 rows has fewer leaves than rows, so there are at most 1,023 lines
abbrev pub table_words : ℕ
table_words = most_rows * 2

-- how many lines there are, or why there is none
abbrev pub counted_as : Outcome (List Entry) → Result ℕ Refusal
counted_as (ok es) = Ok (length es)
counted_as (refused r) = Err r

-- "over all states of n objects, with the constants placed as they are now": the declared predicates are 1 to count
pub record Countable (ar : List ℕ) (count n : ℕ) (constants ws table : List ℕ) : Type 0 where
  pub declared : count < predicate_count
  pub some : 0 < n
  pub few : n ≤ most_objects
  pub placed : constants_below n constants ≡ true
  pub listed : is_listing ar ws ≡ true
  pub room : table_words ≤ length table

-- the answer, and the lines in the table where there are any
pub record Counts (o : Outcome (List Entry)) (r : Result ℕ Refusal) (table : List ℕ) : Type 0 where
  pub answer : r ≡ counted_as o
  pub lines : (es : List Entry) → o ≡ ok es → take (length (entry_words es)) table ≡ entry_words es
