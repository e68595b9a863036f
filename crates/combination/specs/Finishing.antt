-- How a shared combination ends: the rows formed in an empty space are the result's listing (document 01, section 'Combination').
use Rattle.std.specs.Prelude.{◌≡◌, cond, List, ℕ, ◌*◌, ◌≤◌, length, take, ltb}
use Rattle.refusal.specs.declared.Refusal.TheVariants.{Pairs, Value, Space}
use Rattle.diagram.specs.Sizes.{most_rows, result_words}
use Rattle.apply.specs.declared.Combined.{Combined}
use Rattle.apply.specs.declared.Combined.TheVariants.{Done, Refused}
use Rattle.apply.specs.Combination.{written}
use Rattle.combine.specs.declared.Joined.{Joined}
use Rattle.combine.specs.declared.Joined.TheVariants.{At, TooManyPairs, TooHighValue, NoRoom}

-- the rows in the space, where there is a result
abbrev pub rows_in : Joined → ℕ
rows_in (At i n p) = n
rows_in TooManyPairs = 0
rows_in TooHighValue = 0
rows_in NoRoom = 0

-- what the call answers: a result above 1,024 rows is refused too
abbrev pub finish_answer : Joined → Combined
finish_answer (At i n p) = cond (ltb most_rows n) (Refused Space) (Done n p)
finish_answer TooManyPairs = Refused Pairs
finish_answer TooHighValue = Refused Value
finish_answer NoRoom = Refused Space

-- what the result buffer holds then
unfoldable pub finish_words : Joined → List ℕ → List ℕ → List ℕ
finish_words r s out = written (finish_answer r) (take (rows_in r * 3) s) out

pub record Finishable (r : Joined) (s out : List ℕ) : Type 0 where
  pub there : rows_in r * 3 ≤ length s
  pub room : result_words ≤ length out

pub record Finished (r : Joined) (s out : List ℕ) (q : Combined) (out' : List ℕ) : Type 0 where
  pub answer : q ≡ finish_answer r
  pub words : out' ≡ finish_words r s out
