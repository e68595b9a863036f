-- Steps of one call in its working space, as the code runs them (document 01, sections 'Combination' and 'Regression').
use Rattle.std.specs.Prelude.{◌≡◌, Bool, true, false, List, ℕ, suc, ◌+◌, ◌*◌, ◌≤◌, ◌<◌, length, get_or, set, eqb}
use Rattle.refusal.specs.declared.Refusal.{Refusal}
use Rattle.refusal.specs.declared.Refusal.TheVariants.{Space as NoSpace, Pairs, Value}
use Rattle.refusal.specs.Numbers.{number_of}
use Rattle.refusal.specs.Outcome.{ok, refused}
use Rattle.basics.specs.Members.{mem}
use Rattle.label.specs.Limits.{leaf_mark}
use Rattle.label.specs.declared.Label.{Label}
use Rattle.label.specs.declared.Test.{Test}
use Rattle.label.specs.declared.Test.TheVariants.{Always, Is}
use Rattle.diagram.specs.Sizes.{highest_value, space_rows, most_pairs}
use Rattle.diagram.specs.Diagram.{Diagram, leaf, branch, same}
use Rattle.diagram.specs.Rows.{onto}
use Rattle.diagram.specs.Validity.{tree}
use Rattle.apply.specs.declared.Operation.TheVariants.{Sum, Product}
use Rattle.plan.specs.Plan.{Clean}
use Rattle.store.specs.Space.{diagrams_of, Holds, Formation}
use Rattle.regression.specs.Calls.{Run, bind, combine}
use Rattle.regression.specs.Step.{exchanged}
use Rattle.combine.specs.declared.Joined.{Joined}
use Rattle.combine.specs.declared.Joined.TheVariants.{At, TooManyPairs, TooHighValue, NoRoom}
use Rattle.std.specs.Prelude.{Err, None, Ok, Option, Result, Some}

-- no leaf among the rows is above 10^18
pub record Valued (rs : List Diagram) : Type 0 where
  pub most : (v : ℕ) → mem same (leaf v) rs ≡ true → v ≤ highest_value

-- the working space holds count rows
pub record Space (s heads links : List ℕ) (count : ℕ) : Type 0 where
  pub holds : Holds s heads links count
  pub values : Valued (diagrams_of s count)

-- the tables of a call: the space, a plan with room for `limit` pairs, and its index, which is clean
pub record Ready (plan index : List ℕ) (limit : ℕ) (s heads links : List ℕ) (count : ℕ) : Type 0 where
  pub space : Space s heads links count
  pub clean : Clean index
  pub words : limit * 5 ≤ length plan
  pub most : limit ≤ most_pairs

-- two rows of the space
pub record Two (count i j : ℕ) : Type 0 where
  pub first : i < count
  pub second : j < count

-- the rows of a row step: T, the true result and the false result
pub record Three (count test high low : ℕ) : Type 0 where
  pub test-there : test < count
  pub high-there : high < count
  pub low-there : low < count

-- the rows of the rest of a row step: T, 1 - T, the true result and the false result
pub record Four (count test other high low : ℕ) : Type 0 where
  pub test-there : test < count
  pub other-there : other < count
  pub high-there : high < count
  pub low-there : low < count

-- the rest of a row step, x being T and y 1 - T: left product, right product, then sum
abbrev pub split_step : Diagram → Diagram → Diagram → Diagram → Run Diagram
split_step x y t f = bind (combine Product x t) (λ p. bind (combine Product y f) (λ q. combine Sum p q))

-- the step m, run in a space of count rows, gives row i, and there are n rows then; the rows that were there stay
pub record Gave (m : Run Diagram) (s₀ : List ℕ) (count i n : ℕ) (s : List ℕ) : Type 0 where
  pub there : i < n
  pub more : count ≤ n
  pub gives : m (diagrams_of s₀ count) ≡ ok (tree s i, diagrams_of s n)
  pub stays : (k : ℕ) → k < count → tree s k ≡ tree s₀ k

-- the rows in the space after an answer
abbrev pub count_then : Result (ℕ × ℕ) (Refusal × ℕ) → ℕ
count_then (Ok (i, n)) = n
count_then (Err (w, n)) = n

-- a refusal that more room for pairs would not change: it is not for pairs, or there is room for all
abbrev pub Final : ℕ → Refusal → Type 0
Final limit w = w ≡ Pairs → limit ≡ most_pairs

-- what a combination in a space of `count` rows says as a step
abbrev pub told_as : ℕ → Joined → Result (ℕ × ℕ) (Refusal × ℕ)
told_as count (At i n p) = Ok (i, n)
told_as count TooManyPairs = Err (Pairs, count)
told_as count TooHighValue = Err (Value, count)
told_as count NoRoom = Err (NoSpace, space_rows)

-- whether a step was refused for pairs
abbrev pub is_crowded : Result (ℕ × ℕ) (Refusal × ℕ) → Bool
is_crowded (Ok (i, n)) = false
is_crowded (Err (w, n)) = eqb (number_of w) (number_of Pairs)

-- what running the step m with room for `limit` pairs ensures: the space then, the plan's index clean, and the answer or the refusal that the step gives; a
-- refusal for pairs is the step's own only where there is room for all
pub record Ran (limit : ℕ) (m : Run Diagram) (s₀ : List ℕ) (count : ℕ) (r : Result (ℕ × ℕ) (Refusal × ℕ)) (s heads links index : List ℕ) : Type 0 where
  pub space : Space s heads links (count_then r)
  pub clean : Clean index
  pub row : (i n : ℕ) → r ≡ Ok (i, n) → Gave m s₀ count i n s
  pub refusal : (w : Refusal) (n : ℕ) → r ≡ Err (w, n) → Final limit w → m (diagrams_of s₀ count) ≡ refused w

-- the rows of 1 - T that are known: for row k one more than the row of its 1 - T, or 0
pub record Noted (s memo : List ℕ) (count : ℕ) : Type 0 where
  pub places : space_rows ≤ length memo
  pub each : (k j : ℕ) → k < space_rows → get_or memo k 0 ≡ suc j → (k < count) × (j < count) × (tree s j ≡ exchanged (tree s k))

-- the notes with the row that was formed for row i
abbrev pub noted_for : ℕ → Option (ℕ × ℕ) → List ℕ → List ℕ
noted_for i (Some (j, n)) memo = set memo i (j + 1)
noted_for i None memo = memo

-- the notes have room for the row that was formed for row i
pub record Notable (memo : List ℕ) (i : ℕ) (r : Option (ℕ × ℕ)) : Type 0 where
  pub place : i < length memo
  pub small : (j n : ℕ) → r ≡ Some (j, n) → j + 1 < 65536

-- what forming 1 - T for row i requires
pub record Exchangeable (s heads links memo : List ℕ) (count i : ℕ) : Type 0 where
  pub holds : Holds s heads links count
  pub noted : Noted s memo count
  pub row : i < count

-- and ensures
pub record Exchanged (s₀ : List ℕ) (count i : ℕ) (r : Option (ℕ × ℕ)) (s heads links memo : List ℕ) : Type 0 where
  pub formation : Formation (exchanged (tree s₀ i)) (onto (exchanged (tree s₀ i)) (diagrams_of s₀ count)) r s heads links
  pub noted : (j n : ℕ) → r ≡ Some (j, n) → Noted s memo n

-- a test whose label is below a leaf's mark
pub record Testable (t : Test) : Type 0 where
  pub label : (l : Label) → t ≡ Is l → l.packed < leaf_mark

-- the row of what is asked with two leaves; the first of them where it is t = t
unfoldable pub test_leaves : Test → ℕ → ℕ → Diagram
test_leaves Always v w = leaf v
test_leaves (Is l) v w = branch l.packed (leaf v) (leaf w)
