-- The machine in lent words: the places of the tests asked and the rows of the results given, and the working space (document 01, sections 'Text' and
-- 'Combination').
use Rattle.std.specs.Prelude.{◌≡◌, cond, List, [], ◌∷◌, ℕ, zero, suc, ◌+◌, ◌*◌, ◌/◌, ◌≤◌, ◌<◌, length, get_or, eqb}
use Rattle.refusal.specs.declared.Refusal.{Refusal}
use Rattle.label.specs.Limits.{leaf_mark}
use Rattle.label.specs.declared.Test.{Test}
use Rattle.label.specs.declared.Test.TheVariants.{Always, Is}
use Rattle.diagram.specs.Sizes.{highest_value}
use Rattle.diagram.specs.Diagram.{Diagram}
use Rattle.diagram.specs.Validity.{tree}
use Rattle.plan.specs.Plan.{Clean}
use Rattle.store.specs.Space.{diagrams_of}
use Rattle.refusal.specs.Outcome.{ok, refused}
use Rattle.row_steps.specs.Running.{Space, Final}
use Rattle.build.specs.Machine.{Machine, most_tests, most_results, operation}
use Rattle.reading.specs.Operations.{Op}
use Rattle.reader.specs.OperationWords.{op_at}
use Rattle.std.specs.Prelude.{Err, Ok, Result}

-- what the operation k asks, where it asks
unfoldable pub test_at : List ℕ → ℕ → Test
test_at ws k = cond (eqb (get_or ws (k * 2) 0) 1) (Is (record { packed = get_or ws (k * 2 + 1) 0 })) Always

-- the n operations from k on, and all that the words hold
unfoldable pub ops_from : List ℕ → ℕ → ℕ → List Op
unfolding op_at
ops_from ws k zero = []
ops_from ws k (suc n) = op_at ws k ∷ ops_from ws (suc k) n

unfoldable pub whole_ops : List ℕ → List Op
unfolding ops_from
whole_ops ws = ops_from ws 0 (length ws / 2)

-- the words of both stacks: the tests' places from 0 on, the results' rows behind them
abbrev pub stack_words : ℕ
stack_words = 129

-- the operations' words hold labels below a leaf's mark and values up to 10^18
pub record Ops (ops : List ℕ) : Type 0 where
  pub values : (k : ℕ) → k * 2 + 2 ≤ length ops → get_or ops (k * 2) 0 ≡ 0 → get_or ops (k * 2 + 1) 0 ≤ highest_value
  pub labels : (k : ℕ) → k * 2 + 2 ≤ length ops → get_or ops (k * 2) 0 ≡ 1 → get_or ops (k * 2 + 1) 0 < leaf_mark

-- the latest t tests, each by the place of the operation that asked it
unfoldable pub tests_of : List ℕ → List ℕ → ℕ → List Test
unfolding test_at
tests_of ops stack zero = []
tests_of ops stack (suc t) = test_at ops (get_or stack t 0) ∷ tests_of ops stack t

-- the latest d results, each by its row
unfoldable pub results_of : List ℕ → List ℕ → ℕ → List Diagram
results_of s stack zero = []
results_of s stack (suc d) = tree s (get_or stack (most_tests + d) 0) ∷ results_of s stack d

abbrev pub machine_of : List ℕ → List ℕ → List ℕ → ℕ → ℕ → ℕ → Machine
machine_of ops stack s t d count = record { tests = tests_of ops stack t; results = results_of s stack d; formed = diagrams_of s count }

-- the stacks hold t tests and d results
pub record Stacked (ops stack : List ℕ) (t d count : ℕ) : Type 0 where
  pub words : stack_words ≤ length stack
  pub few-tests : t ≤ most_tests
  pub few-results : d ≤ most_results
  pub places : (j : ℕ) → j < t → get_or stack j 0 * 2 + 2 ≤ length ops
  pub there : (j : ℕ) → j < d → get_or stack (most_tests + j) 0 < count

-- the rows in the space after an answer
abbrev pub rows_then : Result (ℕ × ℕ × ℕ) (Refusal × ℕ) → ℕ
rows_then (Ok (t, d, c)) = c
rows_then (Err (w, c)) = c

-- what running one operation with room for `limit` pairs ensures; a refusal for pairs is the machine's own only where there is room for all
pub record Moves (limit : ℕ) (o : Op) (m : Machine) (ops : List ℕ) (r : Result (ℕ × ℕ × ℕ) (Refusal × ℕ)) (stack s heads links index : List ℕ) : Type 0 where
  pub space : Space s heads links (rows_then r)
  pub clean : Clean index
  pub to : (t d c : ℕ) → r ≡ Ok (t, d, c) → operation o m ≡ ok (machine_of ops stack s t d c)
  pub stacked : (t d c : ℕ) → r ≡ Ok (t, d, c) → Stacked ops stack t d c
  pub refusal : (w : Refusal) (c : ℕ) → r ≡ Err (w, c) → Final limit w → operation o m ≡ refused w
