-- What pairing up two rows answers, and the plan that it leaves (document 01, section 'Combination': pairs, then values).
use Rattle.std.specs.Prelude.{◌≡◌, false, cond, List, ℕ, suc, ◌-◌, ◌<◌, get_or, ltb}
use Rattle.diagram.specs.Diagram.{Diagram, leaf}
use Rattle.diagram.specs.Rows.{onto}
use Rattle.diagram.specs.Validity.{tree}
use Rattle.apply.specs.declared.Operation.{Operation}
use Rattle.apply.specs.Combination.{operate}
use Rattle.apply.specs.Apply.{apply}
use Rattle.apply.specs.Pairs.{pairs, pair_count, overflows}
use Rattle.apply.specs.Inner.{ClosedRows}
use Rattle.plan.specs.Walk.{Leading}
use Rattle.plan.specs.Plan.{Index, Clean}
use Rattle.combine.specs.RowPairs.{Operand}
use Rattle.combine.specs.Results.{results, exceeds, Sound}
use Rattle.store.specs.Space.{add_all}
use Rattle.combine.specs.declared.Paired.{Paired}
use Rattle.combine.specs.declared.Paired.TheVariants.{Pairs, TooMany, TooHigh}

-- rows i of x and j of y stand for diagrams, and the plan is empty
pub record Pairable (x y plan heads : List ℕ) (limit i j : ℕ) : Type 0 where
  pub first : Operand x (suc i) (tree x)
  pub second : Operand y (suc j) (tree y)
  pub leading : Leading x y (i, j)
  pub empty : Index plan heads limit 0

-- more pairs than the limit, or a leaf pair whose result is above 10^18, in this order
unfoldable pub pair_answer : Operation → ℕ → Diagram → Diagram → Paired
pair_answer op limit a b =
    cond (ltb limit (pair_count op a b)) TooMany (cond (overflows (operate op) (pairs op a b)) TooHigh (Pairs (pair_count op a b)))

-- the first n entries of the plan form the rows of the combination of a and b
pub record Forms (op : Operation) (a b : Diagram) (ws : List ℕ) (n : ℕ) : Type 0 where
  pub sound : Sound ws n
  pub calm : exceeds (operate op) ws n ≡ false
  pub some : 0 < n
  pub last : get_or (results (operate op) ws n) (n - 1) (leaf 0) ≡ apply (operate op) a b
  pub rows : (rs : List Diagram) → ClosedRows rs → add_all rs (results (operate op) ws n) ≡ onto (apply (operate op) a b) rs

pub record PairedUp (op : Operation) (limit : ℕ) (a b : Diagram) (r : Paired) (ws heads : List ℕ) : Type 0 where
  pub answer : r ≡ pair_answer op limit a b
  pub clean : Clean heads
  pub forms : (n : ℕ) → r ≡ Pairs n → Forms op a b ws n
