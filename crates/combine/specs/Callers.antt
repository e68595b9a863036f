-- What callers of the inner functions of this crate must know.
use Rattle.std.specs.Prelude.{◌≡◌, false, List, ℕ, ◌*◌, ◌≤◌, ◌<◌, length, ltb}
use Rattle.diagram.specs.Sizes.{highest_value}
use Rattle.apply.specs.declared.Operation.{Operation}
use Rattle.apply.specs.Combination.{operate}

-- the values of two leaves
pub record Values (v w : ℕ) : Type 0 where
  pub first : v ≤ highest_value
  pub second : w ≤ highest_value

-- whose result is none above 10^18
pub record Calm (op : Operation) (v w : ℕ) : Type 0 where
  pub values : Values v w
  pub calm : ltb highest_value (operate op v w) ≡ false

-- entry k is one of the n that the plan has room for
pub record EntryOf (ws : List ℕ) (n k : ℕ) : Type 0 where
  pub room : n * 5 ≤ length ws
  pub less : k < n
