-- What the tests of a model's words require.
use Rattle.std.specs.Prelude.{◌≡◌, true, List, ℕ, ◌≤◌, length}
use Rattle.label.specs.Limits.{parameter_count}
use Rattle.label.specs.Labels.{are_arities}

-- an arity list, listings of which the first `used` words are in use, an action of c parameters
pub record Lent (ar listings : List ℕ) (used c : ℕ) : Type 0 where
  pub arities : are_arities ar ≡ true
  pub room : used ≤ length listings
  pub parameters : c ≤ parameter_count
