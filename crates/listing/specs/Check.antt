-- A flag that tells whether something is so.
use Rattle.std.specs.Prelude.{◌≡◌, Bool, true, false}

-- b tells whether P
pub record Decides (b : Bool) (P : Type 0) : Type 0 where
  pub yes : b ≡ true → P
  pub no : b ≡ false → P → ⊥
