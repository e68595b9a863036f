-- What labels say in a state, and the paths that such truths follow (document 01, sections 'States and value' and 'Cut').
use Rattle.std.specs.Prelude.{◌≡◌, Bool, ℕ}
use mathlib.Core.List.{List, Memᴰ}
use Rattle.state.specs.State.{atom_of, State, holds}
use Rattle.paths.specs.Paths.{Literal, Path, literals}

-- the truth of what the label l says, where each term has the object that θ gives it
abbrev pub says : List ℕ → State → (ℕ → ℕ) → ℕ → Bool
says ar s θ l = holds s θ (atom_of ar l)

-- the truths c follow the path
pub record Follows (c : ℕ → Bool) (p : Path) : Type 0 where
  pub each : (l : Literal) → Memᴰ l (literals p) → c l.label ≡ l.sign
