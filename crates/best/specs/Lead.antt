-- The choice without its refusals: the best of a row of moves whose sums are known. For proofs alone.
use Rattle.std.specs.Prelude.{◌≡◌, ℕ, suc, ◌+◌, ◌<◌, length, get_or}
use mathlib.Core.List.{List, [], ◌∷◌, ◌++◌, map, Memᴰ}
use Rattle.state.specs.Max.{tuples}
use Rattle.mdp.specs.Model.{Action, Model}
use Rattle.best.specs.Moves.{Move, move, action_at}
use Rattle.best.specs.Best.{Rated, rated, better}
use Rattle.best.specs.Claims.{Earlier}

-- the actions l are those of m from number i on
pub record From (m : Model) (i : ℕ) (l : List Action) : Type 0 where
  pub count : i + length l ≡ length m.actions
  pub each : (j : ℕ) → j < length l → get_or l j (record { count = 0; variants = [] }) ≡ action_at m (i + j)

-- the moves of the actions from number i on: action by action, lowest objects first, the first parameter changing slowest
unfoldable pub moves_from : ℕ → ℕ → List Action → List Move
unfolding tuples
moves_from n i [] = []
moves_from n i (a ∷ l) = map (move i) (tuples n a.count) ++ moves_from n (suc i) l

-- of a row, begun with a best so far; f is the sum of a move
unfoldable pub lead : (Move → ℕ) → Rated → List Move → Rated
unfolding better
lead f best [] = best
lead f best (x ∷ l) = lead f (better best (rated x (f x))) l

-- r is one of the row, above the best at the beginning, and above every earlier one of the row
pub record Won (f : Move → ℕ) (best : Rated) (l : List Move) (r : Rated) : Type 0 where
  pub member : Memᴰ r.move l
  pub value : r.sum ≡ f r.move
  pub above : best.sum < r.sum
  pub first : (y : Move) → Memᴰ y l → Earlier y r.move → f y < r.sum
