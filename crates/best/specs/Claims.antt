-- What the theorems on (best) say, in types (document 02, L9).
use Rattle.std.specs.Prelude.{◌≡◌, ◌⊎◌, ℕ, suc, ◌+◌, ◌*◌, ◌^◌, ◌≤◌, ◌<◌, length}
use Rattle.state.specs.State.{State}
use Rattle.state.specs.Max.{Tuple, max_tuples, max_of}
use Rattle.reduction.specs.Claims.{Lower}
use Rattle.mdp.specs.Model.{Model, scale}
use Rattle.mdp.specs.Bellman.{reward_in, bellman}
use Rattle.best.specs.Moves.{Move, action_at, action_sum, move_sum}

-- ===== The move =====

-- a move of the model in a state: one of its actions, and objects of the state, as many as the action has parameters
pub record IsMove (m : Model) (s : State) (x : Move) : Type 0 where
  pub action-is : x.action < length m.actions
  pub objects-are : Tuple s.size (action_at m x.action).count x.objects

-- an earlier action, or the same one with lower objects, from the first place where they differ
abbrev pub Earlier : Move → Move → Type 0
Earlier x y = (x.action < y.action) ⊎ ((x.action ≡ y.action) × Lower x.objects y.objects)

-- "the first action, then the lowest objects in order, whose weighted sum over variants is highest": no move has a higher sum, and every earlier one a lower
pub record FirstHighest (m : Model) (k : ℕ) (s : State) (x : Move) : Type 0 where
  pub is_move : IsMove m s x
  pub highest : (y : Move) → IsMove m s y → move_sum m k s y ≤ move_sum m k s x
  pub first : (y : Move) → IsMove m s y → Earlier y x → move_sum m k s y < move_sum m k s x

-- "It must equal that step's highest", so that M(k+1) is what it says
pub record StepsBy (m : Model) (k : ℕ) (s : State) (x : Move) : Type 0 where
  pub chosen : FirstHighest m k s x
  pub step : move_sum m k s x ≡ max_of m.actions (λ a. max_tuples s.size a.count (action_sum m k s a))
  pub next : bellman m (suc k) s ≡ scale m ^ suc k * reward_in m s + move_sum m k s x
