-- Moves, and the sum that the Bellman step has for each (document 02, L9; document 01, section 'Backup').
use Rattle.std.specs.Prelude.{List, [], ℕ, ◌*◌, get_or, replicate}
use Rattle.state.specs.State.{State}
use Rattle.state.specs.Max.{sum_of}
use Rattle.mdp.specs.Model.{Action, Model}
use Rattle.mdp.specs.Bellman.{weight_in, state_after, bellman}

-- "(best action object ..)": an action by its number, and an object for each of its parameters
pub record Move : Type 0 where
  pub action : ℕ
  pub objects : List ℕ

abbrev pub move : ℕ → List ℕ → Move
move i os = record { action = i; objects = os }

-- the action with a number; past the last one there is none, without parameters and variants
unfoldable pub action_at : Model → ℕ → Action
action_at m i = get_or m.actions i (record { count = 0; variants = [] })

-- "The sum is the one inside the Bellman step from k to k + 1": over variants, of G · weight · Mk(next state)
unfoldable pub action_sum : Model → ℕ → State → Action → List ℕ → ℕ
unfolding sum_of weight_in state_after bellman
action_sum m k s a os = sum_of a.variants (λ v. m.numerator * weight_in m.arities s os v * bellman m k (state_after m.arities s os v))

unfoldable pub move_sum : Model → ℕ → State → Move → ℕ
unfolding action_at action_sum
move_sum m k s x = action_sum m k s (action_at m x.action) x.objects

-- the first move of all: the first action, with object 0 for each parameter
unfoldable pub first_move : Model → Move
unfolding action_at
first_move m = move 0 (replicate (action_at m 0).count 0)
