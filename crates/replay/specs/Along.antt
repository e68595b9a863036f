-- What a list of logged lines comes to (document 02, L10): states and rewards, with no rows, no refusal and no total carried along.
use Rattle.std.specs.Prelude.{◌≡◌, List, [], ◌∷◌, ℕ, ◌<◌, length, get_or}
use Rattle.label.specs.Limits.{predicate_count}
use Rattle.state.specs.State.{State}
use Rattle.state.specs.Max.{Tuple, sum_of}
use Rattle.mdp.specs.Model.{Model}
use Rattle.mdp.specs.Bellman.{reward_in}
use Rattle.replay.specs.Replay.{Did, action_of, state_next, Replay, in_hand}

-- the states s0, s1, .. that the lines lead through: each by the truth diagrams of the next line
unfoldable pub states : Model → State → List Did → List State
unfolding state_next
states m s [] = s ∷ []
states m s (d ∷ l) = s ∷ states m (state_next m s d) l

-- the last of them: "the one that their truth diagrams give in that order"
unfoldable pub state_behind : Model → State → List Did → State
unfolding state_next
state_behind m s [] = s
state_behind m s (d ∷ l) = state_behind m (state_next m s d) l

-- "the sum of rewards along it"
unfoldable pub rewards_along : Model → State → List Did → ℕ
unfolding states sum_of reward_in
rewards_along m s l = sum_of (states m s l) (reward_in m)

-- two states that no diagram under the arity list tells apart: the same objects and constants, and every fact that can be asked of the objects
pub record Alike (ar : List ℕ) (s t : State) : Type 0 where
  pub size : s.size ≡ t.size
  pub constant : s.constant ≡ t.constant
  pub fact : (p : ℕ) (os : List ℕ) → 0 < p → p < predicate_count → Tuple s.size (get_or ar p 0) os → s.fact p os ≡ t.fact p os

-- names and counts are checked: there are such an action and variant, and as many objects below n as the action has parameters
pub record Checked (m : Model) (n : ℕ) (d : Did) : Type 0 where
  pub action : d.action < length m.actions
  pub variant : d.variant < length (action_of m d).variants
  pub objects : Tuple n (action_of m d).count d.objects

-- "count is how many were [accepted], the state is the one that their truth diagrams give in that order, and total is the sum of rewards along it";
-- "begun at count 0, with at least one accepted"
pub record Comes (m : Model) (s : State) (done : List Did) (r : Replay) : Type 0 where
  pub count : r.count ≡ length done
  pub state : Alike m.arities (in_hand m.arities r) (state_behind m s done)
  pub total : 0 < length done → r.total ≡ rewards_along m s done
  pub none : length done ≡ 0 → r.total ≡ 0
