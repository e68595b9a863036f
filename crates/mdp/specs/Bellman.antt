-- The values M0 and M(k+1), from state to state and with no diagram but those of the model (document 01, section 'Backup').
use Rattle.std.specs.Prelude.{List, [], ℕ, zero, suc, ◌+◌, ◌*◌, ◌^◌}
use Rattle.state.specs.State.{State, meaning, value}
use Rattle.state.specs.Next.{next}
use Rattle.state.specs.Max.{max_tuples, max_of, sum_of}
use Rattle.state.specs.Highest.{start}
use Rattle.minimum.specs.Number.{number}
use Rattle.regression.specs.Tells.{meanings}
use Rattle.mdp.specs.Model.{Variant, Model, scale}

-- the weight of a variant, read in s with the tuple os for the parameters
unfoldable pub weight_in : List ℕ → State → List ℕ → Variant → ℕ
unfolding value start meaning
weight_in ar s os v = value s (meaning ar v.weight) (start s os)

-- the next state under a variant, its truth diagrams read in s with the tuple os for the parameters
unfoldable pub state_after : List ℕ → State → List ℕ → Variant → State
unfolding next meaning
state_after ar s os v = next s os (meanings ar v.truths)

-- the reward's value: its number (document 02, L12: "the reward, and every value diagram, with maximum outside and minimum inside")
unfoldable pub reward_in : Model → State → ℕ
unfolding number meaning
reward_in m s = number s [] (meaning m.arities m.reward)

-- M0(s) is the reward's value; M(k+1)(s) = S^(k+1) · M0(s) + the highest, over actions and object tuples, of the sum over variants of
-- G · weight · Mk(next state)
unfoldable pub bellman : Model → ℕ → State → ℕ
unfolding reward_in scale max_of max_tuples sum_of weight_in state_after
bellman m zero s = reward_in m s
bellman m (suc k) s =
    scale m ^ suc k * reward_in m s
    + max_of m.actions (λ a.
    max_tuples s.size a.count (λ os.
    sum_of a.variants (λ v.
    m.numerator * weight_in m.arities s os v * bellman m k (state_after m.arities s os v))))
