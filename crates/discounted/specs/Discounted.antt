-- The k-step Bellman value with discount G / D and probabilities weight / W (document 01, section 'Backup').
use Rattle.std.specs.Prelude.{ℕ, zero, suc}
use Rattle.state.specs.State.{State}
use Rattle.mdp.specs.Model.{Model}
use Rattle.mdp.specs.Bellman.{weight_in, state_after, reward_in}
use Rattle.discounted.specs.Fraction.{Fraction, ratio, whole, plus, times, highest_of, highest_tuples, total_of}

-- V0(s) is the reward's value; V(k+1)(s) = the reward's value + G / D · the highest, over actions and object tuples, of the sum over variants of
-- weight / W · Vk(next state)
unfoldable pub discounted : Model → ℕ → State → Fraction
unfolding plus times highest_of highest_tuples total_of reward_in weight_in state_after
discounted m zero s = whole (reward_in m s)
discounted m (suc k) s =
    plus (whole (reward_in m s))
    (times (ratio m.numerator m.denominator)
    (highest_of m.actions (λ a.
    highest_tuples s.size a.count (λ os.
    total_of a.variants (λ v.
    times (ratio (weight_in m.arities s os v) m.total) (discounted m k (state_after m.arities s os v)))))))
