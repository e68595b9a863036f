-- What replay checks of a (did ..) line whose names and counts pass, in the words of states (document 02, L10).
use Rattle.std.specs.Prelude.{◌≡◌, Bool, ◌&&◌, ◌||◌, List, [], ℕ, suc, ◌+◌}
use Rattle.std.proofs.Math.Path.{refl, ap, ap₂}
use Rattle.std.proofs.Common.{◌∙◌}
use Rattle.std.proofs.Math.Bool.{cond}
use Rattle.std.proofs.Math.Dec.{eqb, ltb}
use Rattle.refusal.specs.declared.Refusal.TheVariants as F
use Rattle.refusal.specs.Outcome.{Outcome, ok, refused}
use Rattle.diagram.specs.Sizes.{highest_value}
use Rattle.diagram.specs.Listing.{listing}
use Rattle.diagram.specs.ListingOfDiagram.{valid-listing}
use Rattle.state.specs.State.{State, Good}
use Rattle.state.specs.Lent.{state_of, fact_count, most_facts}
use Rattle.elimination.specs.Answer.{is_too_large}
use Rattle.mdp.specs.Model.{GoodModel}
use Rattle.mdp.specs.Bellman.{weight_in, reward_in}
use Rattle.replay.specs.Replay.{variant_of, Replay, in_hand as hand_of, facts_of, state_next, moved_by, reward_here, reward_met, reward_ends, counted}
use Rattle.replay.specs.Replay.{has_no_weight, has_many_facts, has_valuations, is_too_high, did}
use Rattle.replay.specs.Along.{Alike}
use Rattle.replay.proofs.AlikeLaws.{reward-alike}
use Rattle.replay.proofs.FactLaws.{facts-said, facts-count}
use Rattle.text.specs.declared.Kind.TheVariants as K
use Rattle.text.specs.Line.{Words}
use Rattle.session.specs.Session.{Session, with_live}
use Rattle.session.specs.Running.{state_in}
use Rattle.session.specs.Replaying.{replay_in, replayed}
use Rattle.text_moves.specs.Claims.{in_hand}
use Rattle.text_replays.specs.Claims.{did_in, weight_of, next_of, facts_of_next, rewards_met}
use Rattle.replay.proofs.LargeLaws.{large-alike}

-- what is in hand behind the line, accepted
abbrev pub replay_by : Session → Words K.Did → Replay
replay_by σ w = counted σ.model (replay_in σ.live) (did_in σ w)

-- the session behind it
abbrev pub session_by : Session → Words K.Did → Session
session_by σ w = with_live σ (replayed σ.live (replay_by σ w))

-- the checks of replay, in order
abbrev pub checked_by : Bool → Bool → Bool → Bool → Replay → Outcome Replay
checked_by a b c e r = cond a (refused F.Weightless) (cond b (refused F.Crowded) (cond c (refused F.Valuations) (cond e (refused F.Tally) (ok r))))

module _ (σ : Session) (model : GoodModel σ.model) (good : Good (in_hand σ)) (w : Words K.Did) where
  abbrev ar : List ℕ
  ar = σ.model.arities

  abbrev r : Replay
  r = replay_in σ.live

  abbrev moved : Replay
  moved = moved_by σ.model (replay_in σ.live) (did_in σ w)

  -- the reward is too large in a state (15)
  abbrev large : State → Bool
  large s = is_too_large σ.model.arities s [] (listing σ.model.reward)

  hand-is : hand_of ar r ≡ in_hand σ
  unfolding hand_of replay_in state_in
  hand-is = refl

  -- the rows in hand behind the move are the state that the truth diagrams give
  moved-alike : Alike ar (hand_of ar moved) (next_of σ w)
  unfolding hand_of state_of moved_by state_next replay_in state_in
  moved-alike = record {
    size = refl;
    constant = refl;
    fact = λ p os h k t. facts-said σ.model.arities model.arities (next_of σ w) p os h k t;
  }

  moved-good : Good (hand_of ar moved)
  unfolding hand_of state_of moved_by replay_in state_in
  moved-good = record { some = good.some; placed = good.placed }

  reward-after : reward_here σ.model moved ≡ reward_in σ.model (next_of σ w)
  reward-after = reward-alike σ.model model moved-alike moved-good

  large-after : large (hand_of ar moved) ≡ large (next_of σ w)
  large-after = large-alike ar model.arities moved-alike moved-good (listing σ.model.reward) (valid-listing σ.model.arities σ.model.reward model.reward-listed)

  -- ===== The four checks =====

  weight-test : has_no_weight σ.model r (did_in σ w) ≡ eqb (weight_of σ w) 0
  unfolding has_no_weight
  weight-test = ap (λ (s : State). eqb (weight_in ar s (did_in σ w).objects (variant_of σ.model (did_in σ w))) 0) hand-is

  facts-test : has_many_facts σ.model r (did_in σ w) ≡ ltb most_facts (facts_of_next σ w)
  unfolding has_many_facts moved_by
  facts-test =
      ap (λ (s : State). ltb most_facts (fact_count (facts_of ar (state_next σ.model s (did_in σ w))))) hand-is
      ∙ ap (ltb most_facts) (facts-count σ.model.arities model.arities (next_of σ w))

  large-test : has_valuations σ.model r (did_in σ w) ≡ ((eqb σ.live.count 0 && large (in_hand σ)) || large (next_of σ w))
  unfolding has_valuations reward_ends replay_in
  large-test = ap₂ (λ (s : State) (b : Bool). (eqb σ.live.count 0 && large s) || b) hand-is large-after

  pub met-is : reward_met σ.model r (did_in σ w) ≡ rewards_met σ w
  unfolding reward_met replay_in
  met-is = ap₂ (λ (s : State) (x : ℕ). cond (eqb σ.live.count 0) (reward_in σ.model s) 0 + x) hand-is reward-after

  high-test : is_too_high σ.model r (did_in σ w) ≡ (ltb highest_value (suc σ.live.count) || ltb highest_value (σ.live.total + rewards_met σ w))
  unfolding is_too_high counted replay_in
  high-test = ap (λ (x : ℕ). ltb highest_value (suc σ.live.count) || ltb highest_value (σ.live.total + x)) met-is

  pub did-by : (a b c e : Bool) → eqb (weight_of σ w) 0 ≡ a → ltb most_facts (facts_of_next σ w) ≡ b
      → ((eqb σ.live.count 0 && large (in_hand σ)) || large (next_of σ w)) ≡ c
      → (ltb highest_value (suc σ.live.count) || ltb highest_value (σ.live.total + rewards_met σ w)) ≡ e
      → did σ.model r (did_in σ w) ≡ checked_by a b c e (replay_by σ w)
  unfolding did
  did-by a b c e p q u v = rw (weight-test ∙ p, facts-test ∙ q, large-test ∙ u, high-test ∙ v)

  -- ===== The session behind it =====

  pub next-alike : Alike ar (in_hand (session_by σ w)) (next_of σ w)
  unfolding state_in replayed counted hand_of replay_in moved_by
  next-alike = moved-alike

  pub next-facts : fact_count (session_by σ w).live.facts ≡ facts_of_next σ w
  unfolding state_in replayed counted hand_of replay_in moved_by
  next-facts = facts-count σ.model.arities model.arities (next_of σ w)

  pub next-count : (session_by σ w).live.count ≡ suc σ.live.count
  unfolding replayed counted replay_in
  next-count = refl

  pub next-total : (session_by σ w).live.total ≡ σ.live.total + rewards_met σ w
  unfolding replayed counted replay_in
  next-total = ap (λ (x : ℕ). σ.live.total + x) met-is

  pub next-placed : (session_by σ w).live.placed ≡ σ.live.placed
  unfolding replayed
  next-placed = refl
