-- Replay of logged lines (document 02, L10): "moves the state in hand by that variant's truth diagrams", "totals the rewards met, unscaled".
use Rattle.std.specs.Prelude.{Bool, ◌&&◌, ◌||◌, cond, List, [], ◌∷◌, map, ℕ, suc, pred, ◌+◌, get_or, eqb, ltb}
use Rattle.std.proofs.Math.Option.{none}
use Rattle.refusal.specs.declared.Refusal.TheVariants.{Weightless, Crowded, Valuations, Tally}
use Rattle.refusal.specs.Outcome.{Outcome, ok, refused}
use Rattle.label.specs.Limits.{predicate_count}
use Rattle.diagram.specs.Sizes.{highest_value}
use Rattle.diagram.specs.Diagram.{leaf}
use Rattle.diagram.specs.Words.{up_to}
use Rattle.diagram.specs.Listing.{listing}
use Rattle.state.specs.State.{State}
use Rattle.state.specs.Lent.{fact_row, most_facts, fact_count, state_of}
use Rattle.state.specs.Max.{gather, those, tuples}
use Rattle.elimination.specs.Answer.{is_too_large}
use Rattle.mdp.specs.Model.{Variant, Action, Model}
use Rattle.mdp.specs.Bellman.{weight_in, state_after, reward_in}

-- ===== Lines and what is in hand =====

-- (did action variant object ..), its names found: the numbers of the action and of its variant, from 0, and the objects
pub record Did : Type 0 where
  pub action : ℕ
  pub variant : ℕ
  pub objects : List ℕ

abbrev pub no_variant : Variant
no_variant = record { weight = leaf 0; truths = λ p. none }

abbrev pub no_action : Action
no_action = record { count = 0; variants = [] }

abbrev pub action_of : Model → Did → Action
action_of m d = get_or m.actions d.action no_action

abbrev pub variant_of : Model → Did → Variant
variant_of m d = get_or (action_of m d).variants d.variant no_variant

-- the state in hand as it is lent, how many lines were accepted, and the total of the rewards met
pub record Replay : Type 0 where
  pub size : ℕ
  pub constants : List ℕ
  pub facts : List ℕ
  pub count : ℕ
  pub total : ℕ

unfoldable pub in_hand : List ℕ → Replay → State
unfolding state_of
in_hand ar r = state_of ar r.size r.constants r.facts

-- "begun at count 0": count and total are 0
unfoldable pub begun : ℕ → List ℕ → List ℕ → Replay
begun n constants facts = record { size = n; constants = constants; facts = facts; count = 0; total = 0 }

-- ===== The facts of a state as rows =====

-- what is true of the predicate p, lowest objects first
unfoldable pub rows_at : List ℕ → State → ℕ → List (List ℕ)
unfolding tuples
rows_at ar s p = map (fact_row p) (those (s.fact p) (tuples s.size (get_or ar p 0)))

-- predicate by predicate; equality has no facts
unfoldable pub fact_rows : List ℕ → State → List (List ℕ)
unfolding rows_at
fact_rows ar s = gather (λ p. rows_at ar s (suc p)) (up_to (pred predicate_count))

-- row behind row
abbrev pub flat : List (List ℕ) → List ℕ
flat rows = gather (λ row. row) rows

unfoldable pub facts_of : List ℕ → State → List ℕ
unfolding fact_rows
facts_of ar s = flat (fact_rows ar s)

-- ===== One line =====

-- the state that the variant's truth diagrams give
unfoldable pub state_next : Model → State → Did → State
unfolding state_after
state_next m s d = state_after m.arities s d.objects (variant_of m d)

-- it, in hand: the new facts, all else as it was
unfoldable pub moved_by : Model → Replay → Did → Replay
unfolding in_hand facts_of state_next
moved_by m r d = record {
  size = r.size;
  constants = r.constants;
  facts = facts_of m.arities (state_next m (in_hand m.arities r) d);
  count = r.count;
  total = r.total;
}

abbrev pub reward_here : Model → Replay → ℕ
reward_here m r = reward_in m (in_hand m.arities r)

-- no line was accepted yet
abbrev pub is_first : Replay → Bool
is_first r = eqb r.count 0

-- "The first such line accepted adds the reward before and after its move, each later one the reward after"
unfoldable pub reward_met : Model → Replay → Did → ℕ
unfolding moved_by reward_in in_hand
reward_met m r d = cond (is_first r) (reward_here m r) 0 + reward_here m (moved_by m r d)

-- 15 of the reward's listing, here
unfoldable pub reward_ends : Model → Replay → Bool
unfolding is_too_large in_hand
reward_ends m r = is_too_large m.arities (in_hand m.arities r) [] (listing m.reward)

-- the line counted: the state moved, one more, and the rewards met
unfoldable pub counted : Model → Replay → Did → Replay
unfolding moved_by reward_met
counted m r d = record {
  size = r.size;
  constants = r.constants;
  facts = (moved_by m r d).facts;
  count = suc r.count;
  total = r.total + reward_met m r d;
}

-- "21, the variant's weight is 0 in the state"
unfoldable pub has_no_weight : Model → Replay → Did → Bool
unfolding weight_in in_hand
has_no_weight m r d = eqb (weight_in m.arities (in_hand m.arities r) d.objects (variant_of m d)) 0

-- "22, the facts of the next state pass 1,024"
unfoldable pub has_many_facts : Model → Replay → Did → Bool
unfolding moved_by
has_many_facts m r d = ltb most_facts (fact_count (moved_by m r d).facts)

-- 15: the reward before, on the first line; the reward after
unfoldable pub has_valuations : Model → Replay → Did → Bool
unfolding reward_ends moved_by
has_valuations m r d = (is_first r && reward_ends m r) || reward_ends m (moved_by m r d)

-- "23, the count or the total passes 10^18"
unfoldable pub is_too_high : Model → Replay → Did → Bool
unfolding counted
is_too_high m r d = ltb highest_value (counted m r d).count || ltb highest_value (counted m r d).total

-- "checked after names and counts; .. checked next and before 15; .. checked last"
unfoldable pub did : Model → Replay → Did → Outcome Replay
unfolding has_no_weight has_many_facts has_valuations is_too_high counted
did m r d =
    cond (has_no_weight m r d) (refused Weightless)
    (cond (has_many_facts m r d) (refused Crowded)
    (cond (has_valuations m r d) (refused Valuations)
    (cond (is_too_high m r d) (refused Tally)
    (ok (counted m r d)))))

-- ===== Lists of lines =====

-- what is in hand behind an answer: a refused line leaves all as it was
abbrev pub behind : Replay → Outcome Replay → Replay
behind r (ok r') = r'
behind r (refused e) = r

unfoldable pub replay : Model → Replay → List Did → Replay
unfolding did
replay m r [] = r
replay m r (d ∷ l) = replay m (behind r (did m r d)) l

-- the line stands before others if it was accepted
abbrev pub if_accepted : Outcome Replay → Did → List Did → List Did
if_accepted (ok r) d l = d ∷ l
if_accepted (refused e) d l = l

-- those of the lines that were accepted, in their order
unfoldable pub accepted_of : Model → Replay → List Did → List Did
unfolding did
accepted_of m r [] = []
accepted_of m r (d ∷ l) = if_accepted (did m r d) d (accepted_of m (behind r (did m r d)) l)
