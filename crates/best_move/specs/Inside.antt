-- What the parts of the code of (best) require, keep and answer. Nobody must believe these: Chosen has what the call promises.
use Rattle.std.specs.Prelude.{◌≡◌, Bool, true, ◌&&◌, cond, List, [], ◌∷◌, ◌++◌, ℕ, zero, suc, ◌-◌, ◌/◌, ◌%◌, ◌≤◌, ◌<◌, length, get_or, eqb, ltb}
use Rattle.refusal.specs.Outcome.{Outcome, ok, refused, and_then}
use Rattle.label.specs.Limits.{parameter_count}
use Rattle.diagram.specs.Sizes.{highest_value, space_words}
use Rattle.diagram.specs.Diagram.{Diagram, leaf}
use Rattle.diagram.specs.Words.{row_count, is_listing}
use Rattle.diagram.specs.Listing.{diagram_of}
use Rattle.state.specs.State.{State, meaning}
use Rattle.state.specs.Lent.{state_of, is_state, most_objects}
use Rattle.state.specs.Max.{tuples}
use Rattle.regression.specs.Parameters.{Within}
use Rattle.mdp.specs.Model.{Action}
use Rattle.mdp.specs.Backup.{variants_sum}
use Rattle.model.specs.declared.Head.{Head}
use Rattle.model.specs.Layout.{action_at, model_of}
use Rattle.best.specs.Moves.{move, first_move}
use Rattle.best.specs.Best.{Rated, rated, better, binding_value, bindings_best, moves_best}
use Rattle.fact_index.specs.Inner.{indexed_count, Indexed}
use Rattle.best_move.specs.declared.Lead.{Lead}
use Rattle.refusal.specs.declared.Refusal.{Refusal}
use Rattle.std.specs.Prelude.{Err, Ok, Result}

-- ===== Tuples by number =====

-- the last c digits of i to base n, the highest first: the tuple of number i
unfoldable pub digits : ℕ → ℕ → ℕ → List ℕ
digits n zero i = []
digits n (suc c) i = digits n c (i / n) ++ (i % n ∷ [])

-- ===== The best so far =====

-- the move that it is, and its sum
abbrev pub rate_of : ℕ → Lead → Rated
rate_of n l = rated (move l.action (digits n l.count l.index)) (l.best - 1)

-- what is answered, as an outcome
abbrev pub led_as : ℕ → Result Lead Refusal → Outcome Rated
led_as n (Ok l) = ok (rate_of n l)
led_as n (Err r) = refused r

-- it has a sum, and no more objects than an action has parameters
pub record Leading (l : Lead) : Type 0 where
  pub some : 1 ≤ l.best
  pub few : l.count ≤ parameter_count

-- the answer is what o gives
pub record Rates (n : ℕ) (o : Outcome Rated) (r : Result Lead Refusal) : Type 0 where
  pub is : led_as n r ≡ o
  pub leading : (l : Lead) → r ≡ Ok l → Leading l

-- the first move of all, with the sum 0
unfoldable pub first_lead : List ℕ → ℕ → Lead
first_lead table actions = record { best = 1; action = 0; count = cond (eqb actions 0) 0 (get_or table 0 0); index = 0 }

-- the best so far once the tuple of number i of the action a, which has c parameters, has climbed to b
unfoldable pub raised_to : Lead → ℕ → ℕ → ℕ → ℕ → Lead
raised_to l b a c i = cond (ltb l.best b) (record { best = b; action = a; count = c; index = i }) l

-- no tuple can pass the best so far, where 15 cannot be met: no leaf below the root is that high
unfoldable pub settled : List ℕ → List ℕ → Bool → ℕ → Bool
settled ws high few best = few && ltb (get_or high (row_count ws - 1) 0) best

-- ===== One binding, one action =====

-- the best so far, and one binding more
unfoldable pub binding_tried : List ℕ → State → ℕ → Diagram → Rated → List ℕ → Outcome Rated
unfolding binding_value better
binding_tried ar s i q best os = and_then (binding_value ar s q os) (λ x. ok (better best (rated (move i os) x)))

-- the best so far, and one action more, of number i
unfoldable pub action_tried : List ℕ → ℕ → State → Diagram → ℕ → Action → Rated → Outcome Rated
unfolding variants_sum tuples bindings_best
action_tried ar g s d i a best = and_then (variants_sum ar g d (leaf 0) a.variants) (λ q. bindings_best ar s i q (tuples s.size a.count) best)

-- the same on lent words: the tuple of number i of an action with c parameters, whose regressed sum is ws; its tuples; the action a; the actions
abbrev pub binding_lent : List ℕ → List ℕ → ℕ → List ℕ → List ℕ → ℕ → ℕ → ℕ → Lead → Outcome Rated
binding_lent ar ws n constants facts a c i l = binding_tried ar (state_of ar n constants facts) a (diagram_of ws) (rate_of n l) (digits n c i)

abbrev pub bindings_lent : List ℕ → List ℕ → ℕ → List ℕ → List ℕ → ℕ → ℕ → Lead → Outcome Rated
bindings_lent ar ws n constants facts a c l = bindings_best ar (state_of ar n constants facts) a (diagram_of ws) (tuples n c) (rate_of n l)

abbrev pub action_lent : List ℕ → List ℕ → List ℕ → ℕ → ℕ → ℕ → List ℕ → List ℕ → List ℕ → Lead → Outcome Rated
action_lent ar listings table a g n constants facts value l =
    action_tried ar g (state_of ar n constants facts) (diagram_of value) a (action_at listings table a) (rate_of n l)

abbrev pub moves_lent : List ℕ → List ℕ → List ℕ → Head → ℕ → List ℕ → List ℕ → List ℕ → Outcome Rated
moves_lent ar listings table h n constants facts value =
    moves_best (model_of ar listings table h) (state_of ar n constants facts) (diagram_of value) 0 (model_of ar listings table h).actions
    (rated (first_move (model_of ar listings table h)) 0)

-- ===== What the parts require =====

-- a root, and its highest leaf
pub record Rooted (ws high : List ℕ) : Type 0 where
  pub some : 1 ≤ row_count ws
  pub places : row_count ws ≤ length high

-- n objects, few enough for a byte, and c of them few enough for an action
pub record Tupled (n c : ℕ) : Type 0 where
  pub some : 0 < n
  pub objects-few : n ≤ most_objects
  pub few : c ≤ parameter_count

-- a state with the index of its facts
pub record Placed (ar : List ℕ) (n : ℕ) (constants facts index : List ℕ) : Type 0 where
  pub lent : is_state ar n constants facts ≡ true
  pub objects-few : n ≤ most_objects
  pub indexed : Indexed ar facts index (indexed_count facts index)

-- a value's listing without parameters, the discount's numerator, and room for the rows formed
pub record ValueGiven (ar value : List ℕ) (g : ℕ) (work : List ℕ) : Type 0 where
  pub value-listing : is_listing ar value ≡ true
  pub within : Within 0 (meaning ar (diagram_of value))
  pub few : g ≤ highest_value
  pub work-room : space_words ≤ length work

-- a lead, if there is one, whose objects are bytes
pub record Answerable (n : ℕ) (r : Result Lead Refusal) : Type 0 where
  pub some : 0 < n
  pub objects-few : n ≤ most_objects
  pub leading : (l : Lead) → r ≡ Ok l → Leading l
