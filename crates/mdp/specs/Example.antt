-- Document 01's run (section 'A run, whole'): its model and its two states; and its model with a minimum variable in the reward.
use Rattle.std.specs.Prelude.{Bool, false, ◌&&◌, List, [], ◌∷◌, ℕ, zero, suc, ◌-◌, replicate, eqb}
use Rattle.std.proofs.Math.Option.{some, none}
use Rattle.label.specs.Limits.{predicate_count, equality_arity, first_parameter, first_variable, first_minimum}
use Rattle.label.specs.Labels.{atom_from, equal_atom, packed}
use Rattle.diagram.specs.Diagram.{Diagram, leaf, branch}
use Rattle.state.specs.State.{State}
use Rattle.regression.specs.Regression.{Truths}
use Rattle.mdp.specs.Model.{Model}

-- a truth diagram for predicate 1 alone, or none
abbrev pub for_first : Diagram → Truths
for_first d zero = none
for_first d (suc zero) = some d
for_first d (suc (suc p)) = none

abbrev pub no_truths : Truths
no_truths p = none

-- document 01's run: hub is constant 0, stock predicate 1; the labels of stock(t), and of t = u for t below u
abbrev pub hub : ℕ
hub = 0

abbrev pub stock : ℕ → ℕ
stock t = packed (atom_from 1 (t ∷ []))

abbrev pub equals : ℕ → ℕ → ℕ
equals t u = packed (equal_atom t u)

-- its action's truth diagram: (if (= !d ?s) 1 (if (stock ?s) 1 0))
abbrev pub run_truth : Diagram
run_truth = branch (equals first_parameter first_variable) (leaf 1) (branch (stock first_variable) (leaf 1) (leaf 0))

abbrev pub run_model : Model
run_model = record {
  arities = equality_arity ∷ 1 ∷ replicate (predicate_count - 2) 0;
  total = 4;
  numerator = 1;
  denominator = 2;
  reward = branch (stock hub) (leaf 10) (leaf 0);
  actions = record {
    count = 1;
    variants =
        record { weight = leaf 3; truths = for_first run_truth }
        ∷ record { weight = leaf 1; truths = no_truths }
        ∷ [];
  } ∷ [];
}

-- the same with the reward 10 where the stock is everywhere, instead of at hub: (if (stock %v0) 10 0) (document 02, L12)
abbrev pub everywhere : Model
everywhere = record {
  arities = run_model.arities;
  total = run_model.total;
  numerator = run_model.numerator;
  denominator = run_model.denominator;
  reward = branch (stock first_minimum) (leaf 10) (leaf 0);
  actions = run_model.actions;
}

-- two objects, hub is object 0; nothing is true, then the stock of object 0
abbrev pub nothing_true : State
nothing_true = record { size = 2; constant = λ c. 0; fact = λ p os. false }

abbrev pub is_nought : List ℕ → Bool
is_nought [] = false
is_nought (o ∷ []) = eqb o 0
is_nought (o ∷ n ∷ os) = false

abbrev pub stock_at_hub : State
stock_at_hub = record { size = 2; constant = λ c. 0; fact = λ p os. eqb p 1 && is_nought os }
