-- Moves in document 01's run, computed from the definitions.
use Rattle.std.specs.Prelude.{◌≡◌, refl, false, [], ◌∷◌}
use Rattle.refusal.specs.Outcome.{ok}
use Rattle.label.specs.Terms.{is_constant, is_variable}
use Rattle.label.specs.Labels.{unpacked, predicate_of, packed, test_of, equates, terms_of}
use Rattle.label.specs.Renamings.{moved, renamed, mapped, placed, numbering, freeing}
use Rattle.diagram.specs.Diagram.{leaf}
use Rattle.diagram.specs.Listing.{listing, diagram_of}
use Rattle.diagram.specs.Variables.{variables, closed, after}
use Rattle.apply.specs.Apply.{apply}
use Rattle.apply.specs.Pairs.{ends, pairs, pair_count, overflows}
use Rattle.apply.specs.Formed.{formed}
use Rattle.apply.specs.Combination.{rows_formed, combination, diagram_answer}
use Rattle.state.specs.State.{meaning, State}
use Rattle.minimum.specs.Number.{number}
use Rattle.state.specs.ValueCall.{valuations}
use Rattle.regression.specs.Regression.{truth_at}
use Rattle.mdp.specs.Model.{Model, scale}
use Rattle.mdp.specs.Example.{no_truths, run_model, nothing_true, stock_at_hub}
use Rattle.mdp.specs.Backup.{backup}
use Rattle.mdp.specs.Runs.{a_backup, run}
use Rattle.best.specs.Moves.{move, move_sum}
use Rattle.best.specs.Best.{best_answer}

-- as in the run, but hub is object 1
abbrev hub_at_one : State
hub_at_one = record { size = 2; constant = λ c. 1; fact = λ p os. false }

-- the run's model with an action before its own that changes nothing
abbrev wait_model : Model
wait_model = record {
  arities = run_model.arities;
  total = run_model.total;
  numerator = run_model.numerator;
  denominator = run_model.denominator;
  reward = run_model.reward;
  actions = record { count = 0; variants = record { weight = leaf 4; truths = no_truths } ∷ [] } ∷ run_model.actions;
}

-- Object 0 is filled where hub is object 0, object 1 where hub is object 1, with the sum 1 · 3 · 10; a tie goes to the lower object; behind a backup likewise. Waiting has
-- the sum 0 where nothing is true, and where the stock of hub is true it ties with filling and is the earlier action.
pub table-best : (best_answer run_model nothing_true run_model.reward ≡ ok (move 0 (0 ∷ [])))
    × (best_answer run_model hub_at_one run_model.reward ≡ ok (move 0 (1 ∷ [])))
    × (move_sum run_model 0 hub_at_one (move 0 (1 ∷ [])) ≡ 30)
    × (best_answer run_model stock_at_hub run_model.reward ≡ ok (move 0 (0 ∷ [])))
    × (best_answer run_model hub_at_one (run run_model (a_backup ∷ [])).diagram ≡ ok (move 0 (1 ∷ [])))
    × (best_answer wait_model hub_at_one wait_model.reward ≡ ok (move 1 (1 ∷ [])))
    × (best_answer wait_model stock_at_hub wait_model.reward ≡ ok (move 0 []))
unfolding best_answer move_sum run number meaning scale diagram_answer combination rows_formed formed ends pairs pair_count overflows apply
    backup truth_at variables closed after moved test_of equates renamed numbering freeing
    mapped placed packed unpacked predicate_of terms_of is_variable is_constant listing diagram_of valuations
table-best = (refl, refl, refl, refl, refl, refl, refl)
