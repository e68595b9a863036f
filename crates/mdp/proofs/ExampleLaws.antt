-- The model of document 01's run is one that reading can accept, and so it is with a minimum variable in the reward.
use Rattle.std.specs.Prelude.{◌≡◌, refl, List, [], ◌∷◌, ℕ, zero, suc, ◌<◌, get_or}
use Rattle.std.proofs.Common.{subst, arith}
use Rattle.std.proofs.Math.Option.{Option, some, none}
use Rattle.label.specs.Limits.{first_parameter, first_variable, first_minimum, leaf_mark, predicate_count}
use Rattle.label.specs.Terms.{is_term, is_constant, is_parameter, is_variable, is_minimum}
use Rattle.label.specs.Labels.{are_arities, is_label, is_atom, place_fits, in_order, packed, unpacked, predicate_of, terms_of}
use Rattle.label.specs.Renamings.{renamed, mapped, placed, numbering}
use Rattle.diagram.specs.Diagram.{Diagram, leaf, relabel}
use Rattle.diagram.specs.Words.{is_listing, label_at, high_at, low_at, is_leaf_row, is_branch_row, equal_rows, are_distinct, finish, are_numbered}
use Rattle.diagram.specs.Listing.{Good, diagram_of, tree_at}
use Rattle.diagram.specs.Listings.{is-listing-good}
use Rattle.diagram.specs.Variables.{closed}
use Rattle.state.specs.State.{atom_of, meaning}
use Rattle.mdp.specs.Model.{GoodTruthDiagram, GoodModel}
use Rattle.mdp.specs.Example.{for_first, hub, stock, equals, run_truth, run_model, everywhere}

abbrev ar : List ℕ
ar = run_model.arities

-- its labels have the numbers of document 02, L8: stock(hub) 2^48, hub = ?v0 64 · 2^32
pub run-labels : (stock hub ≡ 281474976710656) × (equals hub first_variable ≡ 274877906944)
unfolding packed
run-labels = (refl, refl)

reward-good : Good ar run_model.reward
unfolding is_listing are_arities is_label is_atom packed unpacked place_fits is_term is_constant is_parameter is_variable in_order is_leaf_row is_branch_row
    label_at high_at low_at are_distinct equal_rows are_numbered finish diagram_of tree_at
reward-good = is-listing-good ar (leaf_mark ∷ 10 ∷ 0 ∷ leaf_mark ∷ 0 ∷ 0 ∷ stock hub ∷ 0 ∷ 1 ∷ []) refl

weight-good : Good ar (leaf 3) × Good ar (leaf 1)
unfolding is_listing are_arities is_label is_atom packed unpacked place_fits is_term is_constant is_parameter is_variable in_order is_leaf_row is_branch_row
    label_at high_at low_at are_distinct equal_rows are_numbered finish diagram_of tree_at
weight-good = (is-listing-good ar (leaf_mark ∷ 3 ∷ 0 ∷ []) refl, is-listing-good ar (leaf_mark ∷ 1 ∷ 0 ∷ []) refl)

truth-good : Good ar run_truth
unfolding is_listing are_arities is_label is_atom packed unpacked place_fits is_term is_constant is_parameter is_variable in_order is_leaf_row is_branch_row
    label_at high_at low_at are_distinct equal_rows are_numbered finish diagram_of tree_at
truth-good = is-listing-good ar (leaf_mark ∷ 1 ∷ 0 ∷ leaf_mark ∷ 0 ∷ 0 ∷ stock first_variable ∷ 0 ∷ 1 ∷ equals first_parameter first_variable ∷ 0 ∷ 2 ∷ []) refl

truth-diagram-good : GoodTruthDiagram ar 1 1 run_truth
unfolding meaning relabel atom_of packed unpacked terms_of predicate_of
truth-diagram-good = record {
  listed = truth-good;
  bits = (omega arith, (omega arith, omega arith));
  parameters = record { terms = (((λ h. absurd (omega arith)), ((λ h. omega arith), tt)), tt, (((λ h. omega arith), tt), tt, tt)) };
  arguments = ((omega arith, (omega arith, tt)), tt, ((omega arith, tt), tt, tt));
}

nothing : {A : Type 0} {d : Diagram} → ◌≡◌ {A = Option Diagram} none (some d) → A
nothing e = let z : ◌≡◌ {A = ℕ} 0 1 = cc in absurd (omega arith)

pub run-model-good : GoodModel run_model
unfolding are_arities meaning relabel atom_of unpacked terms_of predicate_of closed renamed packed mapped placed numbering
run-model-good = record {
  arities = refl;
  total-some = omega arith;
  total-few = omega arith;
  denominator-some = omega arith;
  denominator-few = omega arith;
  numerator-few = omega arith;
  reward-listed = reward-good;
  reward-closed = refl;
  reward = record { terms = (((λ h. absurd (omega arith)), tt), tt, tt) };
  actions-few = omega arith;
  actions = (
    record {
      few = omega arith;
      variants-few = omega arith;
      variants = (
        record { listed = weight-good.0; weight = tt; truths = done },
        (record { listed = weight-good.1; weight = tt; truths = λ p d h k e. nothing e }, tt),
      );
    },
    tt,
  );
}
  where
    done : (p : ℕ) (d : Diagram) → 0 < p → p < predicate_count → for_first run_truth p ≡ some d → GoodTruthDiagram ar 1 (get_or ar p 0) d
    done zero d h k e = absurd (omega arith)
    done (suc zero) d h k e = let q : run_truth ≡ d = cc in subst (GoodTruthDiagram ar 1 1) q truth-diagram-good
    done (suc (suc p)) d h k e = nothing e

everywhere-reward : Good ar everywhere.reward
unfolding is_listing are_arities is_label is_atom packed unpacked place_fits is_term is_constant is_parameter is_variable is_minimum in_order is_leaf_row is_branch_row
    label_at high_at low_at are_distinct equal_rows are_numbered finish diagram_of tree_at
everywhere-reward = is-listing-good ar (leaf_mark ∷ 10 ∷ 0 ∷ leaf_mark ∷ 0 ∷ 0 ∷ stock first_minimum ∷ 0 ∷ 1 ∷ []) refl

pub everywhere-good : GoodModel everywhere
unfolding meaning relabel atom_of unpacked terms_of predicate_of closed renamed packed mapped placed numbering
everywhere-good =
    let g = run-model-good in
    record {
      arities = g.arities;
      total-some = g.total-some;
      total-few = g.total-few;
      denominator-some = g.denominator-some;
      denominator-few = g.denominator-few;
      numerator-few = g.numerator-few;
      reward-listed = everywhere-reward;
      reward-closed = refl;
      reward = record { terms = (((λ h. omega arith), tt), tt, tt) };
      actions-few = g.actions-few;
      actions = g.actions;
    }
