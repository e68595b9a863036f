-- Models, labels and diagrams of marked cases beside document 01's run: what (value) prints (document 01, (value)), and cases of document 01's checklist and of document 02, L13.
use Rattle.std.specs.Prelude.{List, [], ◌∷◌, ℕ, ◌+◌, ◌-◌, ◌^◌, replicate}
use Rattle.label.specs.Limits.{predicate_count, equality_arity, first_variable}
use Rattle.label.specs.Labels.{atom_from, packed}
use Rattle.diagram.specs.Diagram.{Diagram, leaf, branch}
use Rattle.state.specs.State.{meaning, State}
use Rattle.minimum.specs.Number.{number}
use Rattle.mdp.specs.Model.{Model, scale}
use Rattle.mdp.specs.Example.{no_truths}
use Rattle.mdp.specs.Runs.{Call, run}

-- what (value) prints: value, k, S^k
abbrev pub shown : Model → List Call → State → ℕ × ℕ × ℕ
shown m l s = (number s [] (meaning m.arities (run m l).diagram), (run m l).steps, scale m ^ (run m l).steps)

-- S = 8, reward 1, one action that changes nothing
abbrev pub eight_model : Model
eight_model = record {
  arities = equality_arity ∷ replicate (predicate_count - 1) 0;
  total = 4;
  numerator = 1;
  denominator = 2;
  reward = leaf 1;
  actions = record { count = 0; variants = record { weight = leaf 4; truths = no_truths } ∷ [] } ∷ [];
}

-- p(?a ?b) and p(?b ?a), where p is predicate 1, ?a and ?b the first two variables
abbrev pub ab : ℕ
ab = packed (atom_from 1 (first_variable ∷ (first_variable + 1) ∷ []))

abbrev pub ba : ℕ
ba = packed (atom_from 1 ((first_variable + 1) ∷ first_variable ∷ []))

-- a reward 1 if p(?a ?a), p(?a ?b) or p(?b ?a), the last as "more", and no action
abbrev pub aa : ℕ
aa = packed (atom_from 1 (first_variable ∷ first_variable ∷ []))

abbrev pub linked : Diagram → Diagram
linked more = branch aa (leaf 1) (branch ab (leaf 1) more)

abbrev pub pair_model : Model
pair_model = record {
  arities = equality_arity ∷ 2 ∷ replicate (predicate_count - 2) 0;
  total = 1;
  numerator = 0;
  denominator = 1;
  reward = linked (branch ba (leaf 1) (leaf 0));
  actions = [];
}

-- p(?b ?b)
abbrev pub bb : ℕ
bb = packed (atom_from 1 ((first_variable + 1) ∷ (first_variable + 1) ∷ []))

-- 2 if p(?b ?b), and p(?b ?a) or not p(?a ?a)
abbrev pub path_to_zero : Diagram
path_to_zero = branch aa (branch ba (branch bb (leaf 2) (leaf 0)) (leaf 0)) (branch bb (leaf 2) (leaf 0))
