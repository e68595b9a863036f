-- The diagrams that the steps of a regression give where none is refused, without the working space (document 01, section 'Regression').
use Rattle.std.specs.Prelude.{Bool, true, List, ℕ, ◌+◌, ◌*◌, ◌≤◌}
use Rattle.std.proofs.Math.Option.{Option, some, none}
use Rattle.label.specs.Labels.{predicate_of, unpacked, terms_of}
use Rattle.label.specs.Renamings.{moved}
use Rattle.label.specs.declared.Test.{Test}
use Rattle.label.specs.declared.Test.TheVariants.{Always, Is}
use Rattle.diagram.specs.Diagram.{Diagram, leaf, branch}
use Rattle.apply.specs.Apply.{apply}
use Rattle.regression.specs.Step.{label_test, test_diagram, exchanged}
use Rattle.regression.specs.Regression.{argument, Truths, truth_of}

-- (T times true result) + ((1 - T) times false result)
unfoldable pub stepped : Diagram → Diagram → Diagram → Diagram
unfolding apply exchanged
stepped T t f = apply ◌+◌ (apply ◌*◌ T t) (apply ◌*◌ (exchanged T) f)

-- every row, T given for its label
unfoldable pub rebuilt : (ℕ → Diagram) → Diagram → Diagram
unfolding stepped
rebuilt T (leaf v) = leaf v
rebuilt T (branch l t f) = stepped (T l) (rebuilt T t) (rebuilt T f)

unfoldable pub replaced : List ℕ → (ℕ → ℕ) → Diagram → Diagram
unfolding rebuilt test_diagram
replaced ar σ d = rebuilt (λ l. test_diagram (moved ar σ l)) d

unfoldable pub truth_given : List ℕ → Option Diagram → ℕ → Diagram
unfolding replaced argument
truth_given ar none l = label_test l
truth_given ar (some d) l = replaced ar (argument (terms_of ar (unpacked l))) d

-- T for the label l
unfoldable pub truth_diagram : List ℕ → Truths → ℕ → Diagram
unfolding truth_given truth_of
truth_diagram ar truths l = truth_given ar (truth_of truths (predicate_of l)) l

unfoldable pub regressed_diagram : List ℕ → Truths → Diagram → Diagram
unfolding rebuilt truth_diagram
regressed_diagram ar truths d = rebuilt (truth_diagram ar truths) d

-- no leaf is above b
abbrev pub AtMost : ℕ → Diagram → Type 0
AtMost b (leaf v) = v ≤ b
AtMost b (branch l t f) = AtMost b t × AtMost b f

-- what a test asks of a choice of true or false for all labels
abbrev pub asked : (ℕ → Bool) → Test → Bool
asked c Always = true
asked c (Is l) = c l.packed
