-- Replacement and regression, row by row (document 01, section 'Regression').
use Rattle.std.specs.Prelude.{cond, List, [], ◌∷◌, ◌++◌, ℕ, pred, ◌-◌, length, get_or, eqb, ltb}
use Rattle.std.proofs.Math.Option.{Option, some, none}
use Rattle.refusal.specs.declared.Refusal.TheVariants.{Space}
use Rattle.refusal.specs.Outcome.{Outcome, ok, refused, and_then}
use Rattle.label.specs.Limits.{first_variable, equality}
use Rattle.label.specs.Labels.{predicate_of, unpacked, terms_of}
use Rattle.label.specs.Renamings.{moved}
use Rattle.diagram.specs.Sizes.{most_rows}
use Rattle.diagram.specs.Diagram.{Diagram, leaf, branch}
use Rattle.diagram.specs.Rows.{rows}
use Rattle.diagram.specs.Listing.{index}
use Rattle.regression.specs.Calls.{Run, pure, bind, form}
use Rattle.regression.specs.Step.{label_test, test_diagram, row_step}

-- the result of the row x: results stand in the order of the rows
abbrev pub result_of : List Diagram → List Diagram → Diagram → Diagram
result_of whole results x = get_or results (index x whole) (leaf 0)

-- the result of one row, T given for its label: a leaf row is formed as it is
unfoldable pub row_result : (ℕ → Run Diagram) → List Diagram → List Diagram → Diagram → Run Diagram
unfolding form row_step index
row_result T whole results (leaf v) = form (leaf v)
row_result T whole results (branch l t f) = bind (T l) (λ x. row_step x (result_of whole results t) (result_of whole results f))

-- for each row, in number order
unfoldable pub row_results : (ℕ → Run Diagram) → List Diagram → List Diagram → List Diagram → Run (List Diagram)
unfolding row_result
row_results T whole [] results = pure results
row_results T whole (r ∷ more) results = bind (row_result T whole results r) (λ x. row_results T whole more (results ++ (x ∷ [])))

-- the root is the last row
abbrev pub last_of : List Diagram → Diagram
last_of results = get_or results (pred (length results)) (leaf 0)

unfoldable pub over_rows : (ℕ → Run Diagram) → Diagram → Run Diagram
unfolding row_results rows
over_rows T d = bind (row_results T (rows d) (rows d) []) (λ results. pure (last_of results))

-- the terms of p(t1..) for the arguments of p, the first variables in their order: all arguments are replaced together
unfoldable pub argument : List ℕ → ℕ → ℕ
argument ts t = cond (ltb t first_variable) t (get_or ts (t - first_variable) 0)

-- replacement is built likewise, bottom up, with the one-row test of the new label as T (leaf 1 where it is t = t)
unfoldable pub replacement : List ℕ → (ℕ → ℕ) → Diagram → Run Diagram
unfolding over_rows test_diagram
replacement ar σ d = over_rows (λ l. pure (test_diagram (moved ar σ l))) d

-- the truth diagrams of a variant, by predicate
abbrev pub Truths : Type 0
Truths = ℕ → Option Diagram

-- equality has none
unfoldable pub truth_of : Truths → ℕ → Option Diagram
truth_of truths p = cond (eqb p equality) none (truths p)

-- T for the label l: the truth diagram with its arguments replaced; a predicate without one, and equality, stay
unfoldable pub truth_from : List ℕ → Option Diagram → ℕ → Run Diagram
unfolding replacement argument
truth_from ar none l = pure (label_test l)
truth_from ar (some d) l = replacement ar (argument (terms_of ar (unpacked l))) d

unfoldable pub truth_at : List ℕ → Truths → ℕ → Run Diagram
unfolding truth_of truth_from
truth_at ar truths l = truth_from ar (truth_of truths (predicate_of l)) l

-- the rows of the value diagram, in one working space
unfoldable pub regression : List ℕ → Truths → Diagram → Run Diagram
unfolding over_rows truth_at
regression ar truths d = over_rows (truth_at ar truths) d

-- a regression is one call, its working space empty at first; a result above 1,024 rows is also 9
unfoldable pub regressed : List ℕ → Truths → Diagram → Outcome Diagram
unfolding regression
regressed ar truths d =
    and_then (regression ar truths d []) (λ r. cond (ltb most_rows (length (rows r.0))) (refused Space) (ok r.0))
