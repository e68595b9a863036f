-- The operations that a diagram's words are turned into, in the order of the words, and a machine with two stacks that runs them (document 01, section
-- 'Text': 'read as the row step above when it closes'). It builds what `read_diagram` reads (`build-reading`).
use Rattle.std.specs.Prelude.{cond, List, [], ◌∷◌, ℕ, length, ltb}
use Rattle.refusal.specs.declared.Refusal.TheVariants.{Form}
use Rattle.label.specs.declared.Test.{Test}
use Rattle.diagram.specs.Diagram.{Diagram, leaf}
use Rattle.diagram.specs.Variables.{closed}
use Rattle.refusal.specs.Outcome.{Outcome, ok, refused, and_then}
use Rattle.regression.specs.Calls.{Run, form}
use Rattle.regression.specs.Step.{test_diagram, row_step}
use Rattle.build.specs.Build.{held}
use Rattle.reading.specs.Operations.{Op}
use Rattle.reading.specs.Operations.Op.{ask, leaf_op, step}

-- 64 brackets open together at most: a test waits for each (if ..) that is open, and a true part's result for each of them, besides the last result
abbrev pub most_tests : ℕ
most_tests = 64

abbrev pub most_results : ℕ
most_results = 65

-- the tests asked and the results given that no step has taken yet, the latest first, and the rows formed
pub record Machine : Type 0 where
  pub tests : List Test
  pub results : List Diagram
  pub formed : List Diagram

-- a result that a step of the call gives
abbrev pub given : List Test → List Diagram → Outcome (Diagram × List Diagram) → Outcome Machine
given ts ds (ok p) = ok (record { tests = ts; results = p.0 ∷ ds; formed = p.1 })
given ts ds (refused w) = refused w

-- the row step of the latest test and the two latest results
unfoldable pub closing : List Test → List Diagram → List Diagram → Outcome Machine
unfolding row_step test_diagram
closing [] ds rs = refused Form
closing (t ∷ ts) [] rs = refused Form
closing (t ∷ ts) (y ∷ []) rs = refused Form
closing (t ∷ ts) (y ∷ x ∷ ds) rs = given ts ds (row_step (test_diagram t) x y rs)

-- one operation; 1 for operations that write no diagram, or one with too many brackets open
unfoldable pub operation : Op → Machine → Outcome Machine
unfolding form closing
operation (leaf_op v) m = cond (ltb (length m.results) most_results) (given m.tests m.results (form (leaf v) m.formed)) (refused Form)
operation (ask t) m =
    cond (ltb (length m.tests) most_tests) (ok (record { tests = t ∷ m.tests; results = m.results; formed = m.formed })) (refused Form)
operation step m = closing m.tests m.results m.formed

unfoldable pub operations : List Op → Machine → Outcome Machine
unfolding operation
operations [] m = ok m
operations (o ∷ os) m = and_then (operation o m) (operations os)

-- at the end one result is left, and no test
abbrev pub lone : List Test → List Diagram → List Diagram → Outcome (Diagram × List Diagram)
lone [] [] rs = refused Form
lone [] (d ∷ []) rs = ok (d, rs)
lone [] (d ∷ e ∷ ds) rs = refused Form
lone (t ∷ ts) ds rs = refused Form

abbrev pub ending : Machine → Outcome (Diagram × List Diagram)
ending m = lone m.tests m.results m.formed

unfoldable pub build : List Op → Run Diagram
unfolding operations
build os rs = and_then (operations os (record { tests = []; results = []; formed = rs })) ending

-- the diagram of a line from its operations: one call, its working space empty at first, and a result held to 1,024 rows (9)
unfoldable pub built : List Op → Outcome Diagram
unfolding build
built os = and_then (build os []) (λ p. held p.0)

-- a reward's, closed up
unfoldable pub built_closed : List ℕ → List Op → Outcome Diagram
unfolding build closed
built_closed ar os = and_then (build os []) (λ p. held (closed ar p.0))
