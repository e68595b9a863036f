-- A diagram of a text (document 01, section 'Text'): 'A diagram is a number, or (if ATOM DIAGRAM DIAGRAM), read as the row step above when it closes, T
-- being the test of ATOM'.
use Rattle.std.specs.Prelude.{Bool, cond, List, [], ℕ, length, ltb}
use Rattle.refusal.specs.declared.Refusal.TheVariants.{Space}
use Rattle.diagram.specs.Sizes.{most_rows}
use Rattle.diagram.specs.Diagram.{Diagram, leaf}
use Rattle.diagram.specs.Rows.{rows}
use Rattle.diagram.specs.Variables.{closed}
use Rattle.refusal.specs.Outcome.{Outcome, ok, refused, and_then}
use Rattle.regression.specs.Calls.{Run, bind, form}
use Rattle.regression.specs.Result.{asked}
use Rattle.regression.specs.Step.{test_diagram, row_step}
use Rattle.reading.specs.Tree.{Reading}
use Rattle.reading.specs.Tree.Reading.{branch, number}

-- what is written means, for a choice of true or false for all labels, the leaf that the choice leads to
abbrev pub meaning : (ℕ → Bool) → Reading → ℕ
meaning c (number v) = v
meaning c (branch t h f) = cond (asked c t) (meaning c h) (meaning c f)

-- a number forms its leaf when it is read; (if ..) is the row step when it closes
unfoldable pub read_diagram : Reading → Run Diagram
unfolding form row_step test_diagram
read_diagram (number v) = form (leaf v)
read_diagram (branch t h f) = bind (read_diagram h) (λ x. bind (read_diagram f) (λ y. row_step (test_diagram t) x y))

-- the whole diagram of a line is one call, its working space empty at first; the line's result is held to 1,024 rows (9)
abbrev pub held : Diagram → Outcome Diagram
held d = cond (ltb most_rows (length (rows d))) (refused Space) (ok d)

unfoldable pub text_diagram : Reading → Outcome Diagram
unfolding read_diagram
text_diagram r = and_then (read_diagram r []) (λ p. held p.0)

-- a reward is closed up when read
unfoldable pub reward_diagram : List ℕ → Reading → Outcome Diagram
unfolding read_diagram closed
reward_diagram ar r = and_then (read_diagram r []) (λ p. held (closed ar p.0))
