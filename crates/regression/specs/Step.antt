-- The row step (document 01, section 'Regression'): (T times true result) + ((1 - T) times false result).
use Rattle.std.specs.Prelude.{ℕ, ◌-◌}
use Rattle.label.specs.declared.Test.{Test}
use Rattle.label.specs.declared.Test.TheVariants.{Always, Is}
use Rattle.diagram.specs.Diagram.{Diagram, leaf, branch}
use Rattle.apply.specs.declared.Operation.TheVariants.{Sum, Product}
use Rattle.regression.specs.Calls.{Run, bind, form, combine}

-- the one-row test of a label: one branch and its two leaves
abbrev pub label_test : ℕ → Diagram
label_test l = branch l (leaf 1) (leaf 0)

-- the test of what is asked: leaf 1 where it is t = t
unfoldable pub test_diagram : Test → Diagram
test_diagram Always = leaf 1
test_diagram (Is l) = label_test l.packed

-- 1 - T is T with its leaves exchanged
unfoldable pub exchanged : Diagram → Diagram
exchanged (leaf v) = leaf (1 - v)
exchanged (branch l t f) = branch l (exchanged t) (exchanged f)

-- T, 1 - T, left product, right product, then sum, names shared, and the earliest refusal counts. The rows of T and of 1 - T are formed; a T that the
-- call has formed already adds none.
unfoldable pub row_step : Diagram → Diagram → Diagram → Run Diagram
unfolding form combine exchanged
row_step T t f =
    bind (form T) (λ x.
    bind (form (exchanged x)) (λ y.
    bind (combine Product x t) (λ left.
    bind (combine Product y f) (λ right.
    combine Sum left right))))
