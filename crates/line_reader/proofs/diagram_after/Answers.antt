use native.Mathlib.Omega.{arith}
use Rattle.std.specs.Prelude.{◌≡◌, ◌+◌, length}
use Rattle.forms.specs.FormLaws.{diagram-within, after-refused, form-refused, form-took, form-rest, rest-less}
use Rattle.forms.specs.Form.{diagram_form}
use Rattle.line_reader.proofs.diagram_after.Goals as goal
use Rattle.line_reader.proofs.diagram_after.Goals.{After-read_diagram}

-- what the diagram's reader answered, by one bound for all bytes
told : (c : After-read_diagram)
    → c.read_diagram.result ≡ diagram_form (length c.args.s.now + 1) 1 c.rest.result.now
told c = c.read_diagram.ensures _ (rest-less c.args.s.now c.in_ok-i.i c.rest.ensures)

pub returns-in_err-i : goal.returns-in_err-i
returns-in_err-i c = rw c.from_residual.ensures (search (after-refused, c.in_err-i.was))

pub returns-in_err-n : goal.returns-in_err-n
returns-in_err-n c = rw c.from_residual-in_err-n.ensures (let e = told (goal.at.returns-in_err-n c).After-read_diagram in search (form-refused, c.in_ok-i.was, c.in_err-n.was))

pub overflow_add-result : goal.overflow_add-result
overflow_add-result c =
    let e = told (goal.at.overflow_add-result c).After-read_diagram in
    omega (arith, form-rest c.args.s.now c.in_ok-i.i _ (diagram-within _ _) c.rest.ensures e c.in_ok-n.was)

pub returns : goal.returns
returns c = let e = told (goal.at.returns c).After-read_diagram in search (form-took, c.in_ok-i.was, c.in_ok-n.was)
