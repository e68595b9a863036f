use native.Mathlib.Omega.{arith}
use Rattle.forms.specs.FormLaws.{inner-within, after-refused, form-refused, form-took, form-rest}
use Rattle.forms.specs.Form.{atom_form}
use Rattle.forms.proofs.read_atom.Goals as goal

pub returns-in_err-i : goal.returns-in_err-i
unfolding atom_form
returns-in_err-i c = rw c.from_residual.ensures (search (after-refused, c.in_err-i.was))

pub returns-in_err-n : goal.returns-in_err-n
unfolding atom_form
returns-in_err-n c = rw c.from_residual-in_err-n.ensures (search (form-refused, c.in_ok-i.was, c.in_err-n.was))

pub overflow_add-result : goal.overflow_add-result
overflow_add-result c =
    omega (arith, form-rest c.args.s.now c.in_ok-i.i _ inner-within c.rest.ensures c.read_inner.ensures c.in_ok-n.was)

pub returns : goal.returns
unfolding atom_form
returns c = search (form-took, c.in_ok-i.was, c.in_ok-n.was)
