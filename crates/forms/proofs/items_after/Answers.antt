use native.Mathlib.Omega.{arith}
use Rattle.std.specs.Prelude.{◌≡◌, ◌+◌, length}
use Rattle.forms.specs.FormLaws.{item-within, many-within, after-refused, form-refused, form-took, form-rest, rest-less}
use Rattle.forms.specs.Form.{item_form, many_form}
use Rattle.forms.proofs.items_after.Goals as goal
use Rattle.forms.proofs.items_after.Goals.{After-read_items}

-- what the words' reader answered, by one bound for all bytes
told : (c : After-read_items)
    → c.read_items.result ≡ many_form (item_form c.args.sort) (length c.args.s.now + 1) c.rest.result.now
told c = c.read_items.ensures _ (rest-less c.args.s.now c.in_ok-i.i c.rest.ensures)

pub returns-in_err-i : goal.returns-in_err-i
returns-in_err-i c = rw c.from_residual.ensures (search (after-refused, c.in_err-i.was))

pub returns-in_err-n : goal.returns-in_err-n
returns-in_err-n c = rw c.from_residual-in_err-n.ensures (let e = told (goal.at.returns-in_err-n c).After-read_items in search (form-refused, c.in_ok-i.was, c.in_err-n.was))

pub overflow_add-result : goal.overflow_add-result
overflow_add-result c =
    let e = told (goal.at.overflow_add-result c).After-read_items in
    omega (arith, form-rest c.args.s.now c.in_ok-i.i _ (many-within _ (item-within _) _) c.rest.ensures e c.in_ok-n.was)

pub returns : goal.returns
returns c = let e = told (goal.at.returns c).After-read_items in search (form-took, c.in_ok-i.was, c.in_ok-n.was)
