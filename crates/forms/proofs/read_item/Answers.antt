use Rattle.forms.specs.Form.{item_form}
use Rattle.forms.proofs.read_item.Goals as goal

pub returns-in-Name : goal.returns-in-Name
unfolding item_form
returns-in-Name c =
    rw c.in-Name.is c.read_name.ensures

pub returns-in-Variable : goal.returns-in-Variable
unfolding item_form
returns-in-Variable c =
    rw c.in-Variable.is c.read_marked.ensures

pub returns-in-Parameter : goal.returns-in-Parameter
unfolding item_form
returns-in-Parameter c =
    rw c.in-Parameter.is c.read_marked-in-Parameter.ensures

pub returns-in-Any : goal.returns-in-Any
unfolding item_form
returns-in-Any c =
    rw c.in-Any.is c.read_term.ensures

pub returns-in-Number : goal.returns-in-Number
unfolding item_form
returns-in-Number c =
    rw c.in-Number.is c.read_number.ensures
