use Rattle.forms.specs.Form.{◌▹◌, term_form}
use Rattle.forms.proofs.read_term.Goals as goal

pub returns-then-is_mark : goal.returns-then-is_mark
unfolding term_form ◌▹◌
returns-then-is_mark c =
    rw (← c.byte_at.ensures, ← c.is_mark.ensures, c.if-is_mark.true) c.name_after.ensures

pub returns-else-is_mark : goal.returns-else-is_mark
unfolding term_form
returns-else-is_mark c =
    rw (← c.byte_at.ensures, ← c.is_mark.ensures, c.if-is_mark.false) c.read_name.ensures
