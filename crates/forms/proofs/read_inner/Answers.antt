use borrow.Author.Tests.{eq-eqb, ne_eqb}
use Rattle.forms.specs.Form.{inner_form}
use Rattle.forms.proofs.read_inner.Goals as goal

pub returns-then-byte_at-eq61 : goal.returns-then-byte_at-eq61
unfolding inner_form
returns-then-byte_at-eq61 c = rw (← c.byte_at.ensures, eq-eqb _ _ c.if-byte_at-eq61.true) c.read_equality.ensures

pub returns-else-byte_at-eq61 : goal.returns-else-byte_at-eq61
unfolding inner_form
returns-else-byte_at-eq61 c = rw (← c.byte_at.ensures, ne_eqb _ _ c.if-byte_at-eq61.false) c.read_plain.ensures
