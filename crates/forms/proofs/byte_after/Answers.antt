use borrow.Author.Tests.{eq-eqb, ne_eqb}
use Rattle.forms.specs.Form.{◌▹◌, byte}
use Rattle.forms.proofs.byte_after.Goals as goal

pub returns-in_err-i : goal.returns-in_err-i
unfolding ◌▹◌
returns-in_err-i c = rw c.from_residual.ensures (rw c.in_err-i.was)

pub returns-then-byte_at-b : goal.returns-then-byte_at-b
unfolding ◌▹◌ byte
returns-then-byte_at-b c =
    rw (c.in_ok-i.was, ← c.byte_at.ensures, eq-eqb _ _ c.if-byte_at-b.true)

pub returns-else-byte_at-b : goal.returns-else-byte_at-b
unfolding ◌▹◌ byte
returns-else-byte_at-b c =
    rw (c.in_ok-i.was, ← c.byte_at.ensures, ne_eqb _ _ c.if-byte_at-b.false)
