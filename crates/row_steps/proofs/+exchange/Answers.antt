use native.Mathlib.Omega.{arith}
use Rattle.row_steps.proofs.StepRunLaws.{exchange-known, leaf-notable, exchange-leaf, kids, exchange-high, exchange-high-full}
use Rattle.row_steps.proofs.StepRunLaws.{exchange-low, exchange-low-full, exchange-formable, branch-notable, exchange-branch}
use Rattle.row_steps.proofs.+exchange.Goals as goal

pub returns-then-known-ne0 : goal.returns-then-known-ne0
returns-then-known-ne0 t c = exchange-known c.requires c.wide-known.ensures c.if-known-ne0.true

pub note-requires : goal.note-requires
note-requires t c = leaf-notable c.requires c.row_at-row.ensures c.if-row.true c.flipped.ensures c.leaf-r.ensures

pub returns-then-row : goal.returns-then-row
returns-then-row t c =
    exchange-leaf c.requires c.row_at-row.ensures c.if-row.true c.flipped.ensures c.leaf-r.ensures
    (c.note.ensures.value, c.note.ensures.memo_after)

pub exchange-requires : goal.exchange-requires
exchange-requires t c = (
  omega (arith, c.decreases, (kids c.requires c.row_at-row.ensures c.if-row.false).0),
  exchange-high c.requires c.row_at-row.ensures c.if-row.false,
)

pub returns-in_err-high : goal.returns-in_err-high
returns-in_err-high t c =
    rw c.from_residual.ensures (exchange-high-full c.requires c.row_at-row.ensures c.if-row.false c.exchange.ensures c.in_err-high.was)

pub exchange-requires-2 : goal.exchange-requires-2
exchange-requires-2 t c = (
  omega (arith, c.decreases, (kids c.requires c.row_at-row.ensures c.if-row.false).1),
  exchange-low c.requires c.row_at-row.ensures c.if-row.false c.exchange.ensures c.in_ok-high.was,
)

pub returns-in_err-low : goal.returns-in_err-low
returns-in_err-low t c =
    rw c.from_residual-in_err-low.ensures (exchange-low-full c.requires c.row_at-row.ensures c.if-row.false c.exchange.ensures c.in_ok-high.was
    c.exchange-2.ensures c.in_err-low.was)

pub form-r-requires-clause-formable : goal.form-r-requires-clause-formable
form-r-requires-clause-formable t c =
    exchange-formable c.requires c.row_at-row.ensures c.if-row.false c.exchange.ensures c.in_ok-high.was
    c.exchange-2.ensures c.in_ok-low.was

pub note-requires-2 : goal.note-requires-2
note-requires-2 t c =
    branch-notable c.requires c.row_at-row.ensures c.if-row.false c.exchange.ensures c.in_ok-high.was
    c.exchange-2.ensures c.in_ok-low.was c.form-r.ensures

pub returns : goal.returns
returns t c =
    exchange-branch c.requires c.row_at-row.ensures c.if-row.false c.exchange.ensures c.in_ok-high.was
    c.exchange-2.ensures c.in_ok-low.was c.form-r.ensures (c.note-2.ensures.value, c.note-2.ensures.memo_after)
