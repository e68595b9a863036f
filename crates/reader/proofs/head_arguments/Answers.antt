use native.Mathlib.Omega.{arith}
use mathlib.Core.Path.{◌≡◌}
use Rattle.refusal.specs.declared.Refusal.TheVariants.{Form}
use Rattle.std.specs.Prelude.{None, Some}
use Rattle.std.proofs.lemmas.Result.{err_from_is_err_and}
use Rattle.reader.proofs.HeadCode.{head-other, head-arity, next-within, head-reads}
use Rattle.reader.proofs.head_arguments.Goals as goal

pub returns-in_err-count : goal.returns-in_err-count
returns-in_err-count c =
    let n : c.opening_of.result ≡ None = grind arith in
    let w : c.in_err-count.field-0.0 ≡ Form = grind arith in
    let p = err_from_is_err_and c.from_residual.result c.from_residual.ensures.1 in
    rw (p.1, p.2, w) (search head-other)

pub returns-then-count-arity : goal.returns-then-count-arity
returns-then-count-arity c =
    let o : c.opening_of.result ≡ Some (c.in_ok-count.field-0-0, c.in_ok-count.count) = grind arith in
    search head-arity

pub read_variables-requires-clause-at_in_bounds : goal.read_variables-requires-clause-at_in_bounds
read_variables-requires-clause-at_in_bounds c =
    search next-within

pub returns : goal.returns
returns c =
    let o : c.opening_of.result ≡ Some (c.in_ok-count.field-0-0, c.in_ok-count.count) = grind arith in
    search head-reads
