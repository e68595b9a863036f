use native.Mathlib.Omega.{arith}
use mathlib.Core.Path.{◌≡◌}
use Rattle.refusal.specs.declared.Refusal.TheVariants.{Form}
use Rattle.std.specs.Prelude.{None, Some}
use Rattle.std.proofs.lemmas.Result.{err_from_is_err_and}
use Rattle.reader.proofs.HeadCode.{arguments-start, arguments-other, arguments-twice, arguments-more, arguments-done}
use Rattle.reader.proofs.read_variables.Goals as goal

pub loop-n-init : goal.loop-n-init
loop-n-init c =
    search arguments-start

pub returns-in_err-key : goal.returns-in_err-key
returns-in_err-key c =
    let n : c.argument_of.result ≡ None = grind arith in
    let w : c.in_err-key.field-0.0 ≡ Form = grind arith in
    let p = err_from_is_err_and c.from_residual.result c.from_residual.ensures.1 in
    rw (p.1, p.2, w) (search arguments-other)

pub returns-then-find-n : goal.returns-then-find-n
returns-then-find-n c =
    let o : c.argument_of.result ≡ Some c.in_ok-key.key = grind arith in
    search arguments-twice

pub loop-n-preserved : goal.loop-n-preserved
loop-n-preserved c =
    let o : c.argument_of.result ≡ Some c.in_ok-key.key = grind arith in
    arguments-more c.loop-n.invariant c.loop-n-test.true c.next_event-next.ensures c.argument_of.ensures
    o c.find.ensures c.if-find-n.false c.requires.arity_in_bounds c.put.ensures

pub returns : goal.returns
returns c =
    search arguments-done
