use native.Mathlib.Omega.{arith}
use mathlib.Core.Path.{◌≡◌}
use Rattle.refusal.specs.declared.Refusal.TheVariants.{Form}
use Rattle.std.specs.Prelude.{None, Some}
use Rattle.std.proofs.lemmas.Result.{err_from_is_err_and}
use Rattle.reader.proofs.HeadCode.{predicate-other, predicate-name, predicate-is}
use Rattle.reader.proofs.head_predicate.Goals as goal

pub returns-in_err-key : goal.returns-in_err-key
returns-in_err-key c =
    let n : c.opening_of.result ≡ None = grind arith in
    let w : c.in_err-key.field-0.0 ≡ Form = grind arith in
    let p = err_from_is_err_and c.from_residual.result c.from_residual.ensures.1 in
    rw (p.1, p.2, w) (search predicate-other)

pub returns-then-n-i : goal.returns-then-n-i
returns-then-n-i c =
    let o : c.opening_of.result ≡ Some (c.in_ok-key.key, c.in_ok-key.field-0-1) = grind arith in
    search predicate-name

pub returns : goal.returns
returns c =
    let o : c.opening_of.result ≡ Some (c.in_ok-key.key, c.in_ok-key.field-0-1) = grind arith in
    search predicate-is
