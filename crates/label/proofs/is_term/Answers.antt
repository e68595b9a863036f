use native.Mathlib.Omega.{arith}
use Rattle.std.proofs.lemmas.Bool.Decides.{nat_tests}
use Rattle.label.specs.Terms.{is_term, is_constant, is_parameter, is_variable, is_minimum}
use Rattle.label.proofs.is_term.Goals as goal

pub returns-then-t : goal.returns-then-t
unfolding is_term is_constant is_parameter is_variable is_minimum
returns-then-t c =
    grind (arith, nat_tests)

pub returns-then-t-ge-FIRST_VARIABLE : goal.returns-then-t-ge-FIRST_VARIABLE
unfolding is_term is_constant is_parameter is_variable is_minimum
returns-then-t-ge-FIRST_VARIABLE c =
    grind (arith, nat_tests)

pub returns-else-t-ge-FIRST_VARIABLE : goal.returns-else-t-ge-FIRST_VARIABLE
unfolding is_term is_constant is_parameter is_variable is_minimum
returns-else-t-ge-FIRST_VARIABLE c =
    grind (arith, nat_tests)
