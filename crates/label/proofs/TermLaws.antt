-- The ways through `Term::kind`, in the words of its tests.
use mathlib.Core.Path.{◌≡◌}
use Prim.Native.Nat.{ℕ, ◌+◌, ◌≤◌, ◌<◌}
use native.Mathlib.Omega.{arith}
use borrow.Author.Tests.{lt-ltb, le-ltb, le-leb, lt-leb}
use Rattle.label.specs.Limits.{constant_count, first_parameter, parameter_count, first_variable, variable_count, first_minimum, minimum_count}
use Rattle.label.specs.Terms.{is_constant, is_parameter, is_variable, is_minimum, kind_of}
use Rattle.label.specs.declared.Kind.TheVariants.{Constant, Parameter, Variable, Minimum, None}

pub kind-constant : {t : ℕ} → t < constant_count → Constant ≡ kind_of t
unfolding kind_of is_constant
kind-constant {t} h = rw (lt-ltb t constant_count h)

pub kind-parameter : {t : ℕ} → constant_count ≤ t → t < first_parameter + parameter_count → Parameter ≡ kind_of t
unfolding kind_of is_constant is_parameter
kind-parameter {t} n h = rw (le-ltb t constant_count n, le-leb first_parameter t n, lt-ltb t (first_parameter + parameter_count) h)

pub kind-gap : {t : ℕ} → first_parameter + parameter_count ≤ t → t < first_variable → None ≡ kind_of t
unfolding kind_of is_constant is_parameter is_variable is_minimum
kind-gap {t} n h =
    rw (
      le-ltb t constant_count (omega arith),
      le-leb first_parameter t (omega arith),
      le-ltb t (first_parameter + parameter_count) n,
      lt-leb first_variable t h,
      lt-leb first_minimum t (omega arith),
    )

pub kind-variable : {t : ℕ} → first_variable ≤ t → t < first_variable + variable_count → Variable ≡ kind_of t
unfolding kind_of is_constant is_parameter is_variable
kind-variable {t} n h =
    rw (
      le-ltb t constant_count (omega arith),
      le-leb first_parameter t (omega arith),
      le-ltb t (first_parameter + parameter_count) (omega arith),
      le-leb first_variable t n,
      lt-ltb t (first_variable + variable_count) h,
    )

pub kind-minimum : {t : ℕ} → first_variable + variable_count ≤ t → t < first_minimum + minimum_count → Minimum ≡ kind_of t
unfolding kind_of is_constant is_parameter is_variable is_minimum
kind-minimum {t} n h =
    rw (
      le-ltb t constant_count (omega arith),
      le-leb first_parameter t (omega arith),
      le-ltb t (first_parameter + parameter_count) (omega arith),
      le-leb first_variable t (omega arith),
      le-ltb t (first_variable + variable_count) n,
      le-leb first_minimum t (omega arith),
      lt-ltb t (first_minimum + minimum_count) h,
    )

pub kind-past : {t : ℕ} → first_minimum + minimum_count ≤ t → None ≡ kind_of t
unfolding kind_of is_constant is_parameter is_variable is_minimum
kind-past {t} n =
    rw (
      le-ltb t constant_count (omega arith),
      le-leb first_parameter t (omega arith),
      le-ltb t (first_parameter + parameter_count) (omega arith),
      le-leb first_variable t (omega arith),
      le-ltb t (first_variable + variable_count) (omega arith),
      le-leb first_minimum t (omega arith),
      le-ltb t (first_minimum + minimum_count) n,
    )
