-- Kinds of terms (document 01, section 'Terms, labels, listings'; document 02, L12). A variable is a maximum variable unless it is called a minimum variable.
use Rattle.std.specs.Prelude.{Bool, ◌&&◌, ◌||◌, cond, ℕ, ◌+◌, ltb, leb}
use Rattle.label.specs.Limits.{constant_count, first_parameter, parameter_count, first_variable, variable_count, first_minimum, minimum_count}
use Rattle.label.specs.declared.Kind.{Kind}
use Rattle.label.specs.declared.Kind.TheVariants.{Constant, Parameter, Variable, Minimum, None}

unfoldable pub is_constant : ℕ → Bool
is_constant t = ltb t constant_count

unfoldable pub is_parameter : ℕ → Bool
is_parameter t = leb first_parameter t && ltb t (first_parameter + parameter_count)

unfoldable pub is_variable : ℕ → Bool
is_variable t = leb first_variable t && ltb t (first_variable + variable_count)

unfoldable pub is_minimum : ℕ → Bool
is_minimum t = leb first_minimum t && ltb t (first_minimum + minimum_count)

unfoldable pub is_term : ℕ → Bool
is_term t = is_constant t || (is_parameter t || (is_variable t || is_minimum t))

-- the kind of the term with number t, or that no term has it
unfoldable pub kind_of : ℕ → Kind
kind_of t = cond (is_constant t) Constant (cond (is_parameter t) Parameter (cond (is_variable t) Variable (cond (is_minimum t) Minimum None)))

-- constant, parameter, variable and minimum variable i
abbrev pub constant_term : ℕ → ℕ
constant_term i = i

abbrev pub parameter_term : ℕ → ℕ
parameter_term i = first_parameter + i

abbrev pub variable_term : ℕ → ℕ
variable_term i = first_variable + i

abbrev pub minimum_term : ℕ → ℕ
minimum_term i = first_minimum + i
