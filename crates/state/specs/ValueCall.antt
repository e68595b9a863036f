-- What the value call counts (document 01, sections 'States and value' and 'Refusals by trade word'; document 02, L12).
use Rattle.std.specs.Prelude.{List, ℕ, ◌+◌, ◌^◌, length}
use Rattle.label.specs.Limits.{first_parameter, parameter_count}
use Rattle.diagram.specs.Diagram.{Diagram}
use Rattle.diagram.specs.Variables.{occurring, variables, minimums}

-- the value operation takes at most this many valuations
abbrev pub most_valuations : ℕ
most_valuations = 1000000

-- the parameters of d, ascending
unfoldable pub parameters : List ℕ → Diagram → List ℕ
unfolding occurring
parameters ar d = occurring ar d first_parameter parameter_count

-- how many valuations n objects and the variables of d make, "v counting both kinds"
unfoldable pub valuations : List ℕ → ℕ → Diagram → ℕ
unfolding variables minimums
valuations ar n d = n ^ (length (variables ar d) + length (minimums ar d))
