use Rattle.std.proofs.Common.{◌-◌, ◌*◌}
use Rattle.valuing.specs.Search.{free_count}
use Rattle.valuing.proofs.SearchLaws.{Giving, Going}
use Rattle.valuing.proofs.+bind_go.Given as goal

-- binding falls below following, and following with one more object below binding
abbrev pub decreases-bind : goal.decreases-bind
decreases-bind l = free_count l.env.now * 2 - 1

abbrev pub decreases-go : goal.decreases-go
decreases-go l = free_count l.env.now * 2

abbrev pub invariant-bind-loop-v : goal.invariant-bind-loop-v
invariant-bind-loop-v l = Giving l.words l.high l.arities l.facts l.index l.fn.env l.env l.n l.r l.t l.best l.v l.b

abbrev pub decreases-bind-loop-v : goal.decreases-bind-loop-v
decreases-bind-loop-v l = l.n - l.v

abbrev pub invariant-go-loop-r : goal.invariant-go-loop-r
invariant-go-loop-r l = Going l.words l.high l.arities l.facts l.index l.fn.env l.env l.n l.r0 l.r

abbrev pub decreases-go-loop-r : goal.decreases-go-loop-r
decreases-go-loop-r l = l.r
