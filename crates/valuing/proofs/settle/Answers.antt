use Rattle.valuing.proofs.RisingLaws.{settle-ready, settle-last, settle-few, settle-old, settle-new}
use Rattle.valuing.proofs.settle.Goals as goal

pub go-a-requires-clause-ready : goal.go-a-requires-clause-ready
go-a-requires-clause-ready c =
    search settle-ready

pub go-a-requires-clause-r0_bound : goal.go-a-requires-clause-r0_bound
go-a-requires-clause-r0_bound c =
    search settle-last

pub overflow_sub-b : goal.overflow_sub-b
overflow_sub-b c =
    search settle-few

pub returns-then-b-best : goal.returns-then-b-best
returns-then-b-best c =
    search settle-old

pub returns : goal.returns
returns c =
    search settle-new
