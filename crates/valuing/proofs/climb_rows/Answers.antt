use native.Mathlib.Omega.{arith}
use Rattle.valuing.proofs.StartLaws.{root-some, root-read, root-cut, started, start-ready, found_number, found_none, found-chosen, found-most, risen-number}
use Rattle.valuing.proofs.climb_rows.Goals as goal

pub overflow_sub-root : goal.overflow_sub-root
overflow_sub-root c =
    search root-some

pub bounds-high-root : goal.bounds-high-root
bounds-high-root c =
    search root-read

pub returns-then-high-root : goal.returns-then-high-root
returns-then-high-root c =
    search root-cut

pub go-most-requires-clause-ready : goal.go-most-requires-clause-ready
go-most-requires-clause-ready c =
    start-ready c.requires.prepared _ c.requires.objects_value (started c.start.ensures) (omega arith)

pub go-most-requires-clause-r0_bound : goal.go-most-requires-clause-r0_bound
go-most-requires-clause-r0_bound c =
    omega (arith, root-some c.requires.prepared)

pub returns-then-plain : goal.returns-then-plain
returns-then-plain c =
    found_number c.requires.prepared _ c.requires.objects_value (started c.start.ensures) (omega (arith, c.ranges)) c.go-most.ensures c.requires.plain_value c.if-plain.true

pub returns-then-most-best : goal.returns-then-most-best
returns-then-most-best c =
    found_none c.requires.prepared _ c.requires.objects_value (started c.start.ensures) (omega (arith, c.ranges)) c.go-most.ensures c.if-most-best.true

pub rise_all-requires : goal.rise_all-requires
rise_all-requires c =
    let begun = started c.start.ensures in record {
      chosen = found-chosen c.requires.prepared _ c.requires.objects_value begun (omega (arith, c.ranges)) c.go-most.ensures;
      topmost = found-most c.requires.prepared _ c.requires.objects_value begun (omega (arith, c.ranges)) c.go-most.ensures;
    }

pub returns : goal.returns
returns c =
    risen-number c.requires.prepared _ c.requires.objects_value (started c.start.ensures) (omega (arith, c.ranges)) c.go-most.ensures c.rise_all.ensures
