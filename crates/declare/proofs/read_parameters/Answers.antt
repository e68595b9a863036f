use mathlib.Core.Path.{refl}
use Rattle.declare.proofs.ParameterLaws.{parameters-start, parameters-out, parameters-find, parameters-put, parameters-end, parameters-shrink, parameters-twice}
use Rattle.declare.proofs.ParameterLaws.{parameters-on, put-size}
use Rattle.declare.proofs.read_parameters.Goals as goal

pub loop-place-init : goal.loop-place-init
loop-place-init c =
    (search parameters-start, refl)

pub returns-then-is_end : goal.returns-then-is_end
returns-then-is_end c =
    search parameters-end

pub find-requires : goal.find-requires
find-requires c =
    search parameters-find

pub returns-then-find-n : goal.returns-then-find-n
returns-then-find-n c =
    parameters-twice _ _ _ _ _ c.loop-place.invariant.0
    c.next_event-next.ensures c.is_end.ensures
    c.if-is_end.false c.key_in-key.ensures c.find.ensures c.if-find-n.true

pub put-requires : goal.put-requires
put-requires c =
    search parameters-put

pub loop-place-smaller : goal.loop-place-smaller
loop-place-smaller c =
    search parameters-shrink

pub loop-place-preserved : goal.loop-place-preserved
loop-place-preserved c =
    (search parameters-on, search put-size)

pub returns : goal.returns
returns c =
    search parameters-out
