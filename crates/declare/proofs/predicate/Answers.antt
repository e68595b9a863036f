use Rattle.declare.proofs.TableLaws.{arity-room, predicate-name, predicate-range, predicate-space, predicate-done}
use Rattle.declare.proofs.predicate.Goals as goal

pub returns-then-is_declared : goal.returns-then-is_declared
returns-then-is_declared c =
    search predicate-name

pub returns-then-arity-gt-PLACES : goal.returns-then-arity-gt-PLACES
returns-then-arity-gt-PLACES c =
    search predicate-range

pub returns-then-n-ge-PREDICATES : goal.returns-then-n-ge-PREDICATES
returns-then-n-ge-PREDICATES c =
    search predicate-space

pub bounds-arities-n : goal.bounds-arities-n
bounds-arities-n c =
    search arity-room

pub returns : goal.returns
returns c =
    search predicate-done
