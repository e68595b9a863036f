use Rattle.valuing.proofs.StartLaws.{fixed-constant, fixed-object, fixed-parameter}
use Rattle.valuing.proofs.fixed.Goals as goal

pub returns-then-t : goal.returns-then-t
returns-then-t c =
    search fixed-constant

pub returns-then-k-objects : goal.returns-then-k-objects
returns-then-k-objects c =
    search fixed-object

pub returns : goal.returns
returns c =
    search fixed-parameter
