use native.Mathlib.Omega.{arith}
use Rattle.eliminate.proofs.TruthLaws.{asked-few, asked-read}
use Rattle.eliminate.proofs.SetLaws.{gather-start, gather-on, gather-end}
use Rattle.eliminate.proofs.variables.Goals as goal

pub offset_bounds-arities-predicate : goal.offset_bounds-arities-predicate
offset_bounds-arities-predicate c =
    omega (arith, asked-few c.requires c.predicate.ensures)

pub bounds-arities-predicate : goal.bounds-arities-predicate
bounds-arities-predicate c =
    asked-read c.requires c.predicate.ensures

pub loop-k-init : goal.loop-k-init
loop-k-init c =
    search gather-start

pub loop-k-preserved : goal.loop-k-preserved
loop-k-preserved c =
    search gather-on

pub returns : goal.returns
returns c =
    search gather-end
