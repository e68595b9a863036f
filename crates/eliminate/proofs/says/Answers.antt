use native.Mathlib.Omega.{arith}
use Rattle.eliminate.proofs.TruthLaws.{asked-few, asked-read, say-other, say-start, say-not, say-all}
use Rattle.eliminate.proofs.says.Goals as goal

pub returns-then-facts-i : goal.returns-then-facts-i
returns-then-facts-i c =
    search say-other

pub offset_bounds-arities-p : goal.offset_bounds-arities-p
offset_bounds-arities-p c =
    omega (arith, asked-few c.requires.asked.labelled c.predicate-p.ensures)

pub bounds-arities-p : goal.bounds-arities-p
bounds-arities-p c =
    asked-read c.requires.asked.labelled c.predicate-p.ensures

pub loop-k-init : goal.loop-k-init
loop-k-init c =
    search say-start

pub returns-then-facts-i-2 : goal.returns-then-facts-i-2
returns-then-facts-i-2 c =
    search say-not

pub returns : goal.returns
returns c =
    search say-all
