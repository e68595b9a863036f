use native.Mathlib.Omega.{arith}
use Rattle.std.proofs.lemmas.Grind.{common_steps}
use Rattle.std.proofs.lemmas.Option.{gets}
use Rattle.fact_index.specs.Inner.{place_count}
use Rattle.fact_index.proofs.place_count.Goals as goal

pub returns-in-Some : goal.returns-in-Some
unfolding place_count
returns-in-Some c =
    (grind (arith, common_steps, gets, c.in-Some.ensures.lookup), omega arith)

pub returns-in-None : goal.returns-in-None
unfolding place_count
returns-in-None c =
    (grind (arith, common_steps, gets, c.in-None.ensures.lookup), omega arith)
