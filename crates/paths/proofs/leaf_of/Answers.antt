use Rattle.paths.proofs.RouteLaws.{rest-next, rest_end, leaf-label}
use Rattle.paths.proofs.leaf_of.Goals as goal

pub step_on-s-requires-clause-fact : goal.step_on-s-requires-clause-fact
step_on-s-requires-clause-fact c =
    leaf-label _ _ c.loop-i-test.true

pub loop-i-preserved : goal.loop-i-preserved
loop-i-preserved c =
    rest-next c.requires.rows c.loop-i.invariant c.step_on-s.ensures

pub returns : goal.returns
returns c =
    rest_end c.requires.rows c.loop-i.invariant c.loop-i-test.false
