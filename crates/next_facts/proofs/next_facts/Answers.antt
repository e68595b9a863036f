use native.Mathlib.Omega.{arith}
use Rattle.next_facts.proofs.CallLaws.{move-ask, move-standing, move-end}
use Rattle.next_facts.proofs.next_facts.Goals as goal

pub fill_all-requires-clause-askable : goal.fill_all-requires-clause-askable
fill_all-requires-clause-askable c =
    move-ask c.requires

pub fill_all-requires-clause-standing : goal.fill_all-requires-clause-standing
fill_all-requires-clause-standing c =
    move-standing c.requires (omega (arith, c.ranges)) c.are_ordered-ordered.ensures

pub returns : goal.returns
returns c =
    move-end _ _ _ _ _ _ _ _ c.requires (omega (arith, c.ranges)) c.fill_all.ensures
