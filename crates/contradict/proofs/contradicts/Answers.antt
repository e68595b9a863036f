use native.Mathlib.Omega.{arith}
use Rattle.contradict.proofs.LiteralLaws.{labelled-range, represented-readable, contradicts-is}
use Rattle.contradict.proofs.contradicts.Goals as goal

pub join_all-requires-clause-all_in_range : goal.join_all-requires-clause-all_in_range
join_all-requires-clause-all_in_range c =
    labelled-range c.requires

pub clash-requires : goal.clash-requires
clash-requires c =
    represented-readable c.requires (omega (arith, c.join_all.auto.table)) c.join_all.ensures

pub returns : goal.returns
returns c =
    contradicts-is c.requires (omega (arith, c.join_all.auto.table)) c.join_all.ensures c.clash.ensures
