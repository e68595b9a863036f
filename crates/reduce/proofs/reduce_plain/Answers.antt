use lib.Dec.{lit≤}
use Rattle.reduce.proofs.BlockLaws.{zeros}
use Rattle.reduce.proofs.CallLaws.{plain-winnable, plain-many, plain-won, plain-edges, plain-prunable, plain_done}
use Rattle.reduce.proofs.reduce_plain.Goals as goal

pub find_winners-formed-requires : goal.find_winners-formed-requires
find_winners-formed-requires c =
    plain-winnable c.requires 256 (lit≤ tt)

pub returns-then-formed-gt-FORMED : goal.returns-then-formed-gt-FORMED
returns-then-formed-gt-FORMED c =
    plain-many c.requires c.find_winners-formed.ensures c.if-formed-gt-FORMED.true

pub find_edges-requires-clause-won : goal.find_edges-requires-clause-won
find_edges-requires-clause-won c =
    plain-won c.requires c.find_winners-formed.ensures 256 (lit≤ tt) c.find_winners-formed.auto.wins

pub find_edges-requires-clause-words_in_bounds : goal.find_edges-requires-clause-words_in_bounds
find_edges-requires-clause-words_in_bounds c =
    plain-edges c.requires

pub prune-requires : goal.prune-requires
prune-requires c =
    plain-prunable c.requires 2048 (lit≤ tt) c.find_edges.auto.edges

pub returns : goal.returns
returns c =
    plain_done c.requires c.find_winners-formed.ensures c.if-formed-gt-FORMED.false (zeros 256) c.find_edges.ensures c.prune.ensures
