use lib.Dec.{lit≤}
use Rattle.cut.proofs.ChoiceLaws.{edge-leaf, edge-edged, edge-true, edge-false, edge_none}
use Rattle.cut.proofs.edge_of.Goals as goal

pub returns-then-words-r : goal.returns-then-words-r
returns-then-words-r c =
    edge-leaf c.requires.charted c.requires.known c.requires.r_lt_n c.if-words-r.true

pub returns-then-may_go : goal.returns-then-may_go
returns-then-may_go c =
    edge-true c.may_go.ensures c.if-may_go.true

pub returns-then-may_go-2 : goal.returns-then-may_go-2
returns-then-may_go-2 c =
    edge-false c.may_go.ensures c.if-may_go.false c.may_go-2.ensures c.if-may_go-2.true

pub returns : goal.returns
returns c =
    edge_none c.may_go.ensures c.if-may_go.false c.may_go-2.ensures c.if-may_go-2.false

pub may_go-requires-clause-edged : goal.may_go-requires-clause-edged
may_go-requires-clause-edged c =
    edge-edged c.requires.charted c.requires.known c.requires.r_lt_n c.find_sides.ensures 1 (lit≤ tt) (lit≤ tt) c.if-words-r.false

pub may_go-requires-2-clause-edged : goal.may_go-requires-2-clause-edged
may_go-requires-2-clause-edged c =
    edge-edged c.requires.charted c.requires.known c.requires.r_lt_n c.find_sides.ensures 2 (lit≤ tt) (lit≤ tt) c.if-words-r.false
