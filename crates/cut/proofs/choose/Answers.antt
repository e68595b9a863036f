use mathlib.Core.Path.{◌∙◌}
use lib.Dec.{lit≤}
use borrow.Author.Rules.{rules}
use Rattle.cut.proofs.ChoiceLaws.{known-none, choose-room, choose-start, choose-charted, choose-true, choose-false, choose-on, choose-none}
use Rattle.cut.proofs.choose.Goals as goal

pub find_leaves-requires-clause-m_in_bounds : goal.find_leaves-requires-clause-m_in_bounds
find_leaves-requires-clause-m_in_bounds c =
    choose-room c.requires.routed 256 (lit≤ tt)

pub loop-i-init : goal.loop-i-init
loop-i-init c =
    (search rules, known-none _ _ _ 65536 (lit≤ tt), choose-start _ _ _ c.requires.words_value c.requires.n_value)

pub edge_of-e-requires-clause-charted : goal.edge_of-e-requires-clause-charted
edge_of-e-requires-clause-charted c =
    choose-charted _ _ _ c.requires.words_value c.requires.n_value c.requires.words_value_2 c.requires.routed c.find_leaves.ensures

pub returns-then-e-eq1 : goal.returns-then-e-eq1
returns-then-e-eq1 c =
    choose-true _ _ _ c.requires.words_value c.requires.n_value c.loop-i.invariant.2 c.loop-i-test.true c.loop-i.auto.i c.edge_of-e.ensures c.if-e-eq1.true

pub returns-then-e-eq2 : goal.returns-then-e-eq2
returns-then-e-eq2 c =
    choose-false _ _ _ c.requires.words_value c.requires.n_value c.loop-i.invariant.2 c.loop-i-test.true c.loop-i.auto.i c.edge_of-e.ensures c.if-e-eq2.true

pub loop-i-preserved : goal.loop-i-preserved
loop-i-preserved c = (
  c.edge_of-e.auto.memo ∙ c.loop-i.invariant.0,
  c.edge_of-e.ensures.known,
  choose-on _ _ _ c.requires.words_value c.requires.n_value c.loop-i.invariant.2 c.loop-i-test.true c.loop-i.auto.i c.edge_of-e.ensures c.if-e-eq1.false c.if-e-eq2.false,
)

pub returns : goal.returns
returns c =
    choose-none _ _ _ c.requires.words_value c.requires.n_value c.loop-i.invariant.2 c.loop-i-test.false
