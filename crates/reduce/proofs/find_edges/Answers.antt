use mathlib.Core.Path.{refl}
use lib.ListN.{length-set}
use native.Mathlib.Omega.{arith}
use borrow.Author.Rules.{rules}
use Rattle.reduce.proofs.EdgeLaws.{told_none, told-edged, told_more, told-all}
use Rattle.reduce.proofs.find_edges.Goals as goal

pub loop-i-init : goal.loop-i-init
loop-i-init c =
    (refl, told_none _ _ _ _)

pub edge_word-requires-clause-edged : goal.edge_word-requires-clause-edged
edge_word-requires-clause-edged c =
    told-edged c.loop-i-test.true 1 (omega arith) (omega arith)

pub bounds-edges-i : goal.bounds-edges-i
bounds-edges-i c =
    omega (arith, c.loop-i-test.true, c.loop-i.invariant.0, c.requires.words_in_bounds)

pub edge_word-requires-in-loop-i-clause-edged : goal.edge_word-requires-in-loop-i-clause-edged
edge_word-requires-in-loop-i-clause-edged c =
    told-edged c.loop-i-test.true 2 (omega arith) (omega arith)

pub bounds-edges-i-in-loop-i : goal.bounds-edges-i-in-loop-i
bounds-edges-i-in-loop-i c =
    simp length-set (omega (arith, c.loop-i-test.true, c.loop-i.invariant.0, c.requires.words_in_bounds))

pub loop-i-preserved : goal.loop-i-preserved
loop-i-preserved c = (
  search rules,
  told_more c.loop-i.invariant.1 c.loop-i-test.true (omega (arith, c.loop-i.invariant.0, c.requires.words_in_bounds)) c.edge_word.ensures c.edge_word-in-loop-i.ensures,
)

pub returns : goal.returns
returns c =
    told-all c.loop-i.invariant.1 c.loop-i-test.false
