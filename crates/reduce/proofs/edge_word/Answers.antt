use native.Mathlib.Omega.{arith}
use borrow.Author.Rules.{rules}
use Rattle.reduce.proofs.EdgeLaws.{row_small, row-place, leaf-word, on-start, on-found, on-again, on_none}
use Rattle.reduce.proofs.edge_word.Goals as goal

pub overflow_mul-r : goal.overflow_mul-r
overflow_mul-r c =
    omega (arith, row_small c.requires.won c.requires.edged)

pub offset_bounds-words-r : goal.offset_bounds-words-r
offset_bounds-words-r c =
    omega (arith, row_small c.requires.won c.requires.edged)

pub bounds-words-r : goal.bounds-words-r
bounds-words-r c =
    row-place c.requires.won c.requires.edged

pub returns-then-words-r : goal.returns-then-words-r
returns-then-words-r c =
    leaf-word _ _ c.if-words-r.true

pub loop-p-init : goal.loop-p-init
loop-p-init c =
    (search rules, on-start _ _ _ _)

pub returns-then-is_on_path : goal.returns-then-is_on_path
returns-then-is_on_path c =
    λ b. on-found _ _ _ _ _ _ c.loop-p-test.true c.is_on_path.ensures c.if-is_on_path.true

pub loop-p-preserved : goal.loop-p-preserved
loop-p-preserved c =
    (search rules, search on-again)

pub returns : goal.returns
returns c =
    λ b. on_none _ _ _ _ _ _ c.loop-p.invariant.0 c.loop-p-test.false c.loop-p.invariant.1
