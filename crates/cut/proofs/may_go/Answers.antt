use mathlib.Core.Path.{refl}
use native.Mathlib.Omega.{arith}
use borrow.Author.Rules.{rules}
use Rattle.cut.proofs.ChoosingLaws.{ask-on, edge-child, free-none, free_on, may-zero, may-stop, may-end}
use Rattle.std.proofs.lemmas.Bool.{not_from_false}
use Rattle.std.proofs.lemmas.Bool.{not_from_true}
use Rattle.cut.proofs.may_go.Goals as goal

pub overflow_mul-r : goal.overflow_mul-r
overflow_mul-r c =
    omega (arith, c.requires.edged.row, c.requires.asking.charted.routed.rows.few)

pub overflow_add-r : goal.overflow_add-r
overflow_add-r c =
    omega (arith, c.requires.edged.row, c.requires.asking.charted.routed.rows.few, c.requires.edged.high)

pub offset_bounds-words-r : goal.offset_bounds-words-r
offset_bounds-words-r c =
    omega (arith, c.requires.edged.row, c.requires.asking.charted.routed.rows.few, c.requires.edged.high)

pub bounds-words-r : goal.bounds-words-r
bounds-words-r c =
    omega (arith, c.requires.edged.row, c.requires.asking.charted.routed.rows.room, c.requires.edged.high)

pub is_zero-requires-clause-i_lt_n : goal.is_zero-requires-clause-i_lt_n
is_zero-requires-clause-i_lt_n c =
    edge-child c.requires.asking c.requires.edged

pub returns-then-is_zero : goal.returns-then-is_zero
returns-then-is_zero c =
    may-zero c.requires.asking c.requires.edged c.is_zero.ensures c.if-is_zero.true

pub loop-p-init : goal.loop-p-init
loop-p-init c =
    (refl, omega arith, c.requires.asking.known, free-none _ _ _ _ _ _)

pub is_free-requires-clause-asking : goal.is_free-requires-clause-asking
is_free-requires-clause-asking c =
    ask-on c.requires.asking c.loop-p.invariant.2

pub returns-then-not-is_free : goal.returns-then-not-is_free
returns-then-not-is_free c =
    may-stop c.requires.asking c.requires.edged c.is_zero.ensures c.if-is_zero.false c.loop-p-test.true c.is_free.ensures (not_from_false _ c.if-not-is_free.true)

pub loop-p-preserved : goal.loop-p-preserved
loop-p-preserved c =
    (search rules, omega (arith, c.loop-p-test.true), c.is_free.ensures.known, free_on _ _ _ _ _ _ _ c.loop-p.invariant.3 c.is_free.ensures (not_from_true _ c.if-not-is_free.false))

pub returns : goal.returns
returns c =
    may-end c.requires.asking c.requires.edged c.is_zero.ensures c.if-is_zero.false c.loop-p.invariant.3 c.loop-p.invariant.1 c.loop-p-test.false
    c.loop-p.invariant.2
