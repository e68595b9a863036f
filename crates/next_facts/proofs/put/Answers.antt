use native.Mathlib.Omega.{arith}
use Rattle.next_facts.proofs.PutLaws.{putting-start, putting-room, putting-on, putting-end, put-many}
use Rattle.next_facts.proofs.put.Goals as goal

pub returns-then-count-eq-FACTS : goal.returns-then-count-eq-FACTS
returns-then-count-eq-FACTS c =
    search put-many

pub loop-i-init : goal.loop-i-init
loop-i-init c =
    search putting-start

pub row_word-w-requires : goal.row_word-w-requires
row_word-w-requires c =
    c.loop-i.invariant.words

pub overflow_mul-out : goal.overflow_mul-out
overflow_mul-out c =
    omega (arith, putting-room c.loop-i.invariant c.loop-i-test.true)

pub overflow_add-out : goal.overflow_add-out
overflow_add-out c =
    omega (arith, putting-room c.loop-i.invariant c.loop-i-test.true)

pub offset_bounds-out-count : goal.offset_bounds-out-count
offset_bounds-out-count c =
    omega (arith, putting-room c.loop-i.invariant c.loop-i-test.true)

pub bounds-out-count : goal.bounds-out-count
bounds-out-count c =
    search putting-room

pub loop-i-preserved : goal.loop-i-preserved
loop-i-preserved c =
    search putting-on

pub overflow_add-result : goal.overflow_add-result
overflow_add-result c =
    omega (arith, c.loop-i.invariant.place)

pub returns : goal.returns
returns c =
    search putting-end
