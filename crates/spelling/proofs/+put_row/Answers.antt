use native.Mathlib.Omega.{arith}
use Rattle.spelling.proofs.RowLaws.{spelt-arities, row_label, high-less, low-less, leaf_room, leaf-below, leaf-wrote, test-room, high-room, low-room, end_below, row_wrote}
use Rattle.spelling.proofs.+put_row.Goals as goal

pub put_number-end-requires : goal.put_number-end-requires
put_number-end-requires t c =
    leaf_room c.args.out.now c.args.at c.args.behind c.requires.spelt c.requires.i_bound c.requires.behind_in_bounds c.if-label.true

pub bounds-out-end : goal.bounds-out-end
bounds-out-end t c =
    leaf-below c.args.out.now c.args.at c.args.behind c.requires.spelt c.requires.i_bound c.requires.behind_in_bounds c.if-label.true c.put_number-end.ensures c.put_number-end.auto.out

pub returns-then-label : goal.returns-then-label
returns-then-label t c =
    leaf-wrote c.args.out.now c.args.at c.args.behind c.requires.spelt c.requires.i_bound c.requires.behind_in_bounds c.if-label.true c.put_number-end.ensures c.put_number-end.auto.out

pub put_test-first-requires-clause-arities_value : goal.put_test-first-requires-clause-arities_value
put_test-first-requires-clause-arities_value t c =
    spelt-arities c.requires.spelt c.requires.i_bound

pub put_test-first-requires-clause-packed_value : goal.put_test-first-requires-clause-packed_value
put_test-first-requires-clause-packed_value t c =
    row_label c.requires.spelt c.requires.i_bound c.if-label.false

pub put_test-first-requires-clause-named : goal.put_test-first-requires-clause-named
put_test-first-requires-clause-named t c =
    c.requires.spelt.named

pub put_test-first-requires-clause-packed_in_bounds : goal.put_test-first-requires-clause-packed_in_bounds
put_test-first-requires-clause-packed_in_bounds t c =
    test-room c.args.out.now c.args.at c.args.behind c.requires.spelt c.requires.i_bound c.requires.behind_in_bounds c.if-label.false

pub put_row-second-requires : goal.put_row-second-requires
put_row-second-requires t c =
    let a = c.args in
    let q = c.requires in
    let test = c.put_test-first in
    let h = high-less q.spelt q.i_bound c.if-label.false in
    (omega (arith, c.decreases, h), (q.spelt, (omega (arith, h, q.i_bound), high-room a.out.now a.at a.behind q.spelt q.i_bound q.behind_in_bounds c.if-label.false test.ensures test.auto.out)))

pub put_row-end-requires : goal.put_row-end-requires
put_row-end-requires t c =
    let a = c.args in
    let q = c.requires in
    let test = c.put_test-first in
    let second = c.put_row-second in
    let h = low-less q.spelt q.i_bound c.if-label.false in
    let room = low-room a.out.now a.at a.behind q.spelt q.i_bound q.behind_in_bounds c.if-label.false test.ensures test.auto.out second.ensures second.auto.out in
    (omega (arith, c.decreases, h), (q.spelt, (omega (arith, h, q.i_bound), room)))

pub bounds-out-end-2 : goal.bounds-out-end-2
bounds-out-end-2 t c =
    let a = c.args in
    let q = c.requires in
    let test = c.put_test-first in
    let second = c.put_row-second in
    let end = c.put_row-end in
    end_below a.out.now a.at a.behind q.spelt q.i_bound q.behind_in_bounds c.if-label.false test.ensures test.auto.out second.ensures second.auto.out end.ensures end.auto.out

pub returns : goal.returns
returns t c =
    let a = c.args in
    let q = c.requires in
    let test = c.put_test-first in
    let second = c.put_row-second in
    let end = c.put_row-end in
    row_wrote a.out.now a.at a.behind q.spelt q.i_bound q.behind_in_bounds c.if-label.false test.ensures test.auto.out second.ensures second.auto.out end.ensures end.auto.out
