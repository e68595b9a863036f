use native.Mathlib.Omega.{arith}
use Rattle.spelling.proofs.RowLaws.{spelt-arities, row_label}
use Rattle.spelling.proofs.CountLaws.{leaf-line, leaf-bytes, test-line, test-few, high-there, low-there, high-few, low-few, bytes-sum}
use Rattle.spelling.proofs.row_bytes.Goals as goal

pub put_number-requires : goal.put_number-requires
put_number-requires c =
    leaf-line c.requires.spelt c.requires.i_bound c.if-label.true

pub returns-then-label : goal.returns-then-label
returns-then-label c =
    leaf-bytes c.requires.spelt c.requires.i_bound c.if-label.true c.put_number.ensures

pub put_test-n-requires-clause-arities_value : goal.put_test-n-requires-clause-arities_value
put_test-n-requires-clause-arities_value c =
    spelt-arities c.requires.spelt c.requires.i_bound

pub put_test-n-requires-clause-packed_value : goal.put_test-n-requires-clause-packed_value
put_test-n-requires-clause-packed_value c =
    row_label c.requires.spelt c.requires.i_bound c.if-label.false

pub put_test-n-requires-clause-named : goal.put_test-n-requires-clause-named
put_test-n-requires-clause-named c =
    c.requires.spelt.named

pub put_test-n-requires-clause-packed_in_bounds : goal.put_test-n-requires-clause-packed_in_bounds
put_test-n-requires-clause-packed_in_bounds c =
    test-line c.requires.spelt c.requires.i_bound c.if-label.false

pub overflow_add-sum : goal.overflow_add-sum
overflow_add-sum c =
    omega (arith, test-few c.requires.spelt c.requires.i_bound c.if-label.false c.put_test-n.ensures)

pub offset_bounds-bytes-high : goal.offset_bounds-bytes-high
offset_bounds-bytes-high c =
    omega (arith, high-there c.requires.spelt c.requires.i_bound c.if-label.false c.requires.byte_counts)

pub bounds-bytes-high : goal.bounds-bytes-high
bounds-bytes-high c =
    high-there c.requires.spelt c.requires.i_bound c.if-label.false c.requires.byte_counts

pub overflow_add-sum-2 : goal.overflow_add-sum-2
overflow_add-sum-2 c =
    omega (arith, test-few c.requires.spelt c.requires.i_bound c.if-label.false c.put_test-n.ensures, high-few c.requires.spelt c.requires.i_bound c.if-label.false c.requires.byte_counts)

pub offset_bounds-bytes-low : goal.offset_bounds-bytes-low
offset_bounds-bytes-low c =
    omega (arith, low-there c.requires.spelt c.requires.i_bound c.if-label.false c.requires.byte_counts)

pub bounds-bytes-low : goal.bounds-bytes-low
bounds-bytes-low c =
    low-there c.requires.spelt c.requires.i_bound c.if-label.false c.requires.byte_counts

pub overflow_add-sum-3 : goal.overflow_add-sum-3
overflow_add-sum-3 c =
    let q = c.requires in
    omega (arith, test-few q.spelt q.i_bound c.if-label.false c.put_test-n.ensures, high-few q.spelt q.i_bound c.if-label.false q.byte_counts, low-few q.spelt q.i_bound c.if-label.false q.byte_counts)

pub returns : goal.returns
returns c =
    bytes-sum c.requires.spelt c.requires.i_bound c.if-label.false c.put_test-n.ensures c.requires.byte_counts c.min.ensures
