use mathlib.Core.Path.{refl, ◌∙◌}
use native.Mathlib.Omega.{arith}
use lib.ListN.{length-set}
use borrow.Author.Rules.{rules}
use Rattle.spelling.proofs.CountLaws.{spelt-shown, bytes-start, bytes-more, bytes-done, brackets-start, brackets-more, brackets-done}
use Rattle.spelling.proofs.count_rows.Goals as goal

pub loop-i-init : goal.loop-i-init
loop-i-init c =
    (search rules, refl, refl, bytes-start c.requires.words_in_bounds, brackets-start c.requires.words_in_bounds_2)

pub row_bytes-requires-clause-spelt : goal.row_bytes-requires-clause-spelt
row_bytes-requires-clause-spelt c =
    c.requires.spelt

pub row_bytes-requires-clause-i_bound : goal.row_bytes-requires-clause-i_bound
row_bytes-requires-clause-i_bound c =
    c.loop-i-test.true

pub row_bytes-requires-clause-byte_counts : goal.row_bytes-requires-clause-byte_counts
row_bytes-requires-clause-byte_counts c =
    c.loop-i.invariant.3

pub row_open-requires-clause-shown : goal.row_open-requires-clause-shown
row_open-requires-clause-shown c =
    spelt-shown c.requires.spelt

pub row_open-requires-clause-i_bound : goal.row_open-requires-clause-i_bound
row_open-requires-clause-i_bound c =
    c.loop-i-test.true

pub row_open-requires-clause-open_counts : goal.row_open-requires-clause-open_counts
row_open-requires-clause-open_counts c =
    c.loop-i.invariant.4

pub offset_bounds-bytes-i : goal.offset_bounds-bytes-i
offset_bounds-bytes-i c =
    omega (arith, c.loop-i.invariant.1, c.loop-i.invariant.3.room, c.loop-i-test.true, c.well_formed)

pub bounds-bytes-i : goal.bounds-bytes-i
bounds-bytes-i c =
    omega (arith, c.loop-i.invariant.3.room, c.loop-i-test.true)

pub offset_bounds-brackets-i : goal.offset_bounds-brackets-i
offset_bounds-brackets-i c =
    omega (arith, c.loop-i.invariant.2, c.loop-i.invariant.4.room, c.loop-i-test.true, c.well_formed)

pub bounds-brackets-i : goal.bounds-brackets-i
bounds-brackets-i c =
    omega (arith, c.loop-i.invariant.4.room, c.loop-i-test.true)

pub loop-i-preserved : goal.loop-i-preserved
loop-i-preserved c = (
  omega (arith, c.loop-i-test.true),
  length-set c.loop-i.bytes c.loop-i.i c.row_bytes.result ∙ c.loop-i.invariant.1,
  length-set c.loop-i.brackets c.loop-i.i c.row_open.result ∙ c.loop-i.invariant.2,
  bytes-more c.loop-i.invariant.3 c.loop-i-test.true c.row_bytes.ensures,
  brackets-more c.loop-i.invariant.4 c.loop-i-test.true c.row_open.ensures,
)

pub returns-clause-byte_counts : goal.returns-clause-byte_counts
returns-clause-byte_counts c =
    bytes-done c.loop-i.invariant.3 c.loop-i.invariant.0 c.loop-i-test.false

pub returns-clause-open_counts : goal.returns-clause-open_counts
returns-clause-open_counts c =
    brackets-done c.loop-i.invariant.4 c.loop-i.invariant.0 c.loop-i-test.false
