use native.Mathlib.Omega.{arith}
use Rattle.eliminate.proofs.CountLaws.{row-large, row-choices, row-less, row-yes, row-no, row-exact}
use Rattle.eliminate.proofs.row_entries.Goals as goal

pub returns-then-whole-gt-ENTRIES : goal.returns-then-whole-gt-ENTRIES
returns-then-whole-gt-ENTRIES c =
    row-large c.requires _ c.size-whole.ensures c.if-whole-gt-ENTRIES.true

pub cases-count-requires-clause-m_le_most_entries : goal.cases-count-requires-clause-m_le_most_entries
cases-count-requires-clause-m_le_most_entries c =
    row-choices c.requires c.size-whole.ensures c.if-whole-gt-ENTRIES.false c.size-choices.ensures

pub overflow_mul-yes : goal.overflow_mul-yes
overflow_mul-yes c =
    omega (arith, row-yes c.requires c.size-whole.ensures c.if-whole-gt-ENTRIES.false c.size-choices.ensures c.cases-count.ensures c.size.ensures)

pub overflow_sub-no : goal.overflow_sub-no
overflow_sub-no c =
    row-less c.requires c.size-whole.ensures c.if-whole-gt-ENTRIES.false c.size-choices.ensures c.cases-count.ensures

pub overflow_add-result : goal.overflow_add-result
overflow_add-result c =
    omega (
      arith,
      row-yes c.requires c.size-whole.ensures c.if-whole-gt-ENTRIES.false c.size-choices.ensures c.cases-count.ensures c.size.ensures,
      row-no c.requires c.size-whole.ensures c.if-whole-gt-ENTRIES.false
          c.size-choices.ensures c.cases-count.ensures c.size-2.ensures,
    )

pub overflow_add-result-2 : goal.overflow_add-result-2
overflow_add-result-2 c =
    omega (
      arith,
      c.if-whole-gt-ENTRIES.false,
      row-yes c.requires c.size-whole.ensures c.if-whole-gt-ENTRIES.false c.size-choices.ensures c.cases-count.ensures c.size.ensures,
      row-no c.requires c.size-whole.ensures
          c.if-whole-gt-ENTRIES.false c.size-choices.ensures c.cases-count.ensures c.size-2.ensures,
    )

pub overflow_add-result-3 : goal.overflow_add-result-3
overflow_add-result-3 c =
    omega (
      arith,
      c.shrink.ensures.few,
      c.if-whole-gt-ENTRIES.false,
      row-yes c.requires c.size-whole.ensures c.if-whole-gt-ENTRIES.false c.size-choices.ensures c.cases-count.ensures
          c.size.ensures,
      row-no c.requires c.size-whole.ensures c.if-whole-gt-ENTRIES.false c.size-choices.ensures c.cases-count.ensures c.size-2.ensures,
    )

pub returns : goal.returns
returns c =
    row-exact c.requires c.size-whole.ensures c.if-whole-gt-ENTRIES.false c.size-choices.ensures c.cases-count.ensures c.size.ensures c.size-2.ensures c.shrink.ensures
