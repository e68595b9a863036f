use native.Mathlib.Omega.{arith}
use lib.Dec.{lit≤}
use Rattle.label.proofs.CodeLaws.{under_all}
use Rattle.table.proofs.TableLaws.{empty-made}
use Rattle.listing.proofs.OrderLaws.{check-arities, check-whole, check-some, check-few, check-rows, check-order, check-good}
use Rattle.listing.proofs.check.Goals as goal

pub returns-then-not-are_arities : goal.returns-then-not-are_arities
returns-then-not-are_arities c =
    search check-arities

pub returns-then-m-words : goal.returns-then-m-words
returns-then-m-words c =
    search check-whole

pub returns-then-m-eq0 : goal.returns-then-m-eq0
returns-then-m-eq0 c =
    search check-some

pub returns-then-m-gt-ROWS : goal.returns-then-m-gt-ROWS
returns-then-m-gt-ROWS c =
    search check-few

pub are_valid_rows-requires-clause-predicate_count_in_bounds : goal.are_valid_rows-requires-clause-predicate_count_in_bounds
are_valid_rows-requires-clause-predicate_count_in_bounds c =
    search under_all

pub are_valid_rows-requires-clause-table : goal.are_valid_rows-requires-clause-table
are_valid_rows-requires-clause-table c =
    empty-made _ 2048 1024 _ (omega arith) (lit≤ tt) (omega arith) (omega arith)

pub returns-then-not-are_valid_rows : goal.returns-then-not-are_valid_rows
returns-then-not-are_valid_rows c =
    search check-rows

pub returns-then-walk-m : goal.returns-then-walk-m
returns-then-walk-m c =
    search check-order

pub returns : goal.returns
returns c =
    search check-good
