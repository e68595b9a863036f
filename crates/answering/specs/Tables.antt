-- What is printed line by line: the rows of a listing, or a spread. Inner contracts.
use Rattle.std.specs.Prelude.{List, ℕ, ◌*◌, ◌≤◌, length}
use Rattle.answers.specs.Answers.{row_line_at, row_lines, count_line_at, count_lines}
use Rattle.answering.specs.declared.Table.{Table}
use Rattle.answering.specs.declared.Table.TheVariants.{Rows, Counts}

-- the words of the first n lines are there
abbrev pub Holds : Table → ℕ → List ℕ → Type 0
Holds Rows n ws = n * 3 ≤ length ws
Holds Counts n ws = n * 2 ≤ length ws

-- line k
abbrev pub table_line : Table → List ℕ → ℕ → List ℕ
table_line Rows ws k = row_line_at ws k
table_line Counts ws k = count_line_at ws k

-- the first n lines
abbrev pub table_lines : Table → List ℕ → ℕ → List ℕ
table_lines Rows ws n = row_lines ws n
table_lines Counts ws n = count_lines ws n
