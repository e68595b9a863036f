-- How many lines a text may have: as many as a word counts.
use Rattle.std.specs.Prelude.{ℕ}

-- the lines that a number counts
abbrev pub most_lines : ℕ
most_lines = 18446744073709551615
