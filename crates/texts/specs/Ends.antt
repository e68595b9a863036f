-- Where a line of a text ends (document 01, section 'Text': 'line feed at the end').
use Rattle.std.specs.Prelude.{ℕ, Bool, not, List, eqb}
use Rattle.words.specs.Bytes.{run}
use Rattle.session.specs.Texts.{line_feed}

-- a byte of a line
abbrev pub in_line : ℕ → Bool
in_line b = not (eqb b line_feed)

-- how many bytes there are before the first line feed, or in all
unfoldable pub line_length : List ℕ → ℕ
unfolding run
line_length s = run in_line s
