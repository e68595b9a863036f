use mathlib.Core.Path.{◌≡◌}
use lib.ListN.{drop}
use Rattle.text.specs.Inner.{kinds}
use Rattle.text.specs.LineForm.{kind_in, kind_of}
use Rattle.line_reader.proofs.find_keyword.Given as goal

abbrev pub invariant-loop-row : goal.invariant-loop-row
invariant-loop-row l = kind_of l.key ≡ kind_in (drop l.row-index kinds) l.key
