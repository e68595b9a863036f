use Rattle.answers.specs.Inner.{line_bytes}
use lib.ListN.{length}
use mathlib.Core.Path.{◌≡◌}
use Rattle.answering.proofs.TableLaws.{LinesPlace}
use Rattle.answering.proofs.lines_end.Given as goal

abbrev pub invariant-loop-k : goal.invariant-loop-k
invariant-loop-k l = LinesPlace l.table l.words l.n l.at l.limit l.k l.end × (length l.line ≡ line_bytes)
