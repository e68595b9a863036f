use Rattle.answers.specs.Inner.{line_bytes}
use lib.ListN.{length}
use mathlib.Core.Path.{◌≡◌}
use Rattle.answering.proofs.TableLaws.{LinesWritten}
use Rattle.answering.proofs.write_lines.Given as goal

abbrev pub invariant-loop-k : goal.invariant-loop-k
invariant-loop-k l = LinesWritten l.initial.out l.table l.words l.n l.at l.k l.end l.out × (length l.line ≡ line_bytes)
