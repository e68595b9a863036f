use Prim.Native.Nat.{◌≤◌}
use mathlib.Core.Path.{◌≡◌}
use lib.ListN.{length}
use Rattle.diagram.specs.Words.{row_count}
use Rattle.spelling.specs.Spelling.{tables_at}
use Rattle.spelling.specs.Parts.{ByteCounts, OpenCounts}
use Rattle.spelling.proofs.count_rows.Given as goal

abbrev pub invariant-loop-i : goal.invariant-loop-i
invariant-loop-i l = (l.i ≤ row_count l.words) × (length l.bytes ≡ length l.initial.bytes) × (length l.brackets ≡ length l.initial.brackets)
    × ByteCounts l.arities (tables_at l.names l.constants l.predicates) l.words l.bytes l.i
    × OpenCounts l.words l.brackets l.i
