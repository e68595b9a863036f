use Prim.Native.Nat.{◌-◌}
use mathlib.Core.Path.{◌≡◌}
use lib.ListN.{length}
use Rattle.memory.specs.Memory.{memory_of}
use Rattle.texts.specs.Inner.{progress_of, whole_of, next_end}
use Rattle.texts.proofs.RunLaws.{Lengths, Answering}
use Rattle.texts.proofs.CarriedLaws.{CarriedSoFar}
use Rattle.texts.proofs.answer_whole.Given as goal

abbrev pub invariant-loop-end : goal.invariant-loop-end
invariant-loop-end l =
    let o = l.initial in
    let before = memory_of o.names o.arities o.listings o.table o.state o.value in
    let now = memory_of l.names l.arities l.listings l.table l.state l.value in
    let begun = progress_of o.r.position before o.out in
    Answering l.block l.from l.free begun
    (whole_of l.block l.from l.free begun o.out) o.out l.r now l.out
    × Lengths before o.work now l.work
    × (l.end ≡ next_end l.block l.r l.free (length o.out))
    × CarriedSoFar l.block l.from l.free o.r.position before o.out l.r now l.out

abbrev pub decreases-loop-end : goal.decreases-loop-end
decreases-loop-end l = length l.block - l.end
