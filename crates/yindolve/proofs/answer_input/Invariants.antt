use Prim.Native.Nat.{◌+◌, ◌*◌, ◌-◌}
use mathlib.Core.Bool.{cond}
use Rattle.memory.specs.Memory.{memory_of}
use Rattle.texts.specs.Sending.{most_lines}
use Rattle.yindolve.proofs.HandLaws.{Lengths}
use Rattle.yindolve.proofs.EndLaws.{Run}
use Rattle.yindolve.proofs.answer_input.Given as goal

abbrev pub invariant-loop-open : goal.invariant-loop-open
invariant-loop-open l =
    let o = l.initial in
    let before = memory_of o.names o.arities o.listings o.table o.state o.value in
    let now = memory_of l.names l.arities l.listings l.table l.state l.value in
    Run l.t l.«open» l.p l.rest now l.block l.out
    × Lengths before o.work o.block o.out now l.work l.block l.out

abbrev pub decreases-loop-open : goal.decreases-loop-open
decreases-loop-open l = (most_lines - l.t.read) * 2 + l.rest.count + cond l.«open» 1 0
