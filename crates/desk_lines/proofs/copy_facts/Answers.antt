use Prim.Native.Nat.{◌+◌, ◌-◌}
use mathlib.Core.Path.{◌≡◌, sym}
use native.Mathlib.Omega.{arith}
use lib.ListN.{take, drop}
use lib.Seq.{drop-drop}
use Rattle.std.proofs.Common.{append_assoc}
use Rattle.desk_lines.proofs.copy_facts.Goals as goal

pub returns : goal.returns
returns c =
    let k : 32 + c.args.words - 32 ≡ c.args.words = omega arith in
    rw (k, c.copy_from_slice.ensures.after, drop-drop c.args.words 32 c.args.state.now)
    (sym (append_assoc (take 32 c.args.state.now) (take c.args.words c.args.rows.now) (drop (32 + c.args.words) c.args.state.now)))
