use native.Mathlib.Omega.{arith}
use mathlib.Core.Path.{sym, ap}
use Prim.Native.Nat.{◌≤◌}
use lib.ListN.{length, length-drop}
use lib.Seq.{length-take-le}
use Rattle.words.specs.Bytes.{is_name_byte}
use Rattle.words.specs.ByteLaws.{run-le}
use Rattle.events.proofs.word_at.Goals as goal

-- the name lies within the bytes
room : (c : goal.Else-n-gt15) → c.name_run-n.result ≤ length c.rest-t.result.now
room c = omega (arith, c.name_run-n.ensures, run-le is_name_byte c.rest-t.result.now)

pub overflow_add-i : goal.overflow_add-i
overflow_add-i c =
    omega (
      arith,
      c.name_run-n.ensures,
      run-le is_name_byte c.rest-t.result.now,
      ap length c.rest-t.ensures,
      length-drop c.args.i c.args.s.now,
      c.well_formed,
    )

pub slice_bounds-key_of-end : goal.slice_bounds-key_of-end
slice_bounds-key_of-end c =
    sym (length-take-le _ _ (room c))

pub key_of-requires : goal.key_of-requires
key_of-requires c =
    omega (arith, c.if-n-gt15.false, length-take-le c.name_run-n.result c.rest-t.result.now (room c))
