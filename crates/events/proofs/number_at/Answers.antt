use mathlib.Core.Path.{sym}
use lib.Seq.{length-take-le}
use Rattle.words.specs.Bytes.{run, is_digit}
use Rattle.words.specs.ByteLaws.{run-le, run_take}
use Rattle.events.proofs.number_at.Goals as goal

pub slice_bounds-value-end : goal.slice_bounds-value-end
slice_bounds-value-end c =
    rw c.digit_run-n.ensures (sym (length-take-le (run is_digit c.args.s.now) c.args.s.now (run-le is_digit c.args.s.now)))

pub value-requires : goal.value-requires
value-requires c =
    rw c.digit_run-n.ensures (run_take is_digit c.args.s.now)
