use native.Mathlib.Omega.{arith}
use mathlib.Core.Path.{sym, ◌∙◌}
use Prim.Native.Nat.{◌≤◌}
use lib.ListN.{length}
use Rattle.words.specs.ByteLaws.{inside}
use Rattle.text.specs.LineUnique.{line-answer}
use Rattle.line_reader.proofs.LineCode.{line-long, line-none, line-form}
use Rattle.line_reader.proofs.read_line.Goals as goal

-- the bracket is there
room : (c : goal.Else-byte_at-ne40) → 1 ≤ length c.args.s.now
room c = inside c.args.s.now 0 40 (sym c.byte_at.ensures ∙ c.if-byte_at-ne40.false) (omega arith)

pub slice_bounds-read_form-count : goal.slice_bounds-read_form-count
slice_bounds-read_form-count c =
    room c

pub slice_bounds-read_form-start : goal.slice_bounds-read_form-start
slice_bounds-read_form-start c =
    omega (arith, room c)

pub returns-then-s-gt-LINE_BYTES-clause-form : goal.returns-then-s-gt-LINE_BYTES-clause-form
returns-then-s-gt-LINE_BYTES-clause-form c =
    (line-answer _ _ (line-long _ c.if-s-gt-LINE_BYTES.true)).0

pub returns-then-s-gt-LINE_BYTES-clause-exact : goal.returns-then-s-gt-LINE_BYTES-clause-exact
returns-then-s-gt-LINE_BYTES-clause-exact c =
    (line-answer _ _ (line-long _ c.if-s-gt-LINE_BYTES.true)).1

pub returns-then-byte_at-ne40-clause-form : goal.returns-then-byte_at-ne40-clause-form
returns-then-byte_at-ne40-clause-form c =
    (line-answer _ _ (search line-none)).0

pub returns-then-byte_at-ne40-clause-exact : goal.returns-then-byte_at-ne40-clause-exact
returns-then-byte_at-ne40-clause-exact c =
    (line-answer _ _ (search line-none)).1

pub returns-clause-form : goal.returns-clause-form
returns-clause-form c =
    (line-answer _ _ (search line-form)).0

pub returns-clause-exact : goal.returns-clause-exact
returns-clause-exact c =
    (line-answer _ _ (search line-form)).1
