use mathlib.Core.Path.{ap, ◌∙◌}
use Prim.Native.Nat.{ℕ}
use Rattle.std.specs.Prelude.{Result}
use Rattle.refusal.specs.declared.Refusal.{Refusal}
use Rattle.c_library.specs.Answers.{rows_number, rows_after}
use Rattle.c_library.proofs.yindolve_regress.Goals as goal

pub returns : goal.returns
returns c = record {
  answer = c.told_rows.ensures.number ∙ ap rows_number c.regress-answer.ensures.value;
  buffer = c.regress-answer.ensures.out_after;
  row_count = c.told_rows.ensures.count ∙ ap (λ (z : Result ℕ Refusal). rows_after z c.args.rows.now) c.regress-answer.ensures.value;
}
