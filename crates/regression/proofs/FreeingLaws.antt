-- Freeing leaves no parameter.
use Rattle.std.specs.Prelude.{ℕ, ◌+◌, ◌≤◌}
use Rattle.std.proofs.Common.{arith}
use Rattle.label.specs.Limits.{first_parameter, first_variable, first_minimum}
use Rattle.label.specs.Renamings.{freeing}
use Rattle.label.proofs.RenamingLaws.{freeing-constant, freeing-parameter, freeing-variable, freeing-minimum}
use Rattle.diagram.specs.Diagram.{Tree}
use Rattle.state.specs.State.{Atomic}
use Rattle.state.specs.Terms.{rename}
use Rattle.state.proofs.ValueLaws.{by-low, Terms-map}
use Rattle.minimum.proofs.FreedLaws.{by_kind}
use Rattle.regression.specs.Parameters.{Allowed, Within}

pub within-freed : (c : ℕ) → first_parameter + c ≤ first_variable → (d : Tree Atomic) → Within c d → Within 0 (rename (freeing c) d)
within-freed c few d w = record {
  terms = Terms-map (Allowed c) (Allowed 0) (freeing c) (λ t a. by-low (Allowed 0 (freeing c t)) first_minimum t
      (λ m. by_kind c (Allowed 0 (freeing c t)) t
      (λ h. rw (freeing-constant c t h) (λ k. absurd (omega arith)))
      (λ h l. rw (freeing-parameter c t h l) (λ k. omega arith))
      (λ h l. let g = a h in absurd (omega arith))
      (λ h. rw (freeing-variable c t few h m) (λ k. omega arith)))
      (λ m. rw (freeing-minimum c t few m) (λ k. omega arith))) d w.terms;
}
