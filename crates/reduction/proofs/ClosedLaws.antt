-- Closing up keeps the number, and adds no parameter.
use Rattle.std.specs.Prelude.{List, ℕ}
use Rattle.std.proofs.Common.{arith}
use Rattle.label.specs.Limits.{first_variable, first_minimum}
use Rattle.label.specs.Renamings.{numbering}
use Rattle.label.proofs.RenamingLaws.{numbering-low, numbering-variable, numbering-minimum}
use Rattle.diagram.specs.Diagram.{Diagram}
use Rattle.diagram.specs.Listing.{Good as Listed}
use Rattle.diagram.specs.Variables.{closed_from, closed}
use Rattle.rename.specs.Inner.{KindsFit}
use Rattle.rename.specs.ClosingLaws.{closed-fit}
use Rattle.state.specs.State.{meaning, State}
use Rattle.state.proofs.ValueLaws.{by-low, Terms-map}
use Rattle.minimum.specs.Number.{Number, maximums, minimums}
use Rattle.minimum.proofs.ClosingLaws.{number-closed}
use Rattle.regression.specs.Parameters.{Allowed, Within}
use Rattle.reduction.proofs.KindLaws.{maximums-variables, closed_from-kinds, closed-kinds}

-- closing up from m and n on adds no parameter
pub within-closed_from : (c : ℕ) (ar : List ℕ) (m n : ℕ) (d : Diagram) → KindsFit ar m n d → Listed ar d → Within c (meaning ar d) → Within c (meaning ar (closed_from ar m n d))
within-closed_from c ar m n d fit good w = rw (closed_from-kinds ar d good m n fit) (record {
  terms = Terms-map (Allowed c) (Allowed c) (numbering (maximums (meaning ar d)) (minimums (meaning ar d)) m n) each (meaning ar d) w.terms;
})
  where
    each : (t : ℕ) → Allowed c t → Allowed c (numbering (maximums (meaning ar d)) (minimums (meaning ar d)) m n t)
    each t a = by-low _ first_variable t
        (λ h. rw (numbering-low (maximums (meaning ar d)) (minimums (meaning ar d)) m n t h) a)
        (λ h. by-low _ first_minimum t
        (λ k l. omega (arith, fit.variables-from, numbering-variable (maximums (meaning ar d)) (minimums (meaning ar d)) m n t h k))
        (λ k l. omega (arith, fit.minimums-from, numbering-minimum (maximums (meaning ar d)) (minimums (meaning ar d)) m n t k)))

pub within-closed : (c : ℕ) (ar : List ℕ) (d : Diagram) → Listed ar d → Within c (meaning ar d) → Within c (meaning ar (closed ar d))
unfolding closed
within-closed c ar d good w = within-closed_from c ar first_variable first_minimum d (closed-fit ar d good) good w

-- closing up keeps the number
pub closed-number : (ar : List ℕ) (d : Diagram) → Listed ar d → (s : State) (os : List ℕ) (x : ℕ) → Number s os (meaning ar d) x → Number s os (meaning ar (closed ar d)) x
closed-number ar d good s os x m =
    rw (closed-kinds ar d good) (number-closed (meaning ar d) (rw (maximums-variables ar d good) (closed-fit ar d good).variables-end) m)
