-- A diagram whose terms are renamed in their order means what the old one means under the choice that is seen through the renaming.
use Rattle.std.specs.Prelude.{◌≡◌, List, ℕ}
use Rattle.std.proofs.Common.{ap, sym, ◌∙◌}
use Rattle.label.specs.Limits.{first_variable, first_minimum}
use Rattle.label.specs.Inner.{Increasing, Numbered}
use Rattle.label.specs.Renamings.{renamed, numbering}
use Rattle.label.proofs.RenamingLaws.{moved-renamed}
use Rattle.diagram.specs.Diagram.{Diagram, eval, relabel}
use Rattle.diagram.specs.Listing.{Good}
use Rattle.diagram.specs.Variables.{variables, minimums, closed_from, closed}
use Rattle.rename.specs.Inner.{Named, KindsFit}
use Rattle.rename.specs.Relabelling.{Terms}
use Rattle.rename.specs.RelabelLaws.{eval-relabel, eval-agree, labels-weaken}
use Rattle.rename.specs.ClosingLaws.{closing-increasing, closed-fit, closed-good}
use Rattle.rename.specs.VariableLaws.{named-labels, terms-numbered}
use Rattle.regression.specs.Result.{asked}
use Rattle.uniqueness.specs.Meaning.{Choice, Meaning, TheOnly, read_through, closing_up, closed_meaning, TheOnlyClosed}
use Rattle.uniqueness.proofs.OnlyLaws.{good-only}

pub renamed-means : (ar : List ℕ) (P : ℕ → Type 0) (ρ : ℕ → ℕ) → Increasing P ρ → (d : Diagram) → Good ar d → Terms ar P d → (c : Choice)
    → eval c (relabel (renamed ar ρ) d) ≡ eval (read_through ar ρ c) d
renamed-means ar P ρ inc d g w c =
    eval-relabel c (renamed ar ρ) d
    ∙ eval-agree (λ l. c (renamed ar ρ l)) (read_through ar ρ c) d
    (labels-weaken (Named ar P) _ d (λ l p. sym (ap (asked c) (moved-renamed P ρ inc ar g.arities l p.0 p.1))) (named-labels ar P d g.fine w))

pub closed_from-means : (ar : List ℕ) (m n : ℕ) (d : Diagram) → KindsFit ar m n d → Good ar d → (c : Choice)
    → eval c (closed_from ar m n d) ≡ eval (read_through ar (numbering (variables ar d) (minimums ar d) m n) c) d
unfolding closed_from
closed_from-means ar m n d fit g c =
    renamed-means ar (Numbered (variables ar d) (minimums ar d)) (numbering (variables ar d) (minimums ar d) m n) (closing-increasing ar m n d fit g) d g
    (terms-numbered ar d g.fine) c

pub closed-means : (ar : List ℕ) (d : Diagram) → Good ar d → (c : Choice) → eval c (closed ar d) ≡ eval (read_through ar (closing_up ar d) c) d
unfolding closed
closed-means ar d g c = closed_from-means ar first_variable first_minimum d (closed-fit ar d g) g c

-- the only diagram that means M, closed up
pub closed-only : (ar : List ℕ) (M : Meaning) (d : Diagram) → TheOnly ar M d → TheOnlyClosed ar M (closed ar d)
closed-only ar M d t = record {
  before = d;
  first = t;
  one = good-only ar (closed_meaning ar d M) (closed ar d) (closed-good ar d t.good) (λ c. closed-means ar d t.good c ∙ t.means (read_through ar (closing_up ar d) c));
}
