-- Laws of valuations: terms renamed in their order are read through the renaming.
use Rattle.std.specs.Prelude.{◌≡◌, Bool, true, false, cond, ℕ, ◌<◌}
use Rattle.std.proofs.Math.Path.{ap, ap₂}
use Rattle.std.proofs.Common.{◌∙◌}
use mathlib.Core.List.{List, map, map-map}
use Rattle.label.specs.Labels.{are_arities, predicate_of, unpacked, terms_of, is_label}
use Rattle.label.specs.Inner.{Increasing}
use Rattle.label.specs.Renamings.{renamed, mapped, EachIn}
use Rattle.label.proofs.RenamingLaws.{renamed-terms, renamed-atom}
use Rattle.diagram.specs.Diagram.{Diagram, relabel}
use Rattle.diagram.specs.Listing.{Fine}
use Rattle.rename.specs.Inner.{Named}
use Rattle.rename.specs.Relabelling.{Terms}
use Rattle.rename.specs.RelabelLaws.{eval-relabel, eval-agree, labels-weaken}
use Rattle.rename.specs.AscendingLaws.{map-agree}
use Rattle.rename.specs.TermLaws.{each-terms}
use Rattle.rename.specs.VariableLaws.{named-labels}
use Rattle.rename.specs.Valuations.{holds, leaf_of}

-- a choice of two numbers below n is below n
pub cond_below : (n : ℕ) (b : Bool) {x y : ℕ} → x < n → y < n → cond b x y < n
cond_below n true h k = h
cond_below n false h k = k

-- assignments that agree on the terms of d lead to the same leaf
pub leaf-agree : (ar : List ℕ) (h : ℕ → List ℕ → Bool) (θ η : ℕ → ℕ) (d : Diagram) → Terms ar (λ t. θ t ≡ η t) d → leaf_of ar h θ d ≡ leaf_of ar h η d
unfolding holds
leaf-agree ar h θ η d q =
    eval-agree _ _ d
    (labels-weaken (EachIn ar (λ t. θ t ≡ η t)) _ d
    (λ l e. ap (h (predicate_of l)) (map-agree θ η (terms_of ar (unpacked l)) (each-terms (λ t. θ t ≡ η t) ar l e))) q)

module _ (ar : List ℕ) (good : are_arities ar ≡ true) (P : ℕ → Type 0) (ρ : ℕ → ℕ) (inc : Increasing P ρ) where
  pub renamed-predicate : (l : ℕ) → is_label ar l ≡ true → EachIn ar P l → predicate_of (renamed ar ρ l) ≡ predicate_of l
  unfolding predicate_of unpacked mapped
  renamed-predicate l e p = ap (λ a. a.predicate) (renamed-atom P ρ inc ar good l e p)

  renamed-holds : (h : ℕ → List ℕ → Bool) (θ : ℕ → ℕ) (l : ℕ) → is_label ar l ≡ true → EachIn ar P l → holds ar h θ (renamed ar ρ l) ≡ holds ar h (λ t. θ (ρ t)) l
  unfolding holds
  renamed-holds h θ l e p =
      ap₂ h (renamed-predicate l e p) (ap (map θ) (renamed-terms P ρ inc ar good l e p) ∙ map-map θ ρ (terms_of ar (unpacked l)))

  -- a renamed diagram is read through the renaming
  pub leaf-renaming : (h : ℕ → List ℕ → Bool) (θ : ℕ → ℕ) (d : Diagram) → Fine ar d → Terms ar P d
      → leaf_of ar h θ (relabel (renamed ar ρ) d) ≡ leaf_of ar h (λ t. θ (ρ t)) d
  leaf-renaming h θ d f q =
      eval-relabel (holds ar h θ) (renamed ar ρ) d
      ∙ eval-agree (λ l. holds ar h θ (renamed ar ρ l)) (holds ar h (λ t. θ (ρ t))) d
      (labels-weaken (Named ar P) _ d (λ l p. renamed-holds h θ l p.0 p.1) (named-labels ar P d f q))
