-- No state goes along a path that contradicts itself: so a diagram that leads to one leaf has that value everywhere.
use Rattle.std.specs.Prelude.{◌≡◌, true, List, [], ◌∷◌, map, ℕ, eqb}
use Rattle.std.proofs.Math.Path.{refl}
use Rattle.std.proofs.Common.{sym, ap₂, ◌∙◌, true≢false, eqb-true}
use Rattle.std.proofs.lemmas.Bool.{eqb-false}
use Rattle.basics.specs.Tests.{Flag, is_true, is_false, flag}
use Rattle.label.specs.Labels.{predicate_of}
use Rattle.diagram.specs.Diagram.{Diagram, leaf}
use Rattle.state.specs.State.{State, atom_of, meaning, truth, holds, value}
use Rattle.paths.specs.Paths.{Literal, Path, literals}
use Rattle.cutting.specs.Truth.{says, Follows}
use Rattle.cutting.proofs.TruthLaws.{value-says, Followed, walk, tells}
use Rattle.contradiction.specs.Contradiction.{literal_terms, Equates, Joined, named, itself, turned, along, Agree, Contradicts, unequal, differ, LeadsTo}

module _ (ar : List ℕ) (s : State) (θ : ℕ → ℕ) where
  -- a literal's truth, by its predicate and the objects of its terms
  pub says-terms : (l : Literal) → says ar s θ l.label ≡ truth s (predicate_of l.label) (map θ (literal_terms ar l))
  unfolding holds atom_of
  says-terms l = refl

  says-names : (l : Literal) (t u : ℕ) → Equates ar l t u → says ar s θ l.label ≡ eqb (θ t) (θ u)
  says-names l t u n = says-terms l ∙ ap₂ (λ (p : ℕ) (us : List ℕ). truth s p (map θ us)) n.equates n.terms

  module _ (p : Path) (f : Follows (says ar s θ) p) where
    -- joined terms have one object
    joined-objects : {t u : ℕ} → Joined ar (literals p) t u → θ t ≡ θ u
    joined-objects (named {t = t} {u = u} l m e n) = eqb-true (θ t) (θ u) (sym (says-names l t u n) ∙ f.each l m ∙ e)
    joined-objects itself = refl
    joined-objects (turned j) = sym (joined-objects j)
    joined-objects (along j k) = joined-objects j ∙ joined-objects k

    agree-objects : (ts us : List ℕ) → Agree ar (literals p) ts us → map θ ts ≡ map θ us
    agree-objects [] [] a = refl
    agree-objects [] (u ∷ us) a = absurd a
    agree-objects (t ∷ ts) [] a = absurd a
    agree-objects (t ∷ ts) (u ∷ us) a = ap₂ ◌∷◌ (joined-objects a.0) (agree-objects ts us a.1)

    -- where each literal of a path has its truth, the path does not contradict itself
    pub not-followed : Contradicts ar (literals p) → ⊥
    not-followed (unequal {t = t} {u = u} l m e n j) = eqb-false (θ t) (θ u) (sym (says-names l t u n) ∙ f.each l m ∙ e) (joined-objects j)
    not-followed (differ l m i j q a x y) =
        true≢false
        (sym x ∙ sym (f.each l i) ∙ says-terms l ∙ ap₂ (truth s) q (agree-objects (literal_terms ar l) (literal_terms ar m) a) ∙ sym (says-terms m) ∙ f.each m j ∙ y)

-- a diagram all of whose paths to leaves other than w contradict themselves has the value w, in every state and under every valuation
pub leads-value : (ar : List ℕ) (w : ℕ) (d : Diagram) → LeadsTo ar w d → (s : State) (θ : ℕ → ℕ) → value s (meaning ar d) θ ≡ w
leads-value ar w d c s θ = go (walk (says ar s θ) d)
  where
    go : Followed (says ar s θ) d → value s (meaning ar d) θ ≡ w
    go x = value-says ar s θ d ∙ (tells (leaf 0) true d (says ar s θ) x.path x.of x.follows).old ∙ at (flag (eqb x.path.end w))
      where
        at : Flag (eqb x.path.end w) → x.path.end ≡ w
        at (is_true q) = eqb-true x.path.end w q
        at (is_false q) = absurd (not-followed ar s θ x.path x.follows (c x.path x.of (eqb-false x.path.end w q)))
