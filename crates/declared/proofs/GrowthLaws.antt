-- What is declared stays declared when more is: one constant more, one predicate more.
use Rattle.std.specs.Prelude.{◌≡◌, List, ℕ, ◌≤◌}
use Rattle.std.proofs.Math.Path.{sym, ap}
use Rattle.std.proofs.Common.{subst, ◌∙◌, arith}
use Rattle.std.proofs.Math.ListN.{get_or, take}
use Rattle.label.specs.Labels.{places_of, predicate_of, unpacked, terms_of}
use Rattle.label.proofs.LabelLaws.{predicate-of}
use Rattle.diagram.specs.Diagram.{Diagram}
use Rattle.state.specs.Terms.{Each}
use Rattle.state.proofs.ValueLaws.{Each-mono}
use Rattle.mdp.specs.Model.{Variant, Action, Every}
use Rattle.model_laws.proofs.ActionLaws.{every-mono}
use Rattle.declared.specs.Inner.{Constant, DeclaredLabel, Declares, DeclaredVariant, DeclaredAction}
use Rattle.declared.proofs.ClosingLaws.{every-mono as labels-mono}

module _ (ar br : List ℕ) (c d p q : ℕ) (constants : c ≤ d) (predicates : p ≤ q) (same : (i : ℕ) → i ≤ p → get_or br i 0 ≡ get_or ar i 0) where
  -- the declared predicates have the places that they had
  terms-same : (l : ℕ) → predicate_of l ≤ p → terms_of ar (unpacked l) ≡ terms_of br (unpacked l)
  unfolding terms_of
  terms-same l h =
      ap (λ (n : ℕ). take n (places_of (unpacked l)))
      (ap (λ (i : ℕ). get_or ar i 0) (predicate-of l) ∙ sym (same (predicate_of l) h) ∙ ap (λ (i : ℕ). get_or br i 0) (sym (predicate-of l)))

  label-grown : (l : ℕ) → DeclaredLabel ar c p l → DeclaredLabel br d q l
  label-grown l h = record {
    predicate = omega (arith, h.predicate);
    constants =
        Each-mono (Constant c) (Constant d) (λ t k i. let j = k i in omega arith) (terms_of br (unpacked l))
        (subst (Each (Constant c)) (terms-same l h.predicate) h.constants);
  }

  pub declares-grown : (x : Diagram) → Declares ar c p x → Declares br d q x
  declares-grown = labels-mono (DeclaredLabel ar c p) (DeclaredLabel br d q) label-grown

  variant-grown : (v : Variant) → DeclaredVariant ar c p v → DeclaredVariant br d q v
  variant-grown v h = record { weight = declares-grown v.weight h.weight; truths = λ i x e. declares-grown x (h.truths i x e) }

  pub actions-grown : (l : List Action) → Every (DeclaredAction ar c p) l → Every (DeclaredAction br d q) l
  actions-grown l h = every-mono (DeclaredAction ar c p) (DeclaredAction br d q) (λ a. every-mono (DeclaredVariant ar c p) (DeclaredVariant br d q) variant-grown a.variants) l h
