-- A combination is the one ordered reduced diagram with its meaning.
use Rattle.std.specs.Prelude.{◌≡◌, Bool, ℕ}
use Rattle.std.proofs.Common.{sym, ◌∙◌}
use Rattle.diagram.specs.Diagram.{Diagram, eval, Ordered, Reduced}
use Rattle.diagram.specs.Canonicity.{canonicity}
use Rattle.apply.specs.Apply.{apply}
use Rattle.apply.specs.ApplyLaws.{eval_apply, ordered-apply, reduced-apply}

pub apply-unique : (op : ℕ → ℕ → ℕ) (a b d : Diagram) → Ordered a → Ordered b → Ordered d → Reduced d
    → ((c : ℕ → Bool) → eval c d ≡ op (eval c a) (eval c b)) → d ≡ apply op a b
apply-unique op a b d o p q r h =
    canonicity d (apply op a b) q r (ordered-apply op a b o p) (reduced-apply op a b) (λ c. h c ∙ sym (eval_apply op c a b))
