-- What the row step of a written test forms: T times t is (l t 0), (1 - T) times f is (l 0 f), and their sum is (l t f).
use Rattle.std.specs.Prelude.{◌≡◌, refl, ◌≢◌, Bool, true, false, cond, List, ℕ, suc, ◌+◌, ◌*◌}
use Rattle.std.proofs.Common.{ap, ap₂, sym, ◌∙◌, arith}
use Rattle.basics.specs.Tests.{Flag, is_true, is_false, flag}
use Rattle.diagram.specs.Diagram.{Diagram, leaf, branch, same, eval, From, Ordered, Reduced}
use Rattle.diagram.specs.DiagramLaws.{same-eq}
use Rattle.diagram.specs.Listing.{Fine}
use Rattle.apply.specs.declared.Operation.TheVariants.{Product}
use Rattle.apply.specs.Apply.{node, apply}
use Rattle.apply.specs.ApplyLaws.{node-same, node-differ, apply-leaves, apply-left, apply-right, eval-node, from-node}
use Rattle.apply.proofs.Canon.{apply-unique}
use Rattle.apply.proofs.Course.{absorbed-left}
use Rattle.apply.specs.Walk.{Below}
use Rattle.regression.specs.Step.{label_test, exchanged}
use Rattle.acceptance.specs.FormedRows.{other_test}

pub from-root : (l : ℕ) (d : Diagram) → From (suc l) d → Below l d
from-root l (leaf v) o = tt
from-root l (branch k u g) o = o.0

differ : (a b : Diagram) → a ≢ b → same a b ≡ false
differ a b h = go (flag (same a b))
  where
    go : Flag (same a b) → same a b ≡ false
    go (is_true e) = absurd (h (same-eq a b e))
    go (is_false e) = e

one-times : (d : Diagram) → Reduced d → apply ◌*◌ (leaf 1) d ≡ d
one-times (leaf w) r = apply-leaves ◌*◌ 1 w ∙ ap leaf (omega arith)
one-times (branch k u g) r =
    apply-right ◌*◌ k (leaf 1) u g tt ∙ ap₂ (node k) (one-times u r.1) (one-times g r.2) ∙ node-differ k u g (differ u g r.0)

zero-times : (d : Diagram) → apply ◌*◌ (leaf 0) d ≡ leaf 0
zero-times d = absorbed-left Product 0 d refl

pub exchanged-test : (l : ℕ) → exchanged (label_test l) ≡ other_test l
unfolding exchanged
exchanged-test l = refl

-- T times the true result, (1 - T) times the false result
pub test-times : (l : ℕ) (t : Diagram) → From (suc l) t → Reduced t → apply ◌*◌ (label_test l) t ≡ node l t (leaf 0)
test-times l t o r = apply-left ◌*◌ l (leaf 1) (leaf 0) t (from-root l t o) ∙ ap₂ (node l) (one-times t r) (zero-times t)

pub other-times : (l : ℕ) (f : Diagram) → From (suc l) f → Reduced f → apply ◌*◌ (other_test l) f ≡ node l (leaf 0) f
other-times l f o r = apply-left ◌*◌ l (leaf 0) (leaf 1) f (from-root l f o) ∙ ap₂ (node l) (zero-times f) (one-times f r)

-- their sum
pub sum_is : (l : ℕ) (t f : Diagram) → Ordered (branch l t f) → Reduced (branch l t f) → apply ◌+◌ (node l t (leaf 0)) (node l (leaf 0) f) ≡ branch l t f
unfolding eval
sum_is l t f o r =
    sym (apply-unique ◌+◌ (node l t (leaf 0)) (node l (leaf 0) f) (branch l t f) (from-node 0 l t (leaf 0) o.0 o.1 tt) (from-node 0 l (leaf 0) f o.0 tt o.2) o r means)
  where
    go : (b : Bool) (x y : ℕ) → cond b x y ≡ cond b x 0 + cond b 0 y
    go true x y = omega arith
    go false x y = omega arith

    means : (c : ℕ → Bool) → cond (c l) (eval c t) (eval c f) ≡ eval c (node l t (leaf 0)) + eval c (node l (leaf 0) f)
    means c = rw (eval-node c l t (leaf 0), eval-node c l (leaf 0) f) (go (c l) (eval c t) (eval c f))

-- values and labels stay in their ranges
pub fine-node : (ar : List ℕ) (l : ℕ) (t f : Diagram) → Fine ar (branch l t f) → Fine ar (node l t f)
fine-node ar l t f h = go (flag (same t f))
  where
    go : Flag (same t f) → Fine ar (node l t f)
    go (is_true e) = rw (node-same l t f e) h.1
    go (is_false e) = rw (node-differ l t f e) h
