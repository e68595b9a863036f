-- Laws of tests, of 1 - T and of the row step: meaning, order, reduction, labels, leaves.
use Rattle.std.specs.Prelude.{◌≡◌, refl, Bool, true, false, cond, ℕ, suc, ◌+◌, ◌*◌, ◌-◌, ◌≤◌}
use Rattle.std.proofs.Common.{◌∙◌, arith}
use Rattle.label.specs.declared.Test.{Test}
use Rattle.label.specs.declared.Test.TheVariants.{Always, Is}
use Rattle.diagram.specs.Diagram.{Diagram, leaf, branch, eval, From, Ordered, Reduced, EveryLabel}
use Rattle.diagram.specs.Canonicity.{choosing, eval-true, eval-false}
use Rattle.apply.specs.declared.Operation.TheVariants.{Sum, Product}
use Rattle.apply.specs.Apply.{apply}
use Rattle.apply.specs.ApplyLaws.{eval_apply, from-apply, reduced-apply}
use Rattle.apply.proofs.GoodLaws.{every-apply}
use Rattle.regression.proofs.CallLaws.{Gives, gives-bind, gives-mono, form-gives, combine-gives, Steady, steady-bind, steady-form, steady-combine}
use Rattle.regression.specs.Step.{label_test, test_diagram, exchanged, row_step}
use Rattle.regression.specs.Result.{stepped, AtMost, asked}

-- leaves and choices
pub eval-most : (b : ℕ) (c : ℕ → Bool) (d : Diagram) → AtMost b d → eval c d ≤ b
unfolding eval
eval-most b c (leaf v) h = h
eval-most b c (branch l t f) h = go (c l) (eval-most b c t h.0) (eval-most b c f h.1)
  where
    go : (x : Bool) → eval c t ≤ b → eval c f ≤ b → cond x (eval c t) (eval c f) ≤ b
    go true p q = p
    go false p q = q

-- in an ordered diagram every leaf is reached
pub most-eval : (b n : ℕ) (d : Diagram) → From n d → ((c : ℕ → Bool) → eval c d ≤ b) → AtMost b d
unfolding eval
most-eval b n (leaf v) o h = h (λ l. true)
most-eval b n (branch l t f) o h = (
  most-eval b (suc l) t o.1 (λ c. rw (← eval-true c l t f o.1) (h (choosing c l true))),
  most-eval b (suc l) f o.2 (λ c. rw (← eval-false c l t f o.2) (h (choosing c l false))),
)

-- tests
pub eval-test : (c : ℕ → Bool) (x : Test) → eval c (test_diagram x) ≡ cond (asked c x) 1 0
unfolding eval test_diagram
eval-test c Always = refl
eval-test c (Is l) = refl

pub ordered-test : (x : Test) → Ordered (test_diagram x)
unfolding test_diagram
ordered-test Always = tt
ordered-test (Is l) = (omega arith, tt, tt)

pub most-test : (x : Test) → AtMost 1 (test_diagram x)
unfolding test_diagram
most-test Always = omega arith
most-test (Is l) = (omega arith, omega arith)

pub every-test : (P : ℕ → Type 0) (x : Test) → ((k : ℕ) → test_diagram x ≡ label_test k → P k) → EveryLabel P (test_diagram x)
unfolding test_diagram
every-test P Always h = tt
every-test P (Is l) h = (h l.packed refl, tt, tt)

-- 1 - T
pub eval-exchanged : (c : ℕ → Bool) (d : Diagram) → eval c (exchanged d) ≡ 1 - eval c d
unfolding eval exchanged
eval-exchanged c (leaf v) = refl
eval-exchanged c (branch l t f) = rw (eval-exchanged c t, eval-exchanged c f) (go (c l))
  where
    go : (b : Bool) → cond b (1 - eval c t) (1 - eval c f) ≡ 1 - cond b (eval c t) (eval c f)
    go true = refl
    go false = refl

pub from-exchanged : (n : ℕ) (d : Diagram) → From n d → From n (exchanged d)
unfolding exchanged
from-exchanged n (leaf v) o = tt
from-exchanged n (branch l t f) o = (o.0, from-exchanged (suc l) t o.1, from-exchanged (suc l) f o.2)

pub every-exchanged : (P : ℕ → Type 0) (d : Diagram) → EveryLabel P d → EveryLabel P (exchanged d)
unfolding exchanged
every-exchanged P (leaf v) h = tt
every-exchanged P (branch l t f) h = (h.0, every-exchanged P t h.1, every-exchanged P f h.2)

pub most-exchanged : (d : Diagram) → AtMost 1 (exchanged d)
unfolding exchanged
most-exchanged (leaf v) = omega arith
most-exchanged (branch l t f) = (most-exchanged t, most-exchanged f)

-- the row step
pub step_gives : (T t f : Diagram) → Gives (λ x. x ≡ stepped T t f) (row_step T t f)
unfolding row_step stepped
step_gives T t f =
    gives-bind _ _ (form-gives T) (λ x hx.
    gives-bind _ _ (form-gives (exchanged x)) (λ y hy.
    gives-bind _ _ (combine-gives Product x t) (λ p hp.
    gives-bind _ _ (combine-gives Product y f) (λ q hq.
    gives-mono (combine-gives Sum p q) (λ r hr. hr ∙ rw (hp, hq, hy, hx) refl)))))

pub steady-step : (T t f : Diagram) → Steady (row_step T t f)
unfolding row_step
steady-step T t f =
    steady-bind _ _ (steady-form T) (λ x.
    steady-bind _ _ (steady-form (exchanged x)) (λ y.
    steady-bind _ _ (steady-combine Product x t) (λ p.
    steady-bind _ _ (steady-combine Product y f) (λ q.
    steady-combine Sum p q))))

step-number : (b : Bool) (d x y : ℕ) → d ≡ cond b 1 0 → d * x + (1 - d) * y ≡ cond b x y
step-number true d x y e = rw e (omega arith)
step-number false d x y e = rw e (omega arith)

pub eval-stepped : (c : ℕ → Bool) (T t f : Diagram) (b : Bool) → eval c T ≡ cond b 1 0 → eval c (stepped T t f) ≡ cond b (eval c t) (eval c f)
unfolding stepped
eval-stepped c T t f b e =
    rw (eval_apply ◌+◌ c (apply ◌*◌ T t) (apply ◌*◌ (exchanged T) f), eval_apply ◌*◌ c T t, eval_apply ◌*◌ c (exchanged T) f, eval-exchanged c T)
    (step-number b (eval c T) (eval c t) (eval c f) e)

pub from-stepped : (n : ℕ) (T t f : Diagram) → From n T → From n t → From n f → From n (stepped T t f)
unfolding stepped
from-stepped n T t f o p q =
    from-apply ◌+◌ n (apply ◌*◌ T t) (apply ◌*◌ (exchanged T) f) (from-apply ◌*◌ n T t o p) (from-apply ◌*◌ n (exchanged T) f (from-exchanged n T o) q)

pub reduced-stepped : (T t f : Diagram) → Reduced (stepped T t f)
unfolding stepped
reduced-stepped T t f = reduced-apply ◌+◌ (apply ◌*◌ T t) (apply ◌*◌ (exchanged T) f)

pub every-stepped : (P : ℕ → Type 0) (T t f : Diagram) → EveryLabel P T → EveryLabel P t → EveryLabel P f → EveryLabel P (stepped T t f)
unfolding stepped
every-stepped P T t f x y z =
    every-apply ◌+◌ P (apply ◌*◌ T t) (apply ◌*◌ (exchanged T) f) (every-apply ◌*◌ P T t x y) (every-apply ◌*◌ P (exchanged T) f (every-exchanged P T x) z)
