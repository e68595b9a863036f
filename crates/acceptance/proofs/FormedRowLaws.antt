-- What a row step forms for each test of a diagram, and its leaves, are among formed_rows.
use Rattle.std.specs.Prelude.{◌≡◌, true, false, List, ◌∷◌, ◌++◌, ℕ, zero, suc, ◌<◌, ltb}
use Rattle.std.proofs.Math.Bool.{or-true}
use Rattle.std.proofs.Common.{arith, ltb-true}
use Rattle.basics.specs.Tests.{Cmp, below, equal, above, cmp, Flag, is_true, is_false, flag, or-one, or-other}
use Rattle.basics.specs.Members.{mem, Within, append-one, append-other}
use Rattle.diagram.specs.Diagram.{Diagram, leaf, branch, same}
use Rattle.diagram.specs.DiagramLaws.{same_refl}
use Rattle.apply.specs.Apply.{node}
use Rattle.regression.specs.Step.{label_test}
use Rattle.acceptance.specs.FormedRows.{three_digits, low_leaves, high_leaves, other_test, step_rows, branch_rows, formed_rows}

pub low-leaf : (v n : ℕ) → v < n → mem same (leaf v) (low_leaves n) ≡ true
unfolding low_leaves
low-leaf v zero h = absurd (omega arith)
low-leaf v (suc n) h = go (cmp v n) (low-leaf v n)
  where
    go : Cmp v n → (v < n → mem same (leaf v) (low_leaves n) ≡ true) → mem same (leaf v) (leaf n ∷ low_leaves n) ≡ true
    go (below q) ih = or-other (same (leaf v) (leaf n)) _ (ih q)
    go (equal q) ih = rw q (or-one _ _ (same_refl (leaf n)))
    go (above q) ih = absurd (omega arith)

high-leaf : (v : ℕ) → ltb v three_digits ≡ false → mem same (leaf v) (high_leaves (leaf v)) ≡ true
unfolding high_leaves
high-leaf v e = rw e (or-one _ _ (same_refl (leaf v)))

-- the rows of a row step are among all
pub record Step (all : List Diagram) (l : ℕ) (t f : Diagram) : Type 0 where
  pub test : mem same (label_test l) all ≡ true
  pub exchange : mem same (other_test l) all ≡ true
  pub left : mem same (node l t (leaf 0)) all ≡ true
  pub right : mem same (node l (leaf 0) f) all ≡ true
  pub sum : mem same (branch l t f) all ≡ true

step-rows : (all : List Diagram) (l : ℕ) (t f : Diagram) → Within same (step_rows l t f) all → Step all l t f
step-rows all l t f w = record {
  test = w (label_test l) (simp same_refl);
  exchange = w (other_test l) (simp (same_refl, or-true));
  left = w (node l t (leaf 0)) (simp (same_refl, or-true));
  right = w (node l (leaf 0) f) (simp (same_refl, or-true));
  sum = w (branch l t f) (simp (same_refl, or-true));
}

-- so for each test of d, and its leaves
abbrev pub Holds : List Diagram → Diagram → Type 0
Holds all (leaf v) = mem same (leaf v) all ≡ true
Holds all (branch l t f) = Step all l t f × Holds all t × Holds all f

holds : (all : List Diagram) (d : Diagram) → Within same (low_leaves three_digits) all → Within same (high_leaves d) all → Within same (branch_rows d) all → Holds all d
unfolding high_leaves branch_rows
holds all (leaf v) low high branches = go (flag (ltb v three_digits))
  where
    go : Flag (ltb v three_digits) → mem same (leaf v) all ≡ true
    go (is_true e) = low (leaf v) (low-leaf v three_digits (ltb-true v three_digits e))
    go (is_false e) = high (leaf v) (high-leaf v e)
holds all (branch l t f) low high branches = (
  step-rows all l t f (λ x h. branches x (append-one same x (step_rows l t f) (branch_rows t ++ branch_rows f) h)),
  holds all t low (λ x h. high x (append-one same x (high_leaves t) (high_leaves f) h))
      (λ x h. branches x (append-other same x (step_rows l t f) (branch_rows t ++ branch_rows f) (append-one same x (branch_rows t) (branch_rows f) h))),
  holds all f low (λ x h. high x (append-other same x (high_leaves t) (high_leaves f) h))
      (λ x h. branches x (append-other same x (step_rows l t f) (branch_rows t ++ branch_rows f) (append-other same x (branch_rows t) (branch_rows f) h))),
)

pub low-formed : (d : Diagram) → Within same (low_leaves three_digits) (formed_rows d)
unfolding formed_rows
low-formed d x h = append-one same x (low_leaves three_digits) (high_leaves d ++ branch_rows d) h

pub holds-formed : (d : Diagram) → Holds (formed_rows d) d
unfolding formed_rows
holds-formed d =
    holds (formed_rows d) d (low-formed d)
    (λ x h. append-other same x (low_leaves three_digits) (high_leaves d ++ branch_rows d) (append-one same x (high_leaves d) (branch_rows d) h))
    (λ x h. append-other same x (low_leaves three_digits) (high_leaves d ++ branch_rows d) (append-other same x (high_leaves d) (branch_rows d) h))
