-- What is left of a leaf, and of a branch; and every test that the words agree with leaves the same.
use Rattle.std.specs.Prelude.{◌≡◌, refl, Bool, true, false, List, get_or, eqb}
use Rattle.std.proofs.Common.{sym, ap, ap₂, ◌∙◌, arith}
use Rattle.std.proofs.Math.Bool.{cond}
use Prim.Native.Nat.{ℕ, zero, suc, ◌≤◌, ◌<◌}
use borrow.Author.Tests.{eqb-true, eqb-false, eq-eqb, ne_eqb}
use Rattle.basics.specs.Tests.{Flag, is_true, is_false, flag, Cmp, cmp, below, equal, above}
use Rattle.label.specs.Limits.{leaf_mark}
use Rattle.diagram.specs.Diagram.{Diagram, leaf, branch, same}
use Rattle.diagram.specs.Words.{label_at, high_at, low_at, row_count}
use Rattle.diagram.specs.Validity.{tree}
use Rattle.diagram.specs.Shown.{Shown, same-eqb}
use Rattle.apply.specs.Apply.{node}
use Rattle.paths.specs.Inner.{bit}
use Rattle.cutting.specs.Cut.{reduced}
use Rattle.reduction.specs.Reduction.{keeping}
use Rattle.pruning.specs.Pruning.{kept_of, Agrees, edge_at, stays, stays_below, stays_in}

pub kept-leaf : (test : Diagram → Bool → Bool) (v : ℕ) → kept_of test (leaf v) ≡ leaf v
unfolding kept_of reduced keeping
kept-leaf test v = refl

reduced-pick : (c : Bool) (x : Diagram) → reduced (cond c x (leaf 0)) ≡ cond c (reduced x) (leaf 0)
unfolding reduced
reduced-pick true x = refl
reduced-pick false x = refl

kept-branch : (test : Diagram → Bool → Bool) (l : ℕ) (t f : Diagram)
    → kept_of test (branch l t f)
    ≡ node l (cond (test (branch l t f) true) (kept_of test t) (leaf 0)) (cond (test (branch l t f) false) (kept_of test f) (leaf 0))
unfolding kept_of reduced keeping
kept-branch test l t f = rw (reduced-pick (test (branch l t f) true) (keeping test t), reduced-pick (test (branch l t f) false) (keeping test f))

module _ (ws edges : List ℕ) (shown : Shown ws (row_count ws) (tree ws)) where
  -- different rows stand for different diagrams
  stays-below : (n i : ℕ) (b : Bool) → n ≤ row_count ws → i < n → stays_below ws edges n (tree ws i) b ≡ stays edges i b
  unfolding stays_below
  stays-below zero i b h l = absurd (omega arith)
  stays-below (suc n) i b h l = go (cmp i n) (stays-below n i b)
    where
      go : Cmp i n → (n ≤ row_count ws → i < n → stays_below ws edges n (tree ws i) b ≡ stays edges i b)
          → cond (same (tree ws n) (tree ws i)) (stays edges n b) (stays_below ws edges n (tree ws i) b) ≡ stays edges i b
      go (below q) ih = rw (same-eqb ws (row_count ws) (tree ws) shown n i (omega arith) (omega arith), ne_eqb n i (λ z. omega arith)) (ih (omega arith) q)
      go (equal q) ih = rw (same-eqb ws (row_count ws) (tree ws) shown n i (omega arith) (omega arith), eq-eqb n i (sym q), q)
      go (above q) ih = absurd (omega arith)

  pub stays-is : (i : ℕ) (b : Bool) → i < row_count ws → stays_in ws edges (tree ws i) b ≡ stays edges i b
  stays-is i b h = stays-below (row_count ws) i b (omega arith) h

  -- what is left of a branch row
  pub kept_row : (test : Diagram → Bool → Bool) (i : ℕ) → i < row_count ws → (label_at ws i ≡ leaf_mark → ⊥)
      → kept_of test (tree ws i)
      ≡ node (label_at ws i) (cond (test (tree ws i) true) (kept_of test (tree ws (high_at ws i))) (leaf 0)) (cond (test (tree ws i) false) (kept_of test (tree ws (low_at ws i))) (leaf 0))
  kept_row test i h e =
      let z = shown.branches i h e in
      ap (kept_of test) z ∙ kept-branch test (label_at ws i) (tree ws (high_at ws i)) (tree ws (low_at ws i))
      ∙ ap (λ (x : Diagram). node (label_at ws i) (cond (test x true) (kept_of test (tree ws (high_at ws i))) (leaf 0)) (cond (test x false) (kept_of test (tree ws (low_at ws i))) (leaf 0))) (sym z)

  module _ {test : Diagram → Bool → Bool} (a : Agrees ws edges test) where
    test-is : (i : ℕ) (b : Bool) → i < row_count ws → (label_at ws i ≡ leaf_mark → ⊥) → test (tree ws i) b ≡ stays_in ws edges (tree ws i) b
    test-is i b h e = go (test (tree ws i) b) (a.each i h e b) ∙ sym (stays-is i b h)
      where
        go : (c : Bool) → get_or edges (edge_at i b) 0 ≡ bit c → c ≡ stays edges i b
        go true q = rw q
        go false q = rw q

    kept-below : (n i : ℕ) → i < n → i < row_count ws → kept_of test (tree ws i) ≡ kept_of (stays_in ws edges) (tree ws i)
    kept-below zero i l h = absurd (omega arith)
    kept-below (suc n) i l h = go (flag (eqb (label_at ws i) leaf_mark)) (kept-below n)
      where
        go : Flag (eqb (label_at ws i) leaf_mark) → ((k : ℕ) → k < n → k < row_count ws → kept_of test (tree ws k) ≡ kept_of (stays_in ws edges) (tree ws k))
            → kept_of test (tree ws i) ≡ kept_of (stays_in ws edges) (tree ws i)
        go (is_true q) ih =
            let z = shown.leaves i h (eqb-true _ _ q) in
            ap (kept_of test) z ∙ kept-leaf test (high_at ws i) ∙ sym (ap (kept_of (stays_in ws edges)) z ∙ kept-leaf (stays_in ws edges) (high_at ws i))
        go (is_false q) ih =
            let e = eqb-false _ _ q in
            let k = shown.kids i h e in
            kept_row test i h e
            ∙ ap₂ (node (label_at ws i))
            (ap₂ (λ (c : Bool) (x : Diagram). cond c x (leaf 0)) (test-is i true h e) (ih (high_at ws i) (omega (arith, k.0)) (omega (arith, k.0))))
            (ap₂ (λ (c : Bool) (x : Diagram). cond c x (leaf 0)) (test-is i false h e) (ih (low_at ws i) (omega (arith, k.1)) (omega (arith, k.1))))
            ∙ sym (kept_row (stays_in ws edges) i h e)

    pub kept-agrees : (i : ℕ) → i < row_count ws → kept_of test (tree ws i) ≡ kept_of (stays_in ws edges) (tree ws i)
    kept-agrees i h = kept-below (suc i) i (omega arith) h
