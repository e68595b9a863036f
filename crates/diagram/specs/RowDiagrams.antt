-- The diagrams of valid rows: each row stands for one, different rows for different ones, ordered, reduced and within the ranges.
use Rattle.std.specs.Prelude.{◌≡◌, ◌≢◌, true, List, ℕ, zero, suc, ◌<◌, eqb}
use Rattle.std.proofs.Common.{ap₂, sym, ◌∙◌, arith, eqb-true}
use Rattle.std.proofs.lemmas.Bool.{eqb-false}
use Rattle.basics.specs.Tests.{Flag, is_true, is_false, flag, Cmp, cmp, below, equal, above}
use Rattle.label.specs.Limits.{leaf_mark}
use Rattle.label.specs.Labels.{is_label}
use Rattle.label.proofs.LabelLaws.{label-below}
use Rattle.diagram.specs.Diagram.{leaf, branch, From, Reduced}
use Rattle.diagram.specs.Words.{label_at, high_at, low_at}
use Rattle.diagram.specs.Listing.{tree_at, Fine}
use Rattle.diagram.specs.Validity.{LeafRow, BranchRow, ValidRow, a-leaf, a-branch, ValidRows, tree}
use Rattle.diagram.specs.DiagramLaws.{from-weaken}
use Rattle.diagram.specs.WordLaws.{rows-differ}
use Rattle.diagram.specs.ListingLaws.{tree-leaf, tree-branch}
use Rattle.diagram.specs.Shown.{Shown}

-- no label is a leaf's mark
pub not-mark : (ar : List ℕ) (l : ℕ) → is_label ar l ≡ true → l ≢ leaf_mark
not-mark ar l e p = let h = label-below ar l e in omega arith

module _ (ar ws : List ℕ) (m : ℕ) (v : ValidRows ar ws m) where
  pub leaf-row : (k : ℕ) → k < m → label_at ws k ≡ leaf_mark → LeafRow ws k
  leaf-row k h e = go (v.each k h)
    where
      go : ValidRow ar ws k → LeafRow ws k
      go (a-leaf r) = r
      go (a-branch r) = absurd (not-mark ar (label_at ws k) r.label e)

  pub branch_row : (k : ℕ) → k < m → label_at ws k ≢ leaf_mark → BranchRow ar ws k
  branch_row k h e = go (v.each k h)
    where
      go : ValidRow ar ws k → BranchRow ar ws k
      go (a-leaf r) = absurd (e r.mark)
      go (a-branch r) = r

  -- more depth than the row's number changes nothing
  abbrev Deep : ℕ → ℕ → Type 0
  Deep a b = (k : ℕ) → k < a → k < b → k < m → tree_at ws a k ≡ tree_at ws b k

  deep_step : (a b : ℕ) → Deep a b → Deep (suc a) (suc b)
  deep_step a b ih k h p q = go (flag (eqb (label_at ws k) leaf_mark))
    where
      go : Flag (eqb (label_at ws k) leaf_mark) → tree_at ws (suc a) k ≡ tree_at ws (suc b) k
      go (is_true e) = let e' = eqb-true _ _ e in tree-leaf ws a k e' ∙ sym (tree-leaf ws b k e')
      go (is_false e) =
          let e' = eqb-false _ _ e in
          let r = branch_row k q e' in
          tree-branch ws a k e'
          ∙ ap₂ (branch (label_at ws k)) (ih (high_at ws k) (omega arith) (omega arith) (omega arith)) (ih (low_at ws k) (omega arith) (omega arith) (omega arith))
          ∙ sym (tree-branch ws b k e')

  deep : (a b : ℕ) → Deep a b
  deep zero b k h p q = absurd (omega arith)
  deep (suc a) zero k h p q = absurd (omega arith)
  deep (suc a) (suc b) k h p q = deep_step a b (deep a b) k h p q

  leaves : (k : ℕ) → k < m → label_at ws k ≡ leaf_mark → tree ws k ≡ leaf (high_at ws k)
  leaves k h e = tree-leaf ws k k e

  branches : (k : ℕ) → k < m → label_at ws k ≢ leaf_mark → tree ws k ≡ branch (label_at ws k) (tree ws (high_at ws k)) (tree ws (low_at ws k))
  branches k h e =
      let r = branch_row k h e in
      tree-branch ws k k e
      ∙ ap₂ (branch (label_at ws k)) (deep k (suc (high_at ws k)) (high_at ws k) (omega arith) (omega arith) (omega arith))
      (deep k (suc (low_at ws k)) (low_at ws k) (omega arith) (omega arith) (omega arith))

  -- no two rows are equal, by their words
  single : (a b : ℕ) → a < m → b < m → label_at ws a ≡ label_at ws b → high_at ws a ≡ high_at ws b → low_at ws a ≡ low_at ws b → a ≡ b
  single a b h k p q r = go (cmp a b)
    where
      go : Cmp a b → a ≡ b
      go (below x) = absurd (rows-differ ws a b (v.apart b a k x) p q r)
      go (equal x) = x
      go (above x) = absurd (rows-differ ws b a (v.apart a b h x) (sym p) (sym q) (sym r))

  -- different rows stand for different diagrams
  abbrev Inj : ℕ → Type 0
  Inj c = (a b : ℕ) → a < c → a < m → b < m → tree ws a ≡ tree ws b → a ≡ b

  inj-step : (c : ℕ) → Inj c → Inj (suc c)
  inj-step c ih a b l h k e = go (flag (eqb (label_at ws a) leaf_mark)) (flag (eqb (label_at ws b) leaf_mark))
    where
      go : Flag (eqb (label_at ws a) leaf_mark) → Flag (eqb (label_at ws b) leaf_mark) → a ≡ b
      go (is_true p) (is_true q) =
          let p' = eqb-true _ _ p in
          let q' = eqb-true _ _ q in
          let w : leaf (high_at ws a) ≡ leaf (high_at ws b) = sym (leaves a h p') ∙ e ∙ leaves b k q' in
          single a b h k (p' ∙ sym q') (cc) ((leaf-row a h p').third ∙ sym (leaf-row b k q').third)
      go (is_true p) (is_false q) =
          let w : leaf (high_at ws a) ≡ branch (label_at ws b) (tree ws (high_at ws b)) (tree ws (low_at ws b))
          = sym (leaves a h (eqb-true _ _ p)) ∙ e ∙ branches b k (eqb-false _ _ q) in
          cc
      go (is_false p) (is_true q) =
          let w : branch (label_at ws a) (tree ws (high_at ws a)) (tree ws (low_at ws a)) ≡ leaf (high_at ws b)
          = sym (branches a h (eqb-false _ _ p)) ∙ e ∙ leaves b k (eqb-true _ _ q) in
          cc
      go (is_false p) (is_false q) =
          let p' = eqb-false _ _ p in
          let q' = eqb-false _ _ q in
          let r = branch_row a h p' in
          let s = branch_row b k q' in
          let w : branch (label_at ws a) (tree ws (high_at ws a)) (tree ws (low_at ws a)) ≡ branch (label_at ws b) (tree ws (high_at ws b)) (tree ws (low_at ws b))
          = sym (branches a h p') ∙ e ∙ branches b k q' in
          let x : tree ws (high_at ws a) ≡ tree ws (high_at ws b) = cc in
          let y : tree ws (low_at ws a) ≡ tree ws (low_at ws b) = cc in
          single a b h k (cc) (ih (high_at ws a) (high_at ws b) (omega arith) (omega arith) (omega arith) x)
          (ih (low_at ws a) (low_at ws b) (omega arith) (omega arith) (omega arith) y)

  inj : (c : ℕ) → Inj c
  inj zero a b l h k e = absurd (omega arith)
  inj (suc c) a b l h k e = inj-step c (inj c) a b l h k e

  pub shown : Shown ws m (tree ws)
  shown = record {
    leaves = leaves;
    branches = branches;
    kids = λ k h e. ((branch_row k h e).high-before, (branch_row k h e).low-before);
    inj = λ a b h k e. inj (suc a) a b (omega arith) h k e;
  }

  -- order, reduction and ranges
  record Sound (k : ℕ) : Type 0 where
    from : From (label_at ws k) (tree ws k)
    less : Reduced (tree ws k)
    fits : Fine ar (tree ws k)

  abbrev Sounds : ℕ → Type 0
  Sounds c = (k : ℕ) → k < c → k < m → Sound k

  sound-step : (c : ℕ) → Sounds c → Sounds (suc c)
  sound-step c ih k l h = go (flag (eqb (label_at ws k) leaf_mark))
    where
      go : Flag (eqb (label_at ws k) leaf_mark) → Sound k
      go (is_true p) =
          let p' = eqb-true _ _ p in
          let z = leaves k h p' in
          record { from = rw z tt; less = rw z tt; fits = rw z (leaf-row k h p').value }
      go (is_false p) =
          let p' = eqb-false _ _ p in
          let z = branches k h p' in
          let r = branch_row k h p' in
          let x = ih (high_at ws k) (omega arith) (omega arith) in
          let y = ih (low_at ws k) (omega arith) (omega arith) in
          record {
            from = rw z (
              omega arith,
              from-weaken (suc (label_at ws k)) (label_at ws (high_at ws k)) (tree ws (high_at ws k)) (omega arith) x.from,
              from-weaken (suc (label_at ws k)) (label_at ws (low_at ws k)) (tree ws (low_at ws k)) (omega arith) y.from,
            );
            less = rw z ((λ q. r.differ (shown.inj _ _ (omega arith) (omega arith) q)), x.less, y.less);
            fits = rw z (r.label, x.fits, y.fits);
          }

  sounds : (c : ℕ) → Sounds c
  sounds zero k l h = absurd (omega arith)
  sounds (suc c) k l h = sound-step c (sounds c) k l h

  pub tree-from : (k : ℕ) → k < m → From (label_at ws k) (tree ws k)
  tree-from k h = (sounds (suc k) k (omega arith) h).from

  pub tree-reduced : (k : ℕ) → k < m → Reduced (tree ws k)
  tree-reduced k h = (sounds (suc k) k (omega arith) h).less

  pub tree-fine : (k : ℕ) → k < m → Fine ar (tree ws k)
  tree-fine k h = (sounds (suc k) k (omega arith) h).fits
