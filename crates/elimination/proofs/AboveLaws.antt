-- Laws of the variables that rows leading to a row test: a row hands on to its children what it tests and what rows above it test.
use Rattle.std.specs.Prelude.{◌≡◌, ◌≢◌, Bool, true, false, not, ◌&&◌, ◌||◌, cond, List, [], ◌∷◌, ℕ, zero, suc, pred, ◌+◌, ◌≤◌, ◌<◌}
use Rattle.std.proofs.Math.Path.{refl}
use Rattle.std.proofs.Math.Bool.{and-false}
use native.Mathlib.Omega.{arith}
use Rattle.std.proofs.Math.Dec.{eqb}
use borrow.Author.Tests.{eqb-true, eqb-false, eq-eqb, ne_eqb}
use Rattle.basics.specs.Tests.{and_left, and_right, Flag, is_true, is_false, flag, Either, one, other, either, or-one, or-other}
use Rattle.basics.specs.Members.{mem, clash}
use Rattle.label.specs.Limits.{leaf_mark}
use Rattle.diagram.specs.Words.{label_at, high_at, low_at, row_count}
use Rattle.diagram.specs.Validity.{Valid}
use Rattle.diagram.specs.RowDiagrams.{branch_row}
use Rattle.diagram.specs.DiagramOfListing.{valid-rows}
use Rattle.state.proofs.LentLaws.{some-made, some-found}
use Rattle.elimination.specs.Elimination.{label_variables, has_edge, tested_within, tested_above, untested}

pub not-true : (b : Bool) → not b ≡ true → b ≡ false
not-true true e = clash e refl
not-true false e = refl

-- the two edges of a branch row
module _ (ws : List ℕ) (i : ℕ) (branch : label_at ws i ≢ leaf_mark) where
  pub edge-high : has_edge ws i (high_at ws i) ≡ true
  unfolding has_edge
  edge-high = rw (ne_eqb (label_at ws i) leaf_mark branch, eq-eqb (high_at ws i) (high_at ws i) refl)

  pub edge-low : has_edge ws i (low_at ws i) ≡ true
  unfolding has_edge
  edge-low = rw (ne_eqb (label_at ws i) leaf_mark branch) (or-other (eqb (high_at ws i) (low_at ws i)) _ (eq-eqb (low_at ws i) (low_at ws i) refl))

module _ (ar ws : List ℕ) (valid : Valid ar ws) where
  -- edges lead to earlier rows
  pub edge-down : (j i : ℕ) → j < row_count ws → has_edge ws j i ≡ true → i < j
  unfolding has_edge
  edge-down j i h e =
      let n = eqb-false _ _ (not-true (eqb (label_at ws j) leaf_mark) (and_left (not (eqb (label_at ws j) leaf_mark)) _ e)) in
      let r = branch_row ar ws (row_count ws) (valid-rows ar ws valid) j h n in
      go r.high-before r.low-before (either (eqb (high_at ws j) i) (eqb (low_at ws j) i) (and_right (not (eqb (label_at ws j) leaf_mark)) _ e))
    where
      go : high_at ws j < j → low_at ws j < j → Either (eqb (high_at ws j) i) (eqb (low_at ws j) i) → i < j
      go p q (one z) = let w = eqb-true (high_at ws j) i z in omega arith
      go p q (other z) = let w = eqb-true (low_at ws j) i z in omega arith

  -- one step: from a row with an edge, and back to it
  step-made : (m i j v : ℕ) → j < row_count ws → has_edge ws j i ≡ true
      → (mem eqb v (label_variables ar (label_at ws j)) || tested_within ar ws m j v) ≡ true → tested_within ar ws (suc m) i v ≡ true
  unfolding tested_within
  step-made m i j v h e t = some-made (row_count ws) _ j h (rw (e, t))

  step-found : (m i v : ℕ) → tested_within ar ws (suc m) i v ≡ true
      → (j : ℕ) × (j < row_count ws) × (has_edge ws j i ≡ true) × ((mem eqb v (label_variables ar (label_at ws j)) || tested_within ar ws m j v) ≡ true)
  unfolding tested_within
  step-found m i v e =
      let f = some-found (row_count ws) _ e in
      (f.0, f.1, and_left (has_edge ws f.0 i) _ f.2, and_right (has_edge ws f.0 i) _ f.2)

  within_none : (i v : ℕ) → tested_within ar ws 0 i v ≡ false
  unfolding tested_within
  within_none i v = refl

  -- as many edges as there are rows behind row i are enough
  enough : (m k i v : ℕ) → row_count ws ≤ k + i → tested_within ar ws m i v ≡ true → tested_within ar ws k i v ≡ true
  enough zero k i v h e = clash e (within_none i v)
  enough (suc m) zero i v h e =
      let f = step-found m i v e in
      let d = edge-down f.0 i f.1 f.2 in
      let l = f.1 in
      absurd (omega arith)
  enough (suc m) (suc k) i v h e =
      let f = step-found m i v e in
      let d = edge-down f.0 i f.1 f.2 in
      let l = f.1 in
      step-made k i f.0 v f.1 f.2
      (go f.0 (enough m k f.0 v (omega arith)) (either (mem eqb v (label_variables ar (label_at ws f.0))) (tested_within ar ws m f.0 v) f.3))
    where
      go : (j : ℕ) → (tested_within ar ws m j v ≡ true → tested_within ar ws k j v ≡ true)
          → Either (mem eqb v (label_variables ar (label_at ws j))) (tested_within ar ws m j v)
          → (mem eqb v (label_variables ar (label_at ws j)) || tested_within ar ws k j v) ≡ true
      go j ih (one z) = or-one _ _ z
      go j ih (other z) = or-other (mem eqb v (label_variables ar (label_at ws j))) _ (ih z)

  -- what row i tests is tested above its children
  pub tested-own : (i c v : ℕ) → i < row_count ws → has_edge ws i c ≡ true → mem eqb v (label_variables ar (label_at ws i)) ≡ true → tested_above ar ws c v ≡ true
  unfolding tested_above
  tested-own i c v h e t = enough 1 (row_count ws) c v (omega arith) (step-made 0 c i v h e (or-one _ _ t))

  -- and what is tested above it
  pub tested-on : (i c v : ℕ) → i < row_count ws → has_edge ws i c ≡ true → tested_above ar ws i v ≡ true → tested_above ar ws c v ≡ true
  unfolding tested_above
  tested-on i c v h e t =
      enough (suc (row_count ws)) (row_count ws) c v (omega arith) (step-made (row_count ws) c i v h e (or-other (mem eqb v (label_variables ar (label_at ws i))) _ t))

  -- and nothing else: some row with an edge to it tests it, or it is tested above that row
  pub tested-from : (c v : ℕ) → tested_above ar ws c v ≡ true
      → (i : ℕ) × (i < row_count ws) × (has_edge ws i c ≡ true) × ((mem eqb v (label_variables ar (label_at ws i)) || tested_above ar ws i v) ≡ true)
  unfolding tested_above
  tested-from c v e =
      let f = step-found (row_count ws) c v (enough (row_count ws) (suc (row_count ws)) c v (omega arith) e) in
      (f.0, f.1, f.2, f.3)

  -- nothing is tested above the root
  pub tested-root : (v : ℕ) → tested_above ar ws (pred (row_count ws)) v ≡ false
  tested-root v = go (flag (tested_above ar ws (pred (row_count ws)) v))
    where
      go : Flag (tested_above ar ws (pred (row_count ws)) v) → tested_above ar ws (pred (row_count ws)) v ≡ false
      go (is_true e) =
          let f = tested-from (pred (row_count ws)) v e in
          let d = edge-down f.0 (pred (row_count ws)) f.1 f.2 in
          let l = f.1 in
          absurd (omega arith)
      go (is_false e) = e

-- the names that row i aggregates: those that are not tested above it
pub mem-untested : (ar ws : List ℕ) (i t : ℕ) (vs : List ℕ) → mem eqb t (untested ar ws i vs) ≡ (mem eqb t vs && not (tested_above ar ws i t))
unfolding untested
mem-untested ar ws i t [] = refl
mem-untested ar ws i t (v ∷ vs) = go (flag (tested_above ar ws i v)) (flag (eqb t v)) (mem-untested ar ws i t vs)
  where
    go : Flag (tested_above ar ws i v) → Flag (eqb t v) → mem eqb t (untested ar ws i vs) ≡ (mem eqb t vs && not (tested_above ar ws i t))
        → mem eqb t (cond (tested_above ar ws i v) (untested ar ws i vs) (v ∷ untested ar ws i vs)) ≡ ((eqb t v || mem eqb t vs) && not (tested_above ar ws i t))
    go (is_true e) (is_true d) h = let z = eqb-true t v d in rw (e, d, h, z, e) (and-false (mem eqb v vs))
    go (is_true e) (is_false d) h = rw (e, d, h)
    go (is_false e) (is_true d) h = let z = eqb-true t v d in rw (e, d, z, e)
    go (is_false e) (is_false d) h = rw (e, d, h)
