-- A term occurs in a listing's diagram exactly if it stands in one of the rows, and the set marks of each kind of variable are as many as the variables of that kind.
use Rattle.std.specs.Prelude.{◌≡◌, ◌≢◌, Bool, ◌||◌}
use Rattle.std.proofs.Math.Path.{refl, ap}
use Rattle.std.proofs.Common.{sym, ◌∙◌, eqb-true, eq-eqb, ne_eqb}
use Rattle.std.proofs.Math.Bool.{true, false, cond}
use mathlib.Core.List.{List, [], ◌∷◌}
use Prim.Native.Nat.{ℕ, zero, suc, pred, ◌+◌, ◌≤◌, ◌<◌}
use native.Mathlib.Omega.{arith}
use Rattle.std.proofs.Math.ListN.{length}
use Rattle.std.proofs.Math.Dec.{eqb}
use Rattle.std.proofs.lemmas.Bool.{eqb-false}
use Rattle.basics.specs.Tests.{Flag, is_true, is_false, flag, Cmp, cmp, below, equal, above, Either, one, other, either, or-one, or-other}
use Rattle.basics.specs.Members.{mem, mem-append, clash}
use Rattle.label.specs.Limits.{leaf_mark, term_end, first_variable, variable_count, first_minimum, minimum_count}
use Rattle.label.specs.Labels.{terms_of, unpacked}
use Rattle.diagram.specs.Diagram.{Diagram, leaf, branch, same}
use Rattle.diagram.specs.DiagramLaws.{same-eq, onto-old, onto-leaf, onto-branch}
use Rattle.diagram.specs.Rows.{onto, rows}
use Rattle.diagram.specs.Words.{label_at, high_at, low_at, row_count, up_to}
use Rattle.diagram.specs.WordLaws.{below-up_to, mem-up_to}
use Rattle.diagram.specs.Listing.{diagram_of}
use Rattle.diagram.specs.Validity.{Valid, tree}
use Rattle.diagram.specs.Variables.{occurs, occurring, variables, minimums, is_plain}
use Rattle.diagram.specs.Shown.{Shown, mem-tree}
use Rattle.diagram.specs.DiagramOfListing.{shown-rows, diagram-is, rows_are}
use Rattle.listing.specs.Used.{row_terms, mentioned, Used, set_from, marked_variables, marked_minimums}

-- two tests that imply each other are equal
same_tests : (a b : Bool) → (a ≡ true → b ≡ true) → (b ≡ true → a ≡ true) → a ≡ b
same_tests true b f g = sym (f refl)
same_tests false true f g = g refl
same_tests false false f g = refl

-- the laws of `occurs`, `row_terms` and `mentioned`: nothing else unfolds them
module _ (ar : List ℕ) (t : ℕ) where
  pub occurs-leaf : (v : ℕ) → occurs ar t (leaf v) ≡ false
  unfolding occurs
  occurs-leaf v = refl

  pub occurs-branch : (l : ℕ) (x y : Diagram) → occurs ar t (branch l x y) ≡ (mem eqb t (terms_of ar (unpacked l)) || (occurs ar t x || occurs ar t y))
  unfolding occurs
  occurs-branch l x y = refl

module _ (ar ws : List ℕ) (i : ℕ) where
  pub terms-leaf : label_at ws i ≡ leaf_mark → row_terms ar ws i ≡ []
  unfolding row_terms
  terms-leaf e = rw (eq-eqb (label_at ws i) leaf_mark e)

  pub terms-branch : label_at ws i ≢ leaf_mark → row_terms ar ws i ≡ terms_of ar (unpacked (label_at ws i))
  unfolding row_terms
  terms-branch e = rw (ne_eqb (label_at ws i) leaf_mark e)

pub mentioned-none : (ar ws : List ℕ) (t : ℕ) → mentioned ar ws 0 t ≡ false
unfolding mentioned
mentioned-none ar ws t = refl

pub mentioned-more : (ar ws : List ℕ) (n t : ℕ) → mentioned ar ws (suc n) t ≡ (mentioned ar ws n t || mem eqb t (row_terms ar ws n))
unfolding mentioned
mentioned-more ar ws n t = refl

pub row-mentioned : (ar ws : List ℕ) (t k n : ℕ) → k < n → mem eqb t (row_terms ar ws k) ≡ true → mentioned ar ws n t ≡ true
row-mentioned ar ws t k zero h e = absurd (omega arith)
row-mentioned ar ws t k (suc n) h e = rw (mentioned-more ar ws n t) (go (cmp k n) (row-mentioned ar ws t k n))
  where
    go : Cmp k n → (k < n → mem eqb t (row_terms ar ws k) ≡ true → mentioned ar ws n t ≡ true) → (mentioned ar ws n t || mem eqb t (row_terms ar ws n)) ≡ true
    go (below q) ih = or-one _ _ (ih q e)
    go (equal q) ih = or-other (mentioned ar ws n t) _ (rw (← q) e)
    go (above q) ih = absurd (omega arith)

-- a part of a diagram: what occurs in it occurs in the diagram
module _ (ar : List ℕ) (t : ℕ) (x : Diagram) (o : occurs ar t x ≡ true) where
  itself : (d : Diagram) (b : Bool) → (same x d || false) ≡ true → (b || occurs ar t d) ≡ true
  itself d b e = go (either (same x d) false e)
    where
      go : Either (same x d) false → (b || occurs ar t d) ≡ true
      go (one q) = or-other b _ (rw (← same-eq x d q) o)
      go (other q) = clash q refl

  pub part-occurs : (d : Diagram) (rs : List Diagram) → mem same x (onto d rs) ≡ true → (mem same x rs || occurs ar t d) ≡ true
  part-occurs (leaf v) rs e = go (flag (mem same (leaf v) rs))
    where
      go : Flag (mem same (leaf v) rs) → (mem same x rs || occurs ar t (leaf v)) ≡ true
      go (is_true q) = or-one _ _ (rw (onto-old (leaf v) rs q) at e)
      go (is_false q) = last (either (mem same x rs) _ (rw (onto-leaf v rs q, mem-append same x rs (leaf v ∷ [])) at e))
        where
          last : Either (mem same x rs) (same x (leaf v) || false) → (mem same x rs || occurs ar t (leaf v)) ≡ true
          last (one p) = or-one _ _ p
          last (other p) = itself (leaf v) (mem same x rs) p
  part-occurs (branch l y z) rs e = go (flag (mem same (branch l y z) rs)) (part-occurs y rs) (part-occurs z (onto y rs))
    where
      go : Flag (mem same (branch l y z) rs)
          → (mem same x (onto y rs) ≡ true → (mem same x rs || occurs ar t y) ≡ true)
          → (mem same x (onto z (onto y rs)) ≡ true → (mem same x (onto y rs) || occurs ar t z) ≡ true)
          → (mem same x rs || occurs ar t (branch l y z)) ≡ true
      go (is_true q) f g = or-one _ _ (rw (onto-old (branch l y z) rs q) at e)
      go (is_false q) f g = last (either (mem same x (onto z (onto y rs))) _ (rw (onto-branch l y z rs q, mem-append same x (onto z (onto y rs)) (branch l y z ∷ [])) at e))
        where
          high : Either (mem same x rs) (occurs ar t y) → (mem same x rs || occurs ar t (branch l y z)) ≡ true
          high (one p) = or-one _ _ p
          high (other p) = or-other (mem same x rs) _ (rw (occurs-branch ar t l y z) (or-other (mem eqb t (terms_of ar (unpacked l))) _ (or-one _ _ p)))

          low : Either (mem same x (onto y rs)) (occurs ar t z) → (mem same x rs || occurs ar t (branch l y z)) ≡ true
          low (one p) = high (either (mem same x rs) _ (f p))
          low (other p) = or-other (mem same x rs) _ (rw (occurs-branch ar t l y z) (or-other (mem eqb t (terms_of ar (unpacked l))) _ (or-other (occurs ar t y) _ p)))

          last : Either (mem same x (onto z (onto y rs))) (same x (branch l y z) || false) → (mem same x rs || occurs ar t (branch l y z)) ≡ true
          last (one p) = low (either (mem same x (onto y rs)) _ (g p))
          last (other p) = itself (branch l y z) (mem same x rs) p

module _ (ar ws : List ℕ) (v : Valid ar ws) (t : ℕ) where
  -- every row is a part of the diagram
  row-part : (k : ℕ) → k < row_count ws → occurs ar t (tree ws k) ≡ true → occurs ar t (diagram_of ws) ≡ true
  unfolding rows
  row-part k h o =
      let m : mem same (tree ws k) (rows (diagram_of ws)) ≡ true
      = rw (rows_are ar ws v) (mem-tree ws (row_count ws) (tree ws) (shown-rows ar ws v) k (up_to (row_count ws)) h (below-up_to (row_count ws) (row_count ws) (omega arith))
      ∙ mem-up_to k (row_count ws) h) in
      part-occurs ar t (tree ws k) o (diagram_of ws) [] m

  row-occurs : (k : ℕ) → k < row_count ws → mem eqb t (row_terms ar ws k) ≡ true → occurs ar t (tree ws k) ≡ true
  row-occurs k h e = go (flag (eqb (label_at ws k) leaf_mark))
    where
      go : Flag (eqb (label_at ws k) leaf_mark) → occurs ar t (tree ws k) ≡ true
      go (is_true q) = clash e (rw (terms-leaf ar ws k (eqb-true _ _ q)))
      go (is_false q) =
          let q' = eqb-false _ _ q in
          rw ((shown-rows ar ws v).branches k h q', occurs-branch ar t (label_at ws k) (tree ws (high_at ws k)) (tree ws (low_at ws k)))
          (or-one (mem eqb t (terms_of ar (unpacked (label_at ws k)))) _ (rw (← terms-branch ar ws k q') e))

  some-row : (n : ℕ) → n ≤ row_count ws → mentioned ar ws n t ≡ true → occurs ar t (diagram_of ws) ≡ true
  some-row zero h e = clash e (mentioned-none ar ws t)
  some-row (suc n) h e = go (either (mentioned ar ws n t) _ (rw (mentioned-more ar ws n t) at e)) (some-row n (omega arith))
    where
      go : Either (mentioned ar ws n t) (mem eqb t (row_terms ar ws n)) → (mentioned ar ws n t ≡ true → occurs ar t (diagram_of ws) ≡ true)
          → occurs ar t (diagram_of ws) ≡ true
      go (one p) ih = ih p
      go (other p) ih = row-part n (omega arith) (row-occurs n (omega arith) p)

  -- what occurs in a row's diagram is in a row
  abbrev Under : ℕ → Type 0
  Under c = (k : ℕ) → k < c → k < row_count ws → occurs ar t (tree ws k) ≡ true → mentioned ar ws (row_count ws) t ≡ true

  under-step : (c : ℕ) → Under c → Under (suc c)
  under-step c ih k l h o = go (flag (eqb (label_at ws k) leaf_mark))
    where
      s : Shown ws (row_count ws) (tree ws)
      s = shown-rows ar ws v

      go : Flag (eqb (label_at ws k) leaf_mark) → mentioned ar ws (row_count ws) t ≡ true
      go (is_true q) = clash o (rw (s.leaves k h (eqb-true _ _ q)) (occurs-leaf ar t (high_at ws k)))
      go (is_false q) = first (either (mem eqb t (terms_of ar (unpacked (label_at ws k)))) _
          (rw (s.branches k h (eqb-false _ _ q), occurs-branch ar t (label_at ws k) (tree ws (high_at ws k)) (tree ws (low_at ws k))) at o))
        where
          kids : (high_at ws k < k) × (low_at ws k < k)
          kids = s.kids k h (eqb-false _ _ q)

          next : Either (occurs ar t (tree ws (high_at ws k))) (occurs ar t (tree ws (low_at ws k))) → mentioned ar ws (row_count ws) t ≡ true
          next (one p) = let z = kids in ih (high_at ws k) (omega arith) (omega arith) p
          next (other p) = let z = kids in ih (low_at ws k) (omega arith) (omega arith) p

          first : Either (mem eqb t (terms_of ar (unpacked (label_at ws k)))) (occurs ar t (tree ws (high_at ws k)) || occurs ar t (tree ws (low_at ws k)))
              → mentioned ar ws (row_count ws) t ≡ true
          first (one p) = row-mentioned ar ws t k (row_count ws) h (rw (terms-branch ar ws k (eqb-false _ _ q)) p)
          first (other p) = next (either (occurs ar t (tree ws (high_at ws k))) _ p)

  under : (c : ℕ) → Under c
  under zero k l h o = absurd (omega arith)
  under (suc c) k l h o = under-step c (under c) k l h o

  -- the terms of the rows are those of the diagram
  pub mentioned-occurs : mentioned ar ws (row_count ws) t ≡ occurs ar t (diagram_of ws)
  mentioned-occurs =
      let h = v.some in
      same_tests _ _ (some-row (row_count ws) (omega arith))
      (λ o. under (row_count ws) (pred (row_count ws)) (omega arith) (omega arith) (rw (diagram-is ar ws v) at o))

-- as many marks are set as terms occur
module _ (ar : List ℕ) (d : Diagram) (ms : List ℕ) (u : Used ar d ms) where
  pub set-occurring : (t n : ℕ) → t + n ≤ term_end → set_from ms t n ≡ length (occurring ar d t n)
  unfolding set_from occurring
  set-occurring t zero h = refl
  set-occurring t (suc n) h = rw (u.each t (omega arith), set-occurring (suc t) n (omega arith)) (go (occurs ar t d))
    where
      go : (b : Bool) → cond (eqb (cond b 1 0) 0) 0 1 + length (occurring ar d (suc t) n) ≡ length (cond b (t ∷ occurring ar d (suc t) n) (occurring ar d (suc t) n))
      go true = omega arith
      go false = omega arith

  pub marked-variables : marked_variables ms ≡ length (variables ar d)
  unfolding marked_variables variables
  marked-variables = set-occurring first_variable variable_count (omega arith)

  pub marked-minimums : marked_minimums ms ≡ length (minimums ar d)
  unfolding marked_minimums minimums
  marked-minimums = set-occurring first_minimum minimum_count (omega arith)

  -- none of them: the diagram has no minimum variable
  pub marked-plain : eqb (marked_minimums ms) 0 ≡ is_plain ar d
  unfolding is_plain
  marked-plain = ap (λ (n : ℕ). eqb n 0) marked-minimums
