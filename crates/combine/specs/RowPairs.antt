-- The walk over pairs of rows is the walk over pairs of diagrams.
use Rattle.std.specs.Prelude.{◌≡◌, ◌≢◌, true, false, ℕ, zero, suc, ◌+◌, ◌≤◌, ◌<◌, eqb, ltb}
use Rattle.std.proofs.Math.Path.{refl}
use Rattle.std.proofs.Common.{ap, ap₂, sym, ◌∙◌, arith, eqb-true, le-leb}
use mathlib.Core.List.{List, [], ◌∷◌, ◌++◌, map}
use Rattle.std.proofs.lemmas.Bool.{eqb-false, lt-leb}
use Rattle.basics.specs.Tests.{Flag, is_true, is_false, flag, Cmp, below, equal, above, cmp}
use Rattle.basics.specs.Members.{mem, clash}
use Rattle.label.specs.Limits.{leaf_mark}
use Rattle.diagram.specs.Sizes.{space_rows, highest_value}
use Rattle.diagram.specs.Diagram.{Diagram, leaf, branch}
use Rattle.diagram.specs.Words.{label_at, high_at, low_at}
use Rattle.diagram.specs.Shown.{Shown, same-eqb}
use Rattle.apply.specs.declared.Operation.{Operation}
use Rattle.apply.specs.Apply.{apply}
use Rattle.apply.specs.ApplyLaws.{apply-leaves}
use Rattle.apply.specs.Combination.{operate}
use Rattle.apply.specs.Pairs.{Pair, same_pair, ends, too_high}
use Rattle.apply.specs.Visit.{visit}
use Rattle.apply.specs.Walk.{Below, Step, left, right, both}
use Rattle.apply.proofs.Course.{absorb-left, absorb-right, absorbed-left, absorbed-right}
use Rattle.apply.proofs.VisitLaws.{visit-old, visit-stop, visit-step}
use Rattle.plan.specs.Walk.{is_end, pair_label, lesser, on_high, on_low, descend, finish_pairs}
use Rattle.plan.specs.Walk as rows
use Rattle.plan.specs.WalkLaws.{lesser-le, lesser-gt, branch_one, lower-label, finish-old, finish-end, finish-branch}

-- the first m rows of ws stand for the diagrams `tree`; no label is above a leaf's mark, and no value above the highest
pub record Operand (ws : List ℕ) (m : ℕ) (tree : ℕ → Diagram) : Type 0 where
  pub shown : Shown ws m tree
  pub most : (k : ℕ) → k < m → label_at ws k ≤ leaf_mark
  pub values : (k : ℕ) → k < m → label_at ws k ≡ leaf_mark → high_at ws k ≤ highest_value

-- the word v behind the label of d's row: a leaf's value
abbrev WordOf : Diagram → ℕ → Type 0
WordOf (leaf u) v = u ≡ v
WordOf (branch l t f) v = Unit {0}

-- two such words form what a pair that ends does, and are too high exactly if the pair is: whatever stands beside a leaf that absorbs, the result is 0
end-words : (op : Operation) (a b : Diagram) (v w : ℕ) → WordOf a v → WordOf b w → ends op a b ≡ true
    → (leaf (operate op v w) ≡ apply (operate op) a b) × (too_high (operate op) a b ≡ ltb highest_value (operate op v w))
unfolding ends
end-words op (leaf u) (leaf z) v w p q e =
    (ap leaf (ap₂ (operate op) (sym p) (sym q)) ∙ sym (apply-leaves (operate op) u z), ap (ltb highest_value) (ap₂ (operate op) p q))
end-words op (leaf u) (branch k t f) v w p q e =
    let r : operate op v w ≡ 0 = ap (λ (x : ℕ). operate op x w) (sym p) ∙ absorb-left op u w e in
    (ap leaf r ∙ sym (absorbed-left op u (branch k t f) e), ap (ltb highest_value) (sym r))
end-words op (branch l t f) (leaf z) v w p q e =
    let r : operate op v w ≡ 0 = ap (operate op v) (sym q) ∙ absorb-right op v z e in
    (ap leaf r ∙ sym (absorbed-right op (branch l t f) z e), ap (ltb highest_value) (sym r))
end-words op (branch l t f) (branch k u g) v w p q e = clash e refl

-- row k of an operand: the word behind its label is a leaf's value or an earlier row
module _ (ws : List ℕ) (m : ℕ) (tree : ℕ → Diagram) (o : Operand ws m tree) (k : ℕ) (h : k < m) where
  row_word : WordOf (tree k) (high_at ws k)
  row_word = go (flag (eqb (label_at ws k) leaf_mark))
    where
      go : Flag (eqb (label_at ws k) leaf_mark) → WordOf (tree k) (high_at ws k)
      go (is_true e) = rw (o.shown.leaves k h (eqb-true _ _ e)) refl
      go (is_false e) = rw (o.shown.branches k h (eqb-false _ _ e)) tt

  pub word_small : k < space_rows → high_at ws k ≤ highest_value
  word_small l = go (flag (eqb (label_at ws k) leaf_mark))
    where
      go : Flag (eqb (label_at ws k) leaf_mark) → high_at ws k ≤ highest_value
      go (is_true e) = o.values k h (eqb-true _ _ e)
      go (is_false e) = let c = o.shown.kids k h (eqb-false _ _ e) in omega arith

module _ (x y : List ℕ) (m n : ℕ) (tx ty : ℕ → Diagram) (ox : Operand x m tx) (oy : Operand y n ty) where
  -- the diagrams of a pair of rows
  abbrev pub pair_tree : rows.Pair → Pair
  pair_tree p = (tx p.0, ty p.1)

  abbrev pub Inside : rows.Pair → Type 0
  Inside p = (p.0 < m) × (p.1 < n)

  abbrev pub AllInside : List rows.Pair → Type 0
  AllInside [] = Unit {0}
  AllInside (p ∷ ps) = Inside p × AllInside ps

  pub inside_snoc : (ps : List rows.Pair) (p : rows.Pair) → AllInside ps → Inside p → AllInside (ps ++ (p ∷ []))
  inside_snoc [] p a h = (h, tt)
  inside_snoc (q ∷ qs) p a h = (a.0, inside_snoc qs p a.1 h)

  pub map_snoc : (ps : List rows.Pair) (p : rows.Pair) → map pair_tree (ps ++ (p ∷ [])) ≡ map pair_tree ps ++ (pair_tree p ∷ [])
  map_snoc [] p = refl
  map_snoc (q ∷ qs) p = ap (◌∷◌ (pair_tree q)) (map_snoc qs p)

  mem-pair : (p : rows.Pair) (ps : List rows.Pair) → Inside p → AllInside ps → mem same_pair (pair_tree p) (map pair_tree ps) ≡ mem rows.same_pair p ps
  unfolding rows.same_pair
  mem-pair p [] h a = refl
  mem-pair p (q ∷ qs) h a =
      rw (same-eqb x m tx ox.shown p.0 q.0 h.0 a.0.0, same-eqb y n ty oy.shown p.1 q.1 h.1 a.0.1, mem-pair p qs h a.1)

  below_row : (l j : ℕ) → j < n → l < label_at y j → Below l (ty j)
  below_row l j h k = go (flag (eqb (label_at y j) leaf_mark))
    where
      go : Flag (eqb (label_at y j) leaf_mark) → Below l (ty j)
      go (is_true e) = rw (oy.shown.leaves j h (eqb-true _ _ e)) tt
      go (is_false e) = rw (oy.shown.branches j h (eqb-false _ _ e)) k

  below-row' : (l i : ℕ) → i < m → l < label_at x i → Below l (tx i)
  below-row' l i h k = go (flag (eqb (label_at x i) leaf_mark))
    where
      go : Flag (eqb (label_at x i) leaf_mark) → Below l (tx i)
      go (is_true e) = rw (ox.shown.leaves i h (eqb-true _ _ e)) tt
      go (is_false e) = rw (ox.shown.branches i h (eqb-false _ _ e)) k

  module _ (op : Operation) where
    -- a pair of rows ends exactly if its diagrams do
    end-rows : (p : rows.Pair) → Inside p → is_end op x y p ≡ ends op (tx p.0) (ty p.1)
    unfolding is_end ends
    end-rows p h = go (flag (eqb (label_at x p.0) leaf_mark)) (flag (eqb (label_at y p.1) leaf_mark))
      where
        go : Flag (eqb (label_at x p.0) leaf_mark) → Flag (eqb (label_at y p.1) leaf_mark) → is_end op x y p ≡ ends op (tx p.0) (ty p.1)
        go (is_true e) (is_true d) = rw (e, d, ox.shown.leaves p.0 h.0 (eqb-true _ _ e), oy.shown.leaves p.1 h.1 (eqb-true _ _ d))
        go (is_true e) (is_false d) = rw (e, d, ox.shown.leaves p.0 h.0 (eqb-true _ _ e), oy.shown.branches p.1 h.1 (eqb-false _ _ d))
        go (is_false e) (is_true d) = rw (e, d, ox.shown.branches p.0 h.0 (eqb-false _ _ e), oy.shown.leaves p.1 h.1 (eqb-true _ _ d))
        go (is_false e) (is_false d) = rw (e, d, ox.shown.branches p.0 h.0 (eqb-false _ _ e), oy.shown.branches p.1 h.1 (eqb-false _ _ d))

    -- how the walk goes on from a pair of rows, as one of diagrams
    pub record Onward (p : rows.Pair) : Type 0 where
      pub high-inside : Inside (on_high x y p)
      pub low-inside : Inside (on_low x y p)
      pub high-less : (on_high x y p).0 + (on_high x y p).1 < p.0 + p.1
      pub low-less : (on_low x y p).0 + (on_low x y p).1 < p.0 + p.1
      pub label-less : pair_label op x y p < leaf_mark
      pub goes : ends op (tx p.0) (ty p.1) ≡ false
      pub step : Step (pair_label op x y p) (tx p.0) (ty p.1) (tx (on_high x y p).0) (ty (on_high x y p).1) (tx (on_low x y p).0) (ty (on_low x y p).1)

    make : (p q r : rows.Pair) (l : ℕ) → on_high x y p ≡ q → on_low x y p ≡ r → pair_label op x y p ≡ l → l < leaf_mark → ends op (tx p.0) (ty p.1) ≡ false → Inside q → Inside r
        → q.0 + q.1 < p.0 + p.1 → r.0 + r.1 < p.0 + p.1 → Step l (tx p.0) (ty p.1) (tx q.0) (ty q.1) (tx r.0) (ty r.1) → Onward p
    make p q r l eh el en lm g hq hr lq lr st = record {
      high-inside = rw eh hq;
      low-inside = rw el hr;
      high-less = rw eh lq;
      low-less = rw el lr;
      label-less = rw en lm;
      goes = g;
      step = rw (eh, el, en) st;
    }

    pub onward : (p : rows.Pair) → Inside p → is_end op x y p ≡ false → Onward p
    unfolding descend
    onward p h e = go (cmp (label_at x p.0) (label_at y p.1))
      where
        low : pair_label op x y p ≡ lesser (label_at x p.0) (label_at y p.1)
        low = lower-label op x y p e

        g : ends op (tx p.0) (ty p.1) ≡ false
        g = sym (end-rows p h) ∙ e

        go : Cmp (label_at x p.0) (label_at y p.1) → Onward p
        go (below q) =
            let b : label_at x p.0 ≢ leaf_mark = λ z. omega (arith, oy.most p.1 h.1) in
            let k = ox.shown.kids p.0 h.0 b in
            let s : Step (label_at x p.0) (tx p.0) (ty p.1) (tx (high_at x p.0)) (ty p.1) (tx (low_at x p.0)) (ty p.1) =
            rw (ox.shown.branches p.0 h.0 b) (left (below_row (label_at x p.0) p.1 h.1 q)) in
            let y₁ = le-leb (label_at x p.0) (label_at y p.1) (omega arith) in
            let n₁ = lt-leb (label_at y p.1) (label_at x p.0) q in
            let r₁ = h.0 in
            make p (high_at x p.0, p.1) (low_at x p.0, p.1) (label_at x p.0) (rw (y₁, n₁)) (rw (y₁, n₁)) (low ∙ lesser-le _ _ (omega arith)) (omega (arith, oy.most p.1 h.1))
            g (omega arith, h.1) (omega arith, h.1) (omega arith) (omega arith) s
        go (equal q) =
            let b : label_at x p.0 ≢ leaf_mark = λ z. branch_one op x y p e z (sym q ∙ z) in
            let b' : label_at y p.1 ≢ leaf_mark = λ z. b (q ∙ z) in
            let k = ox.shown.kids p.0 h.0 b in
            let k' = oy.shown.kids p.1 h.1 b' in
            let s : Step (label_at x p.0) (tx p.0) (ty p.1) (tx (high_at x p.0)) (ty (high_at y p.1)) (tx (low_at x p.0)) (ty (low_at y p.1)) =
            rw (ox.shown.branches p.0 h.0 b, oy.shown.branches p.1 h.1 b') (both q) in
            let y₁ = le-leb (label_at x p.0) (label_at y p.1) (omega arith) in
            let y₂ = le-leb (label_at y p.1) (label_at x p.0) (omega arith) in
            let r₁ = h.0 in
            let r₂ = h.1 in
            make p (high_at x p.0, high_at y p.1) (low_at x p.0, low_at y p.1) (label_at x p.0) (rw (y₁, y₂)) (rw (y₁, y₂))
            (low ∙ lesser-le _ _ (omega arith)) (omega (arith, ox.most p.0 h.0))
            g (omega arith, omega arith) (omega arith, omega arith) (omega arith) (omega arith) s
        go (above q) =
            let b : label_at y p.1 ≢ leaf_mark = λ z. omega (arith, ox.most p.0 h.0) in
            let k = oy.shown.kids p.1 h.1 b in
            let s : Step (label_at y p.1) (tx p.0) (ty p.1) (tx p.0) (ty (high_at y p.1)) (tx p.0) (ty (low_at y p.1)) =
            rw (oy.shown.branches p.1 h.1 b) (right (below-row' (label_at y p.1) p.0 h.0 q)) in
            let n₁ = lt-leb (label_at x p.0) (label_at y p.1) q in
            let y₁ = le-leb (label_at y p.1) (label_at x p.0) (omega arith) in
            let r₁ = h.1 in
            make p (p.0, high_at y p.1) (p.0, low_at y p.1) (label_at y p.1) (rw (n₁, y₁)) (rw (n₁, y₁)) (low ∙ lesser-gt _ _ q) (omega (arith, ox.most p.0 h.0))
            g (h.0, omega arith) (h.0, omega arith) (omega arith) (omega arith) s

    -- an end's two words form what its pair of diagrams does, and are too high exactly if the pair is
    pub end-forms : (p : rows.Pair) → Inside p → is_end op x y p ≡ true
        → (leaf (operate op (high_at x p.0) (high_at y p.1)) ≡ apply (operate op) (tx p.0) (ty p.1))
        × (too_high (operate op) (tx p.0) (ty p.1) ≡ ltb highest_value (operate op (high_at x p.0) (high_at y p.1)))
    end-forms p h e =
        end-words op (tx p.0) (ty p.1) (high_at x p.0) (high_at y p.1) (row_word x m tx ox p.0 h.0) (row_word y n ty oy p.1 h.1)
        (sym (end-rows p h) ∙ e)

    -- the walk over rows finishes the pairs of diagrams in the order of the walk over diagrams
    abbrev Agrees : ℕ → Type 0
    Agrees d = (p : rows.Pair) (done : List rows.Pair) → p.0 + p.1 < d → Inside p → AllInside done
        → (map pair_tree (finish_pairs op x y d p done) ≡ visit op (tx p.0) (ty p.1) (map pair_tree done)) × AllInside (finish_pairs op x y d p done)

    agrees-step : (d : ℕ) → Agrees d → Agrees (suc d)
    agrees-step d ih p done l h a = go (flag (mem rows.same_pair p done)) (flag (is_end op x y p))
      where
        go : Flag (mem rows.same_pair p done) → Flag (is_end op x y p)
            → (map pair_tree (finish_pairs op x y (suc d) p done) ≡ visit op (tx p.0) (ty p.1) (map pair_tree done)) × AllInside (finish_pairs op x y (suc d) p done)
        go (is_true e) f = (
          rw (finish-old op x y d p done e) (sym (visit-old op _ _ (map pair_tree done) (mem-pair p done h a ∙ e))),
          rw (finish-old op x y d p done e) a,
        )
        go (is_false e) (is_true f) =
            let g : mem same_pair (pair_tree p) (map pair_tree done) ≡ false = mem-pair p done h a ∙ e in (
              rw (finish-end op x y d p done e f, map_snoc done p) (sym (visit-stop op _ _ (map pair_tree done) (sym (end-rows p h) ∙ f) g)),
              rw (finish-end op x y d p done e f) (inside_snoc done p a h),
            )
        go (is_false e) (is_false f) =
            let o = onward p h f in
            let u = ih (on_high x y p) done (omega (arith, o.high-less)) o.high-inside a in
            let v = ih (on_low x y p) (finish_pairs op x y d (on_high x y p) done) (omega (arith, o.low-less)) o.low-inside u.1 in
            let ps = finish_pairs op x y d (on_low x y p) (finish_pairs op x y d (on_high x y p) done) in (
              rw (finish-branch op x y d p done e f, map_snoc ps p, v.0, u.0)
                  (sym (visit-step op (map pair_tree done) o.goes o.step (mem-pair p done h a ∙ e))),
              rw (finish-branch op x y d p done e f) (inside_snoc ps p v.1 h),
            )

    pub agrees : (d : ℕ) → Agrees d
    agrees zero p done l h a = absurd (omega arith)
    agrees (suc d) p done l h a = agrees-step d (agrees d) p done l h a
