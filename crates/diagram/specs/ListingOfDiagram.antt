-- The listing of a good diagram is valid, and its diagram is the diagram.
use Rattle.std.specs.Prelude.{◌≡◌, refl, true, false, ℕ, suc, pred, ◌<◌, length, eqb}
use Rattle.std.proofs.Math.Path.{ap, sym}
use Rattle.std.proofs.Common.{◌∙◌, arith, eqb-true}
use mathlib.Core.List.{List, []}
use Rattle.std.proofs.lemmas.Bool.{eqb-false}
use Rattle.basics.specs.Tests.{Flag, is_true, is_false, flag}
use Rattle.label.specs.Limits.{leaf_mark}
use Rattle.label.proofs.LabelLaws.{label-below}
use Rattle.diagram.specs.Diagram.{Diagram, leaf, branch, From}
use Rattle.diagram.specs.Rows.{onto, rows}
use Rattle.diagram.specs.Words.{label_at, high_at, low_at, row_count, equal_rows, up_to, finish}
use Rattle.diagram.specs.Listing.{index, encode, listing, diagram_of, Fine, Good}
use Rattle.diagram.specs.Validity.{ValidRow, a-leaf, a-branch, Valid}
use Rattle.diagram.specs.Inner.{is_part, Encoded, Written}
use Rattle.diagram.specs.RowLists.{row_tree}
use Rattle.diagram.specs.WordLaws.{below-up_to, differ-rows}
use Rattle.diagram.specs.ListingLaws.{mem-get_d, encode-at, length-encode}
use Rattle.diagram.specs.RowLaws.{
  PartOf,
  it-is,
  of-high,
  of_low,
  part-leaf,
  part-branch,
  part-from,
  part-reduced,
  part-rows,
  mem-rows,
  rows-kept,
  rows-some,
  rows-root,
}
use Rattle.diagram.specs.Shown.{Shown, agrees, reads, map_inj}
use Rattle.diagram.specs.WrittenRows.{written-shown, child-number, rows-places}

-- the parts of a good diagram are good
pub part-fine : (ar : List ℕ) (x d : Diagram) → Fine ar d → is_part x d ≡ true → Fine ar x
part-fine ar x (leaf v) n h = rw (part-leaf x v h) n
part-fine ar x (branch l t f) n h = go (part-branch x l t f h) (part-fine ar x t n.1) (part-fine ar x f n.2)
  where
    go : PartOf x l t f → (is_part x t ≡ true → Fine ar x) → (is_part x f ≡ true → Fine ar x) → Fine ar x
    go (it-is e) p q = rw e n
    go (of-high e) p q = p e
    go (of_low e) p q = q e

pub good-part : (ar : List ℕ) (x d : Diagram) → Good ar d → is_part x d ≡ true → Good ar x
good-part ar x d g p = record {
  arities = g.arities;
  ordered = part-from 0 x d g.ordered p;
  reduced = part-reduced x d g.reduced p;
  fine = part-fine ar x d g.fine p;
  few = omega (arith, g.few, part-rows x d p);
}

module _ (ar : List ℕ) (d : Diagram) (g : Good ar d) where
  abbrev R : List Diagram
  R = rows d

  abbrev W : List ℕ
  W = encode R R

  -- a row of d is a good diagram
  good-row : (k : ℕ) (x : Diagram) → k < length R → row_tree R k ≡ x → Good ar x
  good-row k x h e = good-part ar x d g (rw (← e) (sym (mem-rows d (row_tree R k)) ∙ mem-get_d R k (leaf 0) h))

  written : Written W R
  written = record {
    kept = rows-kept d;
    labels = λ k l t f h e. label-below ar l (good-row k (branch l t f) h e).fine.0;
    words = λ k h. encode-at R R k h;
  }

  shown-words : Shown W (length R) (row_tree R)
  shown-words = written-shown W R written

  count-is : row_count W ≡ length R
  count-is = omega (arith, length-encode R R)

  in_order : finish W (length R) (pred (length R)) [] ≡ up_to (length R)
  unfolding rows
  in_order =
      let h = rows-some d in
      let a = agrees W (length R) (row_tree R) shown-words (length R) (pred (length R)) [] (omega arith) (omega arith) tt in
      map_inj W (length R) (row_tree R) shown-words (finish W (length R) (pred (length R)) []) (up_to (length R)) a.1
      (below-up_to (length R) (length R) (omega arith)) (a.0 ∙ ap (λ x. onto x []) (rows-root d) ∙ sym (rows-places R))

  -- a child's label is above
  child-above : (l k : ℕ) (x : Diagram) → k < length R → row_tree R k ≡ x → l < leaf_mark → From (suc l) x → l < label_at W k
  child-above l k (leaf v) h q b o =
      let n : Encoded R (leaf v) (label_at W k) (high_at W k) (low_at W k) = rw q at (encode-at R R k h) in
      omega (arith, n.0)
  child-above l k (branch m t f) h q b o =
      let n : Encoded R (branch m t f) (label_at W k) (high_at W k) (low_at W k) = rw q at (encode-at R R k h) in
      omega (arith, n.0)

  row-valid : (k : ℕ) → k < length R → ValidRow ar W k
  row-valid k h = go (row_tree R k) refl (encode-at R R k h)
    where
      go : (x : Diagram) → row_tree R k ≡ x → Encoded R x (label_at W k) (high_at W k) (low_at W k) → ValidRow ar W k
      go (leaf v) q n = a-leaf (record { mark = n.0; value = rw n.1 (good-row k (leaf v) h q).fine; third = n.2 })
      go (branch l t f) q n =
          let s = good-row k (branch l t f) h q in
          let z = (rows-kept d).children k l t f h q in
          let i = z.0.before in
          let j = z.1.before in
          let x = child-number W R written k t z.0 in
          let y = child-number W R written k f z.1 in
          let b = label-below ar l s.fine.0 in
          a-branch (record {
            label = rw n.0 s.fine.0;
            high-before = rw n.1 i;
            low-before = rw n.2 j;
            high-above = rw (n.0, n.1) (child-above l (index t R) t (omega arith) x b s.ordered.1);
            low-above = rw (n.0, n.2) (child-above l (index f R) f (omega arith) y b s.ordered.2);
            differ = λ e. s.reduced.0 (sym x ∙ ap (row_tree R) (sym n.1 ∙ e ∙ n.2) ∙ y);
          })

  rows_apart : (i j : ℕ) → i < length R → j < i → equal_rows W j i ≡ false
  rows_apart i j h k = differ-rows W j i (λ p q r.
      let z = (rows-kept d).distinct j i (omega arith) h (same-words p q r (flag (eqb (label_at W i) leaf_mark))) in
      omega arith)
    where
      same-words : label_at W j ≡ label_at W i → high_at W j ≡ high_at W i → low_at W j ≡ low_at W i → Flag (eqb (label_at W i) leaf_mark)
          → row_tree R j ≡ row_tree R i
      same-words p q r (is_true x) =
          let x' = eqb-true _ _ x in
          shown-words.leaves j (omega arith) (p ∙ x') ∙ ap leaf q ∙ sym (shown-words.leaves i h x')
      same-words p q r (is_false x) =
          let x' = eqb-false _ _ x in
          shown-words.branches j (omega arith) (λ y. x' (sym p ∙ y)) ∙ (λ t. branch (p t) (row_tree R (q t)) (row_tree R (r t)))
          ∙ sym (shown-words.branches i h x')

  valid-words : Valid ar W
  valid-words = record {
    arities = g.arities;
    whole = omega (arith, length-encode R R);
    some = omega (arith, count-is, rows-some d);
    few = omega (arith, count-is, g.few);
    each = λ i h. row-valid i (omega (arith, count-is));
    apart = λ i j h k. rows_apart i j (omega (arith, count-is)) k;
    order = rw count-is in_order;
  }

  pub valid-listing : Valid ar (listing d)
  unfolding listing
  valid-listing = valid-words

  pub written-listing : Written (listing d) (rows d)
  unfolding listing
  written-listing = written

  pub diagram-listing : diagram_of (listing d) ≡ d
  unfolding listing diagram_of
  diagram-listing =
      let h = rows-some d in
      rw count-is (reads W (length R) (row_tree R) shown-words (length R) (pred (length R)) (omega arith) (omega arith) ∙ rows-root d)
