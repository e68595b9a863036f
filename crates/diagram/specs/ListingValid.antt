-- is_listing and Valid are equivalent: that children stand before their parents need not be said, it follows from the numbering and from the labels.
use Rattle.std.specs.Prelude.{◌≡◌, refl, ◌≢◌, Bool, true, false, not, ◌||◌, List, [], ◌∷◌, ◌++◌, ℕ, zero, suc, pred, ◌+◌, ◌*◌, ◌≤◌, ◌<◌, length, get_or, take, eqb, ltb, leb}
use Rattle.std.proofs.Common.{ap, sym, subst, arith, length-append, take_at, eqb-true, eq-eqb, ne_eqb, ltb-true, lt-ltb, leb-true, le-leb}
use Rattle.std.proofs.Math.ListN.{get_or-append}
use Rattle.std.proofs.lemmas.List.{take-append-le, get_or_at}
use Rattle.std.proofs.lemmas.Bool.{eqb-false, not-true}
use Rattle.basics.specs.Tests.{and_left, and_right, Flag, is_true, is_false, flag, Cmp, cmp, below, equal, above, Either, one, other, either, or-one, or-other}
use Rattle.basics.specs.Members.{mem, NoDup, Within, nodup-le, clash, mem-snoc}
use Rattle.label.specs.Limits.{leaf_mark}
use Rattle.label.specs.Labels.{are_arities, is_label}
use Rattle.diagram.specs.Sizes.{most_rows, highest_value}
use Rattle.diagram.specs.Words.{
  label_at,
  high_at,
  low_at,
  row_count,
  up_to,
  finish,
  is_leaf_row,
  is_branch_row,
  every_below,
  equal_rows,
  are_distinct,
  equal_lists,
  are_numbered,
  is_listing,
}
use Rattle.diagram.specs.Validity.{LeafRow, ValidRow, a-leaf, a-branch, Valid}
use Rattle.diagram.specs.WordLaws.{
  number-test,
  mem-up_to,
  in-up_to,
  length-up_to,
  take-up_to,
  get_d-up_to,
  finish-old,
  finish-leaf,
  finish-branch,
  finish-keeps,
  every-below,
  below-every,
  lists-equal,
  equal-lists,
}
use Rattle.diagram.specs.RowDiagrams.{not-mark}

-- the tests of is_listing, one by one: a branch whose children are rows, wherever they stand
record PlainBranch (ar : List ℕ) (ws : List ℕ) (i : ℕ) : Type 0 where
  label : is_label ar (label_at ws i) ≡ true
  high-row : high_at ws i < row_count ws
  low-row : low_at ws i < row_count ws
  high-above : label_at ws i < label_at ws (high_at ws i)
  low-above : label_at ws i < label_at ws (low_at ws i)
  differ : high_at ws i ≢ low_at ws i

data PlainRow (ar : List ℕ) (ws : List ℕ) (i : ℕ) : Type 0 where
  plain-leaf : LeafRow ws i → PlainRow ar ws i
  plain-branch : PlainBranch ar ws i → PlainRow ar ws i

record Plain (ar ws : List ℕ) : Type 0 where
  arities : are_arities ar ≡ true
  whole : length ws ≡ row_count ws * 3
  some : 1 ≤ row_count ws
  few : row_count ws ≤ most_rows
  each : (i : ℕ) → i < row_count ws → PlainRow ar ws i
  apart : (i j : ℕ) → i < row_count ws → j < i → equal_rows ws j i ≡ false
  order : finish ws (row_count ws) (pred (row_count ws)) [] ≡ up_to (row_count ws)

module _ (ar ws : List ℕ) (v : Plain ar ws) where
  inner-branch : (k : ℕ) → k < row_count ws → label_at ws k ≢ leaf_mark → PlainBranch ar ws k
  inner-branch k h e = go (v.each k h)
    where
      go : PlainRow ar ws k → PlainBranch ar ws k
      go (plain-leaf r) = absurd (e r.mark)
      go (plain-branch r) = r

  -- the rows above i on a path, the nearest first
  abbrev Above : List ℕ → ℕ → Type 0
  Above [] i = Unit {0}
  Above (p ∷ ps) i = (p < row_count ws) × (label_at ws p < label_at ws i) × Above ps p

  path-out : (ps : List ℕ) (i x : ℕ) → Above ps i → label_at ws i ≤ label_at ws x → mem eqb x ps ≡ false
  path-out [] i x p h = refl
  path-out (q ∷ qs) i x p h =
      let e : eqb x q ≡ false = ne_eqb x q (λ z. let z' = ap (label_at ws) z in omega arith) in
      rw (e, path-out qs q x p.2 (omega arith))

  path-nodup : (ps : List ℕ) (i : ℕ) → Above ps i → NoDup eqb (i ∷ ps)
  path-nodup [] i p = (refl, tt)
  path-nodup (q ∷ qs) i p = (path-out (q ∷ qs) i i p (omega arith), path-nodup qs q p.2)

  path-within : (ps : List ℕ) (i : ℕ) → i < row_count ws → Above ps i → Within eqb (i ∷ ps) (up_to (row_count ws))
  path-within [] i h p x e = go (either (eqb x i) false e)
    where
      go : Either (eqb x i) false → mem eqb x (up_to (row_count ws)) ≡ true
      go (one q) = mem-up_to x (row_count ws) (omega (arith, eqb-true x i q))
      go (other q) = clash q refl
  path-within (r ∷ rs) i h p x e = go (either (eqb x i) (mem eqb x (r ∷ rs)) e) (path-within rs r p.0 p.2 x)
    where
      go : Either (eqb x i) (mem eqb x (r ∷ rs)) → (mem eqb x (r ∷ rs) ≡ true → mem eqb x (up_to (row_count ws)) ≡ true) → mem eqb x (up_to (row_count ws)) ≡ true
      go (one q) ih = mem-up_to x (row_count ws) (omega (arith, eqb-true x i q))
      go (other q) ih = ih q

  -- a path is no longer than the rows are many
  path-short : (ps : List ℕ) (i : ℕ) → i < row_count ws → Above ps i → suc (length ps) ≤ row_count ws
  path-short ps i h p =
      omega (arith, nodup-le eqb number-test (i ∷ ps) (up_to (row_count ws)) (path-nodup ps i p) (path-within ps i h p), length-up_to (row_count ws))

  -- each row's children are among the rows before it
  abbrev Kids : List ℕ → ℕ → Type 0
  Kids xs x = label_at ws x ≢ leaf_mark → (mem eqb (high_at ws x) xs ≡ true) × (mem eqb (low_at ws x) xs ≡ true)

  abbrev Built : List ℕ → Type 0
  Built xs = (k : ℕ) → k < length xs → Kids (take k xs) (get_or xs k 0)

  built-more : (xs : List ℕ) (x : ℕ) → Built xs → Kids xs x → Built (xs ++ (x ∷ []))
  built-more xs x b h k l = go (cmp k (length xs))
    where
      go : Cmp k (length xs) → Kids (take k (xs ++ (x ∷ []))) (get_or (xs ++ (x ∷ [])) k 0)
      go (below q) = rw (take-append-le k xs (x ∷ []) (omega arith), get_or-append xs (x ∷ []) 0 k q) (b k q)
      go (equal q) = rw (take_at xs (x ∷ []) k (sym q), get_or_at xs x [] 0 k (sym q)) h
      go (above q) = absurd (omega (arith, length-append xs (x ∷ [])))

  abbrev Closes : ℕ → Type 0
  Closes n = (i : ℕ) (done ps : List ℕ) → i < row_count ws → length ps + n ≡ row_count ws → Above ps i → Built done
      → (mem eqb i (finish ws n i done) ≡ true) × Built (finish ws n i done)

  closes-step : (n : ℕ) → Closes n → Closes (suc n)
  closes-step n ih i done ps h l p b = go (flag (mem eqb i done)) (flag (eqb (label_at ws i) leaf_mark))
    where
      go : Flag (mem eqb i done) → Flag (eqb (label_at ws i) leaf_mark)
          → (mem eqb i (finish ws (suc n) i done) ≡ true) × Built (finish ws (suc n) i done)
      go (is_true e) x = rw (finish-old ws (suc n) i done e) (e, b)
      go (is_false e) (is_true q) =
          let q' = eqb-true _ _ q in
          rw (finish-leaf ws n i done e q') (mem-snoc eqb number-test i done, built-more done i b (λ z. absurd (z q')))
      go (is_false e) (is_false q) =
          let q' = eqb-false _ _ q in
          let r = inner-branch i h q' in
          let x = ih (high_at ws i) done (i ∷ ps) r.high-row (omega arith) (h, r.high-above, p) b in
          let y = ih (low_at ws i) (finish ws n (high_at ws i) done) (i ∷ ps) r.low-row (omega arith) (h, r.low-above, p) x.1 in
          let xs = finish ws n (low_at ws i) (finish ws n (high_at ws i) done) in
          rw (finish-branch ws n i done e q')
          (mem-snoc eqb number-test i xs, built-more xs i y.1 (λ z. (finish-keeps ws n (low_at ws i) (finish ws n (high_at ws i) done) (high_at ws i) x.0, y.0)))

  closes : (n : ℕ) → Closes n
  closes zero i done ps h l p b = absurd (omega (arith, path-short ps i h p))
  closes (suc n) i done ps h l p b = closes-step n (closes n) i done ps h l p b

  all-built : Built (up_to (row_count ws))
  all-built =
      let s = v.some in
      subst Built v.order (closes (row_count ws) (pred (row_count ws)) [] [] (omega arith) (omega arith) tt (λ k h. absurd (omega arith))).1

  earlier : (k : ℕ) → k < row_count ws → label_at ws k ≢ leaf_mark → (high_at ws k < k) × (low_at ws k < k)
  earlier k h e =
      let z : Kids (take k (up_to (row_count ws))) (get_or (up_to (row_count ws)) k 0) = all-built k (omega (arith, length-up_to (row_count ws))) in
      let z' : Kids (up_to k) k = rw (take-up_to k (row_count ws) (omega arith), get_d-up_to (row_count ws) k h) at z in
      let r = z' e in
      (in-up_to (high_at ws k) k r.0, in-up_to (low_at ws k) k r.1)

  plain-valid : Valid ar ws
  plain-valid = record {
    arities = v.arities;
    whole = v.whole;
    some = v.some;
    few = v.few;
    each = λ i h. go i h (v.each i h);
    apart = v.apart;
    order = v.order;
  }
    where
      go : (i : ℕ) → i < row_count ws → PlainRow ar ws i → ValidRow ar ws i
      go i h (plain-leaf r) = a-leaf r
      go i h (plain-branch r) =
          let z = earlier i h (not-mark ar (label_at ws i) r.label) in
          a-branch (record {
            label = r.label;
            high-before = z.0;
            low-before = z.1;
            high-above = r.high-above;
            low-above = r.low-above;
            differ = r.differ;
          })

valid-plain : (ar ws : List ℕ) → Valid ar ws → Plain ar ws
valid-plain ar ws v = record {
  arities = v.arities;
  whole = v.whole;
  some = v.some;
  few = v.few;
  each = λ i h. go i h (v.each i h);
  apart = v.apart;
  order = v.order;
}
  where
    go : (i : ℕ) → i < row_count ws → ValidRow ar ws i → PlainRow ar ws i
    go i h (a-leaf r) = plain-leaf r
    go i h (a-branch r) = let x = r.high-before in let y = r.low-before in
        plain-branch (record {
          label = r.label;
          high-row = omega arith;
          low-row = omega arith;
          high-above = r.high-above;
          low-above = r.low-above;
          differ = r.differ;
        })

-- the tests and the records
leaf-row-test : (ws : List ℕ) (i : ℕ) → is_leaf_row ws i ≡ true → LeafRow ws i
unfolding is_leaf_row
leaf-row-test ws i e =
    let r = and_right (eqb (label_at ws i) leaf_mark) _ e in
    record {
      mark = eqb-true _ _ (and_left (eqb (label_at ws i) leaf_mark) _ e);
      value = leb-true _ _ (and_left (leb (high_at ws i) highest_value) _ r);
      third = eqb-true _ _ (and_right (leb (high_at ws i) highest_value) _ r);
    }

test-leaf-row : (ws : List ℕ) (i : ℕ) → LeafRow ws i → is_leaf_row ws i ≡ true
unfolding is_leaf_row
test-leaf-row ws i r =
    rw (eq-eqb (label_at ws i) leaf_mark r.mark, le-leb (high_at ws i) highest_value r.value, eq-eqb (low_at ws i) 0 r.third)

branch-row-test : (ar ws : List ℕ) (i : ℕ) → is_branch_row ar ws i ≡ true → PlainBranch ar ws i
unfolding is_branch_row
branch-row-test ar ws i e =
    let a = is_label ar (label_at ws i) in
    let b = ltb (high_at ws i) (row_count ws) in
    let c = ltb (low_at ws i) (row_count ws) in
    let d = ltb (label_at ws i) (label_at ws (high_at ws i)) in
    let f = ltb (label_at ws i) (label_at ws (low_at ws i)) in
    let e₁ = and_right a _ e in
    let e₂ = and_right b _ e₁ in
    let e₃ = and_right c _ e₂ in
    let e₄ = and_right d _ e₃ in
    record {
      label = and_left a _ e;
      high-row = ltb-true _ _ (and_left b _ e₁);
      low-row = ltb-true _ _ (and_left c _ e₂);
      high-above = ltb-true _ _ (and_left d _ e₃);
      low-above = ltb-true _ _ (and_left f _ e₄);
      differ = eqb-false _ _ (not-true (eqb (high_at ws i) (low_at ws i)) (and_right f _ e₄));
    }

test-branch-row : (ar ws : List ℕ) (i : ℕ) → PlainBranch ar ws i → is_branch_row ar ws i ≡ true
unfolding is_branch_row
test-branch-row ar ws i r =
    rw (
      r.label,
      lt-ltb (high_at ws i) (row_count ws) r.high-row,
      lt-ltb (low_at ws i) (row_count ws) r.low-row,
      lt-ltb (label_at ws i) (label_at ws (high_at ws i)) r.high-above,
      lt-ltb (label_at ws i) (label_at ws (low_at ws i)) r.low-above,
      ne_eqb (high_at ws i) (low_at ws i) r.differ,
    )

row-test : (ar ws : List ℕ) (i : ℕ) → (is_leaf_row ws i || is_branch_row ar ws i) ≡ true → PlainRow ar ws i
row-test ar ws i e = go (either (is_leaf_row ws i) _ e)
  where
    go : Either (is_leaf_row ws i) (is_branch_row ar ws i) → PlainRow ar ws i
    go (one q) = plain-leaf (leaf-row-test ws i q)
    go (other q) = plain-branch (branch-row-test ar ws i q)

test-row : (ar ws : List ℕ) (i : ℕ) → PlainRow ar ws i → (is_leaf_row ws i || is_branch_row ar ws i) ≡ true
test-row ar ws i (plain-leaf r) = or-one _ _ (test-leaf-row ws i r)
test-row ar ws i (plain-branch r) = or-other (is_leaf_row ws i) _ (test-branch-row ar ws i r)

distinct-test : (ws : List ℕ) (i j : ℕ) → are_distinct ws ≡ true → i < row_count ws → j < i → equal_rows ws j i ≡ false
unfolding are_distinct
distinct-test ws i j e h k =
    not-true (equal_rows ws j i) (below-every i (λ x. not (equal_rows ws x i)) j
    (below-every (row_count ws) (λ x. every_below x (λ y. not (equal_rows ws y x))) i e h) k)

test-distinct : (ws : List ℕ) → ((i j : ℕ) → i < row_count ws → j < i → equal_rows ws j i ≡ false) → are_distinct ws ≡ true
unfolding are_distinct
test-distinct ws h =
    every-below (row_count ws) (λ x. every_below x (λ y. not (equal_rows ws y x)))
    (λ i l. every-below i (λ y. not (equal_rows ws y i)) (λ j k. ap not (h i j l k)))

listing-plain : (ar ws : List ℕ) → is_listing ar ws ≡ true → Plain ar ws
unfolding is_listing are_numbered
listing-plain ar ws e =
    let a = are_arities ar in
    let b = eqb (length ws) (row_count ws * 3) in
    let c = leb 1 (row_count ws) in
    let d = leb (row_count ws) most_rows in
    let p : ℕ → Bool = λ i. is_leaf_row ws i || is_branch_row ar ws i in
    let e₁ = and_right a _ e in
    let e₂ = and_right b _ e₁ in
    let e₃ = and_right c _ e₂ in
    let e₄ = and_right d _ e₃ in
    let e₅ = and_right (every_below (row_count ws) p) _ e₄ in
    record {
      arities = and_left a _ e;
      whole = eqb-true _ _ (and_left b _ e₁);
      some = leb-true _ _ (and_left c _ e₂);
      few = leb-true _ _ (and_left d _ e₃);
      each = λ i h. row-test ar ws i (below-every (row_count ws) p i (and_left (every_below (row_count ws) p) _ e₄) h);
      apart = λ i j h k. distinct-test ws i j (and_left (are_distinct ws) _ e₅) h k;
      order = lists-equal _ _ (and_right (are_distinct ws) _ e₅);
    }

plain-listing : (ar ws : List ℕ) → Plain ar ws → is_listing ar ws ≡ true
unfolding is_listing are_numbered
plain-listing ar ws v =
    let o : equal_lists (finish ws (row_count ws) (pred (row_count ws)) []) (up_to (row_count ws)) ≡ true
    = rw v.order (equal-lists (up_to (row_count ws))) in
    rw (
      v.arities,
      eq-eqb (length ws) (row_count ws * 3) v.whole,
      le-leb 1 (row_count ws) v.some,
      le-leb (row_count ws) most_rows v.few,
      every-below (row_count ws) (λ i. is_leaf_row ws i || is_branch_row ar ws i) (λ i h. test-row ar ws i (v.each i h)),
      test-distinct ws v.apart,
      o,
    )

pub valid-is-listing : (ar ws : List ℕ) → Valid ar ws → is_listing ar ws ≡ true
valid-is-listing ar ws v = plain-listing ar ws (valid-plain ar ws v)

pub listing-is-valid : (ar ws : List ℕ) → is_listing ar ws ≡ true → Valid ar ws
listing-is-valid ar ws e = plain-valid ar ws (listing-plain ar ws e)
