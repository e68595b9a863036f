-- Laws of the tests of single rows, of the index, and of the loop over the rows.
use mathlib.Core.Path.{◌≡◌, sym, ◌∙◌}
use mathlib.Core.Bool.{Bool, true, false, not, true≢false}
use mathlib.Core.List.{List}
use Prim.Native.Nat.{ℕ, ◌+◌, ◌*◌, ◌<◌, ◌≤◌, zero-le}
use native.Mathlib.Omega.{arith}
use lib.ListN.{get_or, set}
use lib.Seq.{set-get_or}
use borrow.Author.Tests.{not-true, not-false}
use Rattle.basics.specs.Tests.{Cmp, cmp, below, equal, above}
use Rattle.label.specs.Limits.{leaf_mark}
use Rattle.label.specs.Labels.{is_label}
use Rattle.label.proofs.LabelLaws.{label-below}
use Rattle.label.specs.Inner.{Compared}
use Rattle.label.proofs.OrderLaws.{compared-less, compared-not}
use Rattle.table.specs.declared.Row.{Row}
use Rattle.table.specs.Rows.{row_at, put_at, rows, first_in}
use Rattle.table.specs.Table.{buckets, hash_of, Table}
use Rattle.table.proofs.RowLaws.{row-ext, found_none, none_found}
use Rattle.table.proofs.TableLaws.{added}
use Rattle.diagram.specs.Sizes.{highest_value}
use Rattle.diagram.specs.Words.{label_at, high_at, low_at, equal_rows}
use Rattle.diagram.specs.WordLaws.{rows-differ, differ-rows}
use Rattle.diagram.specs.Validity.{LeafRow, BranchRow, ValidRow, a-leaf, a-branch, ValidRows}
use Rattle.listing.specs.Inner.{Entered}
use Rattle.listing.specs.Check.{Decides}
use Rattle.std.specs.Prelude.{None, Option, Some}

pub deny : {P : Type 0} → (P → ⊥) → Decides false P
deny f = record { yes = λ e. absurd (true≢false (sym e)); no = λ e. f }

pub allow : {P : Type 0} → P → Decides true P
allow p = record { yes = λ e. p; no = λ e. absurd (true≢false e) }

-- is_valid_row
module _ {ar ws : List ℕ} {i : ℕ} where
  -- a row with a leaf's mark is a leaf, any other a branch
  must-leaf : get_or ws (i * 3) 0 ≡ leaf_mark → ValidRow ar ws i → LeafRow ws i
  unfolding label_at
  must-leaf e (a-leaf r) = r
  must-leaf e (a-branch r) = absurd (omega (arith, label-below ar (get_or ws (i * 3) 0) r.label))

  must-branch : (get_or ws (i * 3) 0 ≡ leaf_mark → ⊥) → ValidRow ar ws i → BranchRow ar ws i
  unfolding label_at
  must-branch e (a-leaf r) = absurd (e r.mark)
  must-branch e (a-branch r) = r

  module _ (e : get_or ws (i * 3) 0 ≡ leaf_mark) where
    pub bad-value : highest_value < get_or ws (i * 3 + 1) 0 → Decides false (ValidRow ar ws i)
    unfolding high_at
    bad-value h = deny (λ v. let r = (must-leaf e v).value in omega arith)

    pub bad-third : (get_or ws (i * 3 + 2) 0 ≡ 0 → ⊥) → Decides false (ValidRow ar ws i)
    unfolding low_at
    bad-third h = deny (λ v. h (must-leaf e v).third)

    pub good-leaf : get_or ws (i * 3 + 1) 0 ≤ highest_value → get_or ws (i * 3 + 2) 0 ≡ 0 → Decides true (ValidRow ar ws i)
    unfolding label_at high_at low_at
    good-leaf h k = allow (a-leaf (record { mark = e; value = h; third = k }))

  module _ (e : get_or ws (i * 3) 0 ≡ leaf_mark → ⊥) where
    pub bad-label : {b : Bool} → b ≡ is_label ar (get_or ws (i * 3) 0) → not b ≡ true → Decides false (ValidRow ar ws i)
    unfolding label_at
    bad-label {b} q n = deny (λ v. true≢false (sym (must-branch e v).label ∙ sym q ∙ not-true b n))

    pub bad-high : i ≤ get_or ws (i * 3 + 1) 0 → Decides false (ValidRow ar ws i)
    unfolding high_at
    bad-high h = deny (λ v. let r = (must-branch e v).high-before in omega arith)

    pub bad-low : i ≤ get_or ws (i * 3 + 2) 0 → Decides false (ValidRow ar ws i)
    unfolding low_at
    bad-low h = deny (λ v. let r = (must-branch e v).low-before in omega arith)

    pub bad-same : get_or ws (i * 3 + 1) 0 ≡ get_or ws (i * 3 + 2) 0 → Decides false (ValidRow ar ws i)
    unfolding high_at low_at
    bad-same h = deny (λ v. (must-branch e v).differ h)

    pub bad-above-high : {b : Bool} → Compared (get_or ws (i * 3) 0) (get_or ws (get_or ws (i * 3 + 1) 0 * 3) 0) b → not b ≡ true → Decides false (ValidRow ar ws i)
    unfolding label_at high_at
    bad-above-high {b} q n = deny (λ v. let r = (must-branch e v).high-above in omega (arith, compared-not (label_at ws i) (label_at ws (high_at ws i)) q (not-true b n)))

    pub bad-above-low : {b : Bool} → Compared (get_or ws (i * 3) 0) (get_or ws (get_or ws (i * 3 + 2) 0 * 3) 0) b → not b ≡ true → Decides false (ValidRow ar ws i)
    unfolding label_at low_at
    bad-above-low {b} q n = deny (λ v. let r = (must-branch e v).low-above in omega (arith, compared-not (label_at ws i) (label_at ws (low_at ws i)) q (not-true b n)))

    pub good-branch : {b c d : Bool} → b ≡ is_label ar (get_or ws (i * 3) 0) → not b ≡ false → get_or ws (i * 3 + 1) 0 < i → get_or ws (i * 3 + 2) 0 < i
        → (get_or ws (i * 3 + 1) 0 ≡ get_or ws (i * 3 + 2) 0 → ⊥)
        → Compared (get_or ws (i * 3) 0) (get_or ws (get_or ws (i * 3 + 1) 0 * 3) 0) c → not c ≡ false
        → Compared (get_or ws (i * 3) 0) (get_or ws (get_or ws (i * 3 + 2) 0 * 3) 0) d → not d ≡ false
        → Decides true (ValidRow ar ws i)
    unfolding label_at high_at low_at
    good-branch {b} {c} {d} p n q r s t m u k = allow (a-branch (record {
      label = sym p ∙ not-false b n;
      high-before = q;
      low-before = r;
      high-above = compared-less _ _ t (not-false c m);
      low-above = compared-less _ _ u (not-false d k);
      differ = s;
    }))

-- rows are equal as records where they are by their words
module _ (ws : List ℕ) (i j : ℕ) where
  apart-differ : (row_at ws j ≡ row_at ws i → ⊥) → equal_rows ws j i ≡ false
  unfolding row_at label_at high_at low_at
  apart-differ h = differ-rows ws j i (λ p q r. h (row-ext _ _ p q r))

  differ-apart : equal_rows ws j i ≡ false → row_at ws j ≡ row_at ws i → ⊥
  unfolding row_at label_at high_at low_at
  differ-apart h e = rows-differ ws j i h (λ t. (e t).label) (λ t. (e t).high) (λ t. (e t).low)

-- enter: a row written where it stands
put_id : (s : List ℕ) (i : ℕ) → put_at s i (row_at s i) ≡ s
unfolding put_at row_at
put_id s i = rw (set-get_or s (i * 3) 0, set-get_or s (i * 3 + 1) 0, set-get_or s (i * 3 + 2) 0)

module _ {s heads links : List ℕ} {limit i : ℕ} {r : Row} {f : Option ℕ} (t : Table s heads links limit i) (e : r ≡ row_at s i) (l : f ≡ first_in (rows s i) r) where
  pub enter-new : {b : ℕ} → i < limit → f ≡ None → (b ≡ hash_of r) × (b < buckets)
      → Entered s limit i true (set heads b (i + 1)) (set links i (get_or heads b 0))
  enter-new {b} room n h =
      let w = added s heads links limit i t r room (none_found s i r (sym l ∙ n)) b h.0 h.1 in
      let p : put_at s i r ≡ s = rw e (put_id s i) in
      record { yes = λ x. rw p at w; no = λ x. absurd (true≢false x) }

  pub enter-old : {j : ℕ} → f ≡ Some j → Entered s limit i false heads links
  enter-old {j} n = record {
    yes = λ x. absurd (true≢false (sym x));
    no = λ x g. let z : Some j ≡ None = sym n ∙ l ∙ found_none s i r (λ k h q. g k h (q ∙ e)) in let z' : ◌≡◌ {A = ℕ} 0 1 = cc in omega arith;
  }

-- are_valid_rows: what the loop has passed
pub record Passed (ar ws heads links : List ℕ) (m i : ℕ) : Type 0 where
  pub most : i ≤ m
  pub table : Table ws heads links m i
  pub each : (k : ℕ) → k < i → ValidRow ar ws k

module _ {ar ws : List ℕ} {m : ℕ} where
  pub pass-bad : {i : ℕ} {b : Bool} → i < m → Decides b (ValidRow ar ws i) → not b ≡ true → Decides false (ValidRows ar ws m)
  pass-bad {i} {b} h d e = deny (λ v. d.no (not-true b e) (v.each i h))

  pub pass-twin : {i : ℕ} {b : Bool} {heads' links' : List ℕ} → i < m → Entered ws m i b heads' links' → not b ≡ true → Decides false (ValidRows ar ws m)
  pass-twin {i} {b} h d e = deny (λ v. d.no (not-true b e) (λ j k q. differ-apart ws i j (v.apart i j h k) q))

module _ {ar ws heads links : List ℕ} {m : ℕ} where
  pub pass-start : Table ws heads links m 0 → Passed ar ws heads links m 0
  pass-start t = record { most = zero-le; table = t; each = λ k h. absurd (omega arith) }

  pub pass-next : {i : ℕ} {b c : Bool} {heads' links' : List ℕ} → Passed ar ws heads links m i → i < m → Decides b (ValidRow ar ws i) → not b ≡ false
      → Entered ws m i c heads' links' → not c ≡ false → Passed ar ws heads' links' m (i + 1)
  pass-next {i} {b} {c} p h d e n q = record { most = omega arith; table = n.yes (not-false c q); each = λ k g. go k g (cmp k i) }
    where
      go : (k : ℕ) → k < i + 1 → Cmp k i → ValidRow ar ws k
      go k g (below x) = p.each k x
      go k g (equal x) = rw x (d.yes (not-false b e))
      go k g (above x) = absurd (omega arith)

  pub pass-end : {i : ℕ} → Passed ar ws heads links m i → m ≤ i → Decides true (ValidRows ar ws m)
  pass-end {i} p h =
      let g = p.most in
      allow (record { each = λ k l. p.each k (omega arith); apart = λ a b l k. apart-differ ws a b (p.table.apart a b (omega arith) k) })
