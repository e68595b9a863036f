-- Laws of the bytes and brackets counted row by row.
use mathlib.Core.Path.{◌≡◌, ap, subst, ◌∙◌}
use mathlib.Core.Logic.{⊎_elim}
use mathlib.Core.Bool.{true, false}
use mathlib.Core.List.{List, [], ◌∷◌, ◌++◌}
use Prim.Native.Nat.{ℕ, suc, ◌+◌, ◌-◌, ◌*◌, ◌/◌, ◌≤◌, ◌<◌, max, min}
use native.Mathlib.Omega.{arith}
use native.Mathlib.Nat.{eq-or-lt_of_le, le_of_suc-le-suc}
use native.Mathlib.Numerals.{add-one}
use lib.ListN.{length, get_or, set, length-append, length-set}
use lib.Seq.{get_or-set_same, get_or-set_other}
use lib.Dec.{ltb}
use borrow.Author.Tests.{lt-ltb, le-ltb}
use Rattle.label.specs.Limits.{leaf_mark}
use Rattle.diagram.specs.Sizes.{most_rows}
use Rattle.diagram.specs.Diagram.{Diagram}
use Rattle.diagram.specs.Words.{label_at, high_at, low_at, row_count, is_listing}
use Rattle.diagram.specs.Listing.{diagram_of}
use Rattle.diagram.specs.Validity.{tree}
use Rattle.diagram.specs.Shown.{Shown}
use Rattle.diagram.specs.ListingValid.{listing-is-valid}
use Rattle.diagram.specs.DiagramOfListing.{shown-rows}
use Rattle.answers.specs.Digits.{digits}
use Rattle.answers.specs.DigitLaws.{digits-short}
use Rattle.answering.specs.Wrote.{Wrote}
use Rattle.text.specs.Line.{most_line_bytes, most_open_brackets}
use Rattle.diagram_form.specs.Form.{Tables, form_bytes, form_length, open_brackets, is_too_long}
use Rattle.diagram_form.proofs.FormLaws.{form-length}
use Rattle.spelling.specs.Spelling.{tables_at, measured}
use Rattle.spelling.specs.Parts.{Spelt, test_text, test_bytes, row_text, most_form_bytes, most_form_brackets, held_bytes, held_open, ByteCounts, OpenCounts}
use Rattle.spelling.proofs.TestLaws.{test-within}
use Rattle.spelling.proofs.RowLaws.{spelt-arities, leaf-word, leaf-text, row-parts, high-less, low-less, root-row, root-tree}
use Rattle.std.specs.Prelude.{None, Some}

row-bytes : (ar : List ℕ) (n : Tables) (ws : List ℕ) (i b : ℕ) → length (row_text ar n ws i b) ≡ form_length ar n (tree ws i) + 1
unfolding row_text
row-bytes ar n ws i b = length-append (form_bytes ar n (tree ws i)) (b ∷ []) ∙ ap (λ (k : ℕ). k + 1) (form-length ar n (tree ws i))

-- the bytes of a row

module _ {ar names ws : List ℕ} {constants predicates i : ℕ} (g : Spelt ar names constants predicates ws) (r : i < row_count ws) where
  abbrev N : Tables
  N = tables_at names constants predicates

  module _ (e : get_or ws (i * 3) 0 ≡ leaf_mark) where
    pub leaf-line : 0 + length (digits (get_or ws (i * 3 + 1) 0)) ≤ test_bytes
    leaf-line = omega (arith, digits-short (get_or ws (i * 3 + 1) 0) (leaf-word g r e))

    pub leaf-bytes : {s s' : List ℕ} {q : ℕ} → Wrote s 0 (digits (get_or ws (i * 3 + 1) 0)) q s' → q ≡ held_bytes (form_length ar N (tree ws i))
    leaf-bytes x =
        let m = ap length (leaf-text g r 0 e) ∙ length-append (digits (get_or ws (i * 3 + 1) 0)) (0 ∷ []) in
        omega (arith, row-bytes ar N ws i 0, x.behind, leaf-line)

  module _ (e : get_or ws (i * 3) 0 ≡ leaf_mark → ⊥) where
    abbrev high : ℕ
    high = get_or ws (i * 3 + 1) 0

    abbrev low : ℕ
    low = get_or ws (i * 3 + 2) 0

    abbrev T : List ℕ
    T = test_text ar names constants predicates (get_or ws (i * 3) 0)

    branch-bytes : form_length ar N (tree ws i) ≡ length T + 2 + form_length ar N (tree ws high) + form_length ar N (tree ws low)
    branch-bytes =
        let D : List ℕ = row_text ar N ws high 32 in
        let E : List ℕ = row_text ar N ws low 41 in
        let m = ap length (row-parts g r e 0) in
        omega (
          arith,
          length-append T (D ++ (E ++ (0 ∷ []))),
          length-append D (E ++ (0 ∷ [])),
          length-append E (0 ∷ []),
          row-bytes ar N ws i 0,
          row-bytes ar N ws high 32,
          row-bytes ar N ws low 41,
        )

    pub test-line : 0 + length T ≤ test_bytes
    test-line = omega (arith, test-within ar names constants predicates (get_or ws (i * 3) 0) (spelt-arities g r))

    module _ {s s' : List ℕ} {q : ℕ} (x : Wrote s 0 T q s') where
      pub test-few : q ≤ test_bytes
      test-few = omega (arith, x.behind, test-line)

      module _ {bytes : List ℕ} (c : ByteCounts ar N ws bytes i) where
        high-count : get_or bytes high 0 ≡ held_bytes (form_length ar N (tree ws high))
        high-count = c.each high (high-less g r e)

        low_count : get_or bytes low 0 ≡ held_bytes (form_length ar N (tree ws low))
        low_count = c.each low (low-less g r e)

        pub bytes-sum : {r : ℕ} → r ≡ min (q + 2 + get_or bytes high 0 + get_or bytes low 0) (most_form_bytes + 1) → r ≡ held_bytes (form_length ar N (tree ws i))
        bytes-sum h = omega (arith, branch-bytes, x.behind, high-count, low_count)

  module _ (e : get_or ws (i * 3) 0 ≡ leaf_mark → ⊥) {bytes : List ℕ} (c : ByteCounts ar N ws bytes i) where
    pub high-there : get_or ws (i * 3 + 1) 0 < length bytes
    high-there = omega (arith, high-less g r e, c.room)

    pub low-there : get_or ws (i * 3 + 2) 0 < length bytes
    low-there = omega (arith, low-less g r e, c.room)

    pub high-few : get_or bytes (get_or ws (i * 3 + 1) 0) 0 ≤ most_form_bytes + 1
    high-few = omega (arith, c.each (get_or ws (i * 3 + 1) 0) (high-less g r e))

    pub low-few : get_or bytes (get_or ws (i * 3 + 2) 0) 0 ≤ most_form_bytes + 1
    low-few = omega (arith, c.each (get_or ws (i * 3 + 2) 0) (low-less g r e))

pub spelt-shown : {ar names ws : List ℕ} {constants predicates : ℕ} → Spelt ar names constants predicates ws → Shown ws (row_count ws) (tree ws)
spelt-shown {ar} {names} {ws} g = shown-rows ar ws (listing-is-valid ar ws g.listing)

-- the brackets of a row

held-max : (x y : ℕ) → max (held_open x) (held_open y) ≡ held_open (max x y)
held-max x y = omega arith

module _ {ws : List ℕ} {i : ℕ} (g : Shown ws (row_count ws) (tree ws)) (r : i < row_count ws) where
  pub open-leaf : get_or ws (i * 3) 0 ≡ leaf_mark → 0 ≡ held_open (open_brackets (tree ws i))
  unfolding label_at open_brackets
  open-leaf e = rw (g.leaves i r e)

  module _ (e : get_or ws (i * 3) 0 ≡ leaf_mark → ⊥) where
    open-kids : (get_or ws (i * 3 + 1) 0 < i) × (get_or ws (i * 3 + 2) 0 < i)
    unfolding label_at high_at low_at
    open-kids = g.kids i r e

    open-tree : open_brackets (tree ws i) ≡ suc (max 1 (max (open_brackets (tree ws (get_or ws (i * 3 + 1) 0))) (open_brackets (tree ws (get_or ws (i * 3 + 2) 0)))))
    unfolding label_at high_at low_at open_brackets
    open-tree = rw (g.branches i r e)

    module _ {brackets : List ℕ} (c : OpenCounts ws brackets i) where
      pub open-high : get_or ws (i * 3 + 1) 0 < length brackets
      open-high = omega (arith, open-kids.0, c.room)

      pub open-low : get_or ws (i * 3 + 2) 0 < length brackets
      open-low = omega (arith, open-kids.1, c.room)

      module _ {m most : ℕ} (x : m ≡ max (get_or brackets (get_or ws (i * 3 + 1) 0) 0) (get_or brackets (get_or ws (i * 3 + 2) 0) 0)) (y : most ≡ max m 1) where
        abbrev both : ℕ
        both = max (open_brackets (tree ws (get_or ws (i * 3 + 1) 0))) (open_brackets (tree ws (get_or ws (i * 3 + 2) 0)))

        open-both : m ≡ held_open both
        open-both =
            x ∙ (λ t. max (c.each (get_or ws (i * 3 + 1) 0) open-kids.0 t) (c.each (get_or ws (i * 3 + 2) 0) open-kids.1 t))
            ∙ held-max (open_brackets (tree ws (get_or ws (i * 3 + 1) 0))) (open_brackets (tree ws (get_or ws (i * 3 + 2) 0)))

        pub open_more : {n : ℕ} → n ≡ min most most_form_brackets → n + 1 ≡ held_open (open_brackets (tree ws i))
        open_more {n} h = rw open-tree (more both m open-both y h)
          where
            more : (b k : ℕ) → k ≡ held_open b → most ≡ max k 1 → n ≡ min most most_form_brackets → n + 1 ≡ held_open (suc (max 1 b))
            more b k p q l = omega arith

-- one row more

module _ (P : ℕ → ℕ → Type 0) (s : List ℕ) {i b : ℕ} (h : i < length s) where
  each_more : ((k : ℕ) → k < i → P k (get_or s k 0)) → P i b → (k : ℕ) → k < i + 1 → P k (get_or (set s i b) k 0)
  each_more f p k l =
      ⊎_elim (λ (e : k ≡ i). rw (e, get_or-set_same s i b 0 h) p)
      (λ (m : k < i). rw (get_or-set_other s i k b 0 (λ (e : k ≡ i). omega arith)) (f k m))
      (eq-or-lt_of_le (le_of_suc-le-suc (subst (λ (z : ℕ). k < z) (add-one i) l)))

module _ {ar : List ℕ} {n : Tables} {ws bytes : List ℕ} where
  pub bytes-start : row_count ws ≤ length bytes → ByteCounts ar n ws bytes 0
  bytes-start h = record { room = h; each = λ k l. absurd (omega arith) }

  pub bytes-more : {i b : ℕ} → ByteCounts ar n ws bytes i → i < row_count ws → b ≡ held_bytes (form_length ar n (tree ws i))
      → ByteCounts ar n ws (set bytes i b) (i + 1)
  bytes-more {i} {b} c r e = record {
    room = omega (arith, length-set bytes i b, c.room);
    each = each_more (λ (k v : ℕ). v ≡ held_bytes (form_length ar n (tree ws k))) bytes (omega (arith, c.room)) c.each e;
  }

  pub bytes-done : {i : ℕ} → ByteCounts ar n ws bytes i → i ≤ row_count ws → row_count ws ≤ i → ByteCounts ar n ws bytes (row_count ws)
  bytes-done {i} c h l = let e : i ≡ row_count ws = omega arith in subst (ByteCounts ar n ws bytes) e c

module _ {ws brackets : List ℕ} where
  pub brackets-start : row_count ws ≤ length brackets → OpenCounts ws brackets 0
  brackets-start h = record { room = h; each = λ k l. absurd (omega arith) }

  pub brackets-more : {i b : ℕ} → OpenCounts ws brackets i → i < row_count ws → b ≡ held_open (open_brackets (tree ws i))
      → OpenCounts ws (set brackets i b) (i + 1)
  brackets-more {i} {b} c r e = record {
    room = omega (arith, length-set brackets i b, c.room);
    each = each_more (λ (k v : ℕ). v ≡ held_open (open_brackets (tree ws k))) brackets (omega (arith, c.room)) c.each e;
  }

  pub brackets-done : {i : ℕ} → OpenCounts ws brackets i → i ≤ row_count ws → row_count ws ≤ i → OpenCounts ws brackets (row_count ws)
  brackets-done {i} c h l = let e : i ≡ row_count ws = omega arith in subst (OpenCounts ws brackets) e c

pub rows_few : (ar ws : List ℕ) → is_listing ar ws ≡ true → row_count ws ≤ most_rows
rows_few ar ws l = (listing-is-valid ar ws l).few

-- the root

module _ (ar : List ℕ) (n : Tables) (ws : List ℕ) (l : is_listing ar ws ≡ true) {bytes : List ℕ} (c : ByteCounts ar n ws bytes (row_count ws)) where
  root-bytes : get_or bytes (length ws / 3 - 1) 0 ≡ held_bytes (form_length ar n (diagram_of ws))
  root-bytes = c.each (length ws / 3 - 1) (root-row ar ar ws 0 0 l) ∙ ap (λ (d : Diagram). held_bytes (form_length ar n d)) (root-tree ar ar ws 0 0 l)

  pub too-many-bytes : most_form_bytes < get_or bytes (length ws / 3 - 1) 0 → None ≡ measured ar n (diagram_of ws)
  unfolding measured is_too_long
  too-many-bytes h = rw (lt-ltb most_line_bytes (9 + form_length ar n (diagram_of ws)) (omega (arith, root-bytes)))

  module _ {brackets : List ℕ} (o : OpenCounts ws brackets (row_count ws)) where
    root-open : get_or brackets (length ws / 3 - 1) 0 ≡ held_open (open_brackets (diagram_of ws))
    root-open = o.each (length ws / 3 - 1) (root-row ar ar ws 0 0 l) ∙ ap (λ (d : Diagram). held_open (open_brackets d)) (root-tree ar ar ws 0 0 l)

    module _ (h : get_or bytes (length ws / 3 - 1) 0 ≤ most_form_bytes) where
      bytes_fit : ltb most_line_bytes (9 + form_length ar n (diagram_of ws)) ≡ false
      bytes_fit = le-ltb most_line_bytes (9 + form_length ar n (diagram_of ws)) (omega (arith, root-bytes))

      pub too-many-brackets : most_form_brackets < get_or brackets (length ws / 3 - 1) 0 → None ≡ measured ar n (diagram_of ws)
      unfolding measured is_too_long
      too-many-brackets k = rw (bytes_fit, lt-ltb most_open_brackets (1 + open_brackets (diagram_of ws)) (omega (arith, root-open)))

      pub not-too-many : get_or brackets (length ws / 3 - 1) 0 ≤ most_form_brackets → Some (get_or bytes (length ws / 3 - 1) 0) ≡ measured ar n (diagram_of ws)
      unfolding measured is_too_long
      not-too-many k =
          let e : get_or bytes (length ws / 3 - 1) 0 ≡ form_length ar n (diagram_of ws) = omega (arith, root-bytes) in
          rw (bytes_fit, le-ltb most_open_brackets (1 + open_brackets (diagram_of ws)) (omega (arith, root-open)), e)
