-- Laws of rows written as forms.
use mathlib.Core.Path.{◌≡◌, sym, ap, subst, ◌∙◌}
use mathlib.Core.Bool.{true}
use mathlib.Core.List.{List, [], ◌∷◌, ◌++◌, append_assoc}
use Prim.Native.Nat.{ℕ, pred, ◌+◌, ◌-◌, ◌*◌, ◌/◌, ◌≤◌, ◌<◌}
use native.Mathlib.Omega.{arith}
use lib.ListN.{length, get_or, set, length-append}
use Rattle.label.specs.Limits.{leaf_mark}
use Rattle.label.specs.Labels.{are_arities, is_label, predicate_of}
use Rattle.diagram.specs.Diagram.{Diagram, branch}
use Rattle.diagram.specs.Words.{label_at, high_at, low_at, row_count, is_listing}
use Rattle.diagram.specs.Listing.{diagram_of}
use Rattle.diagram.specs.Validity.{Valid, tree}
use Rattle.diagram.specs.Shown.{Shown}
use Rattle.diagram.specs.ListingValid.{listing-is-valid}
use Rattle.diagram.specs.RowDiagrams.{leaf-row, branch_row}
use Rattle.diagram.specs.DiagramOfListing.{valid-rows, shown-rows, diagram-is}
use Rattle.answers.specs.Digits.{digits}
use Rattle.answers.specs.Inner.{Placed}
use Rattle.answering.specs.Wrote.{Wrote}
use Rattle.answering.proofs.WriteLaws.{wrote_then, one_byte}
use Rattle.answering.proofs.LineLaws.{placed_past, placed-short, placed_at}
use Rattle.diagram_form.specs.Form.{Tables, form_tree, form_bytes, form_length}
use Rattle.diagram_form.proofs.FormLaws.{form-length}
use Rattle.spelling.specs.Spelling.{tables_at, Named, form_line}
use Rattle.spelling.specs.Parts.{Spelt, head_text, places_text, test_text, row_text}
use Rattle.spelling.proofs.TestLaws.{atom-text}
use Rattle.std.specs.Prelude.{None, Some}

-- the form of a branch and a byte behind it, in the parts that are written
branch-shape : (h p d e : List ℕ) (b : ℕ)
    → (40 ∷ 105 ∷ 102 ∷ 32 ∷ ((h ++ (p ++ (41 ∷ []))) ++ 32 ∷ (d ++ 32 ∷ (e ++ 41 ∷ [])))) ++ (b ∷ [])
    ≡ ((40 ∷ 105 ∷ 102 ∷ 32 ∷ []) ++ (h ++ (p ++ (41 ∷ 32 ∷ [])))) ++ ((d ++ (32 ∷ [])) ++ ((e ++ (41 ∷ [])) ++ (b ∷ [])))
branch-shape h p d e b = simp append_assoc

pub branch-text : (ar names : List ℕ) (constants predicates l b : ℕ) (t f : Diagram) → are_arities ar ≡ true
    → form_bytes ar (tables_at names constants predicates) (branch l t f) ++ (b ∷ [])
    ≡ test_text ar names constants predicates l
    ++ ((form_bytes ar (tables_at names constants predicates) t ++ (32 ∷ [])) ++ ((form_bytes ar (tables_at names constants predicates) f ++ (41 ∷ [])) ++ (b ∷ [])))
unfolding form_tree test_text
branch-text ar names constants predicates l b t f a =
    let n : Tables = tables_at names constants predicates in
    rw (atom-text ar names constants predicates l a)
    (branch-shape (head_text names predicates (predicate_of l)) (places_text names constants l (get_or ar (predicate_of l) 0)) (form_bytes ar n t) (form_bytes ar n f) b)

module _ {ar names ws : List ℕ} {constants predicates i : ℕ} (g : Spelt ar names constants predicates ws) (r : i < row_count ws) where
  abbrev N : Tables
  N = tables_at names constants predicates

  valid : Valid ar ws
  valid = listing-is-valid ar ws g.listing

  pub spelt-arities : are_arities ar ≡ true
  spelt-arities = valid.arities

  shows : Shown ws (row_count ws) (tree ws)
  shows = shown-rows ar ws valid

  pub leaf-word : get_or ws (i * 3) 0 ≡ leaf_mark → get_or ws (i * 3 + 1) 0 < 18446744073709551616
  unfolding label_at high_at
  leaf-word e = omega (arith, (leaf-row ar ws (row_count ws) (valid-rows ar ws valid) i r e).value)

  pub leaf-text : (b : ℕ) → get_or ws (i * 3) 0 ≡ leaf_mark → row_text ar N ws i b ≡ digits (get_or ws (i * 3 + 1) 0) ++ (b ∷ [])
  unfolding row_text form_tree label_at high_at
  leaf-text b e = rw (shows.leaves i r e)

  module _ (e : get_or ws (i * 3) 0 ≡ leaf_mark → ⊥) where
    pub row_label : is_label ar (get_or ws (i * 3) 0) ≡ true
    unfolding label_at
    row_label = (branch_row ar ws (row_count ws) (valid-rows ar ws valid) i r e).label

    pub high-less : get_or ws (i * 3 + 1) 0 < i
    unfolding label_at high_at
    high-less = (shows.kids i r e).0

    pub low-less : get_or ws (i * 3 + 2) 0 < i
    unfolding label_at low_at
    low-less = (shows.kids i r e).1

    pub row-tree : tree ws i ≡ branch (get_or ws (i * 3) 0) (tree ws (get_or ws (i * 3 + 1) 0)) (tree ws (get_or ws (i * 3 + 2) 0))
    unfolding label_at high_at low_at
    row-tree = shows.branches i r e

    pub row-parts : (b : ℕ) → row_text ar N ws i b
        ≡ test_text ar names constants predicates (get_or ws (i * 3) 0)
        ++ (row_text ar N ws (get_or ws (i * 3 + 1) 0) 32 ++ (row_text ar N ws (get_or ws (i * 3 + 2) 0) 41 ++ (b ∷ [])))
    unfolding row_text
    row-parts b =
        ap (λ (d : Diagram). form_bytes ar N d ++ (b ∷ [])) row-tree
        ∙ branch-text ar names constants predicates (get_or ws (i * 3) 0) b (tree ws (get_or ws (i * 3 + 1) 0)) (tree ws (get_or ws (i * 3 + 2) 0)) spelt-arities

-- a leaf

module _ (s : List ℕ) (place b : ℕ) {ar names ws : List ℕ} {constants predicates i : ℕ} (g : Spelt ar names constants predicates ws) (r : i < row_count ws)
    (room : place + length (row_text ar (tables_at names constants predicates) ws i b) ≤ length s) where
  module _ (e : get_or ws (i * 3) 0 ≡ leaf_mark) where
    leaf-length : length (row_text ar (tables_at names constants predicates) ws i b) ≡ length (digits (get_or ws (i * 3 + 1) 0)) + 1
    leaf-length = ap length (leaf-text g r b e) ∙ length-append (digits (get_or ws (i * 3 + 1) 0)) (b ∷ [])

    pub leaf_room : place + length (digits (get_or ws (i * 3 + 1) 0)) ≤ length s
    leaf_room = omega (arith, leaf-length)

    module _ {s₁ : List ℕ} {q : ℕ} (x : Wrote s place (digits (get_or ws (i * 3 + 1) 0)) q s₁) (k : length s₁ ≡ length s) where
      pub leaf-below : q < length s₁
      leaf-below = omega (arith, leaf-length, x.behind)

      pub leaf-wrote : Wrote s place (row_text ar (tables_at names constants predicates) ws i b) (q + 1) (set s₁ q b)
      leaf-wrote = rw (leaf-text g r b e) (wrote_then (omega (arith, leaf-below)) x (one_byte s₁ q b leaf-below))

  -- a branch

  module _ (e : get_or ws (i * 3) 0 ≡ leaf_mark → ⊥) where
    abbrev T : List ℕ
    T = test_text ar names constants predicates (get_or ws (i * 3) 0)

    abbrev D : List ℕ
    D = row_text ar (tables_at names constants predicates) ws (get_or ws (i * 3 + 1) 0) 32

    abbrev E : List ℕ
    E = row_text ar (tables_at names constants predicates) ws (get_or ws (i * 3 + 2) 0) 41

    row-length : length (row_text ar (tables_at names constants predicates) ws i b) ≡ length T + (length D + (length E + 1))
    row-length = ap length (row-parts g r e b) ∙ omega (arith, length-append T (D ++ (E ++ (b ∷ []))), length-append D (E ++ (b ∷ [])), length-append E (b ∷ []))

    pub test-room : place + length T ≤ length s
    test-room = omega (arith, row-length)

    module _ {s₁ : List ℕ} {j : ℕ} (x : Wrote s place T j s₁) (k₁ : length s₁ ≡ length s) where
      pub high-room : j + length D ≤ length s₁
      high-room = omega (arith, row-length, x.behind)

      module _ {s₂ : List ℕ} {k : ℕ} (y : Wrote s₁ j D k s₂) (k₂ : length s₂ ≡ length s₁) where
        pub low-room : k + length E ≤ length s₂
        low-room = omega (arith, row-length, x.behind, y.behind)

        module _ {s₃ : List ℕ} {l : ℕ} (z : Wrote s₂ k E l s₃) (k₃ : length s₃ ≡ length s₂) where
          pub end_below : l < length s₃
          end_below = omega (arith, row-length, x.behind, y.behind, z.behind)

          pub row_wrote : Wrote s place (row_text ar (tables_at names constants predicates) ws i b) (l + 1) (set s₃ l b)
          row_wrote =
              let m = row-length in
              let c : j ≤ length s = omega (arith, x.behind) in
              let f : k ≤ length s₁ = omega (arith, x.behind, y.behind) in
              let h : l ≤ length s₂ = omega (arith, x.behind, y.behind, z.behind) in
              rw (row-parts g r e b) (wrote_then c x (wrote_then f y (wrote_then h z (one_byte s₃ l b end_below))))

-- the root

pub spelt : {ar names ws : List ℕ} {constants predicates : ℕ} → is_listing ar ws ≡ true → Named names constants predicates → Spelt ar names constants predicates ws
spelt l n = record { listing = l; named = n }

module _ (ar names ws : List ℕ) (constants predicates : ℕ) (l : is_listing ar ws ≡ true) where
  pub some-row : 1 ≤ row_count ws
  some-row = (listing-is-valid ar ws l).some

  pub root-row : length ws / 3 - 1 < row_count ws
  root-row = omega (arith, some-row)

  pub root-tree : tree ws (length ws / 3 - 1) ≡ diagram_of ws
  root-tree =
      let e : pred (row_count ws) ≡ length ws / 3 - 1 = omega arith in
      ap (tree ws) (sym e) ∙ sym (diagram-is ar ws (listing-is-valid ar ws l))

  pub root-text : row_text ar (tables_at names constants predicates) ws (length ws / 3 - 1) 10 ≡ form_line ar (tables_at names constants predicates) (diagram_of ws)
  unfolding row_text
  root-text = ap (λ (d : Diagram). form_bytes ar (tables_at names constants predicates) d ++ (10 ∷ [])) root-tree

  line-length : length (form_line ar (tables_at names constants predicates) (diagram_of ws)) ≡ form_length ar (tables_at names constants predicates) (diagram_of ws) + 1
  line-length =
      let n : Tables = tables_at names constants predicates in
      length-append (form_bytes ar n (diagram_of ws)) (10 ∷ []) ∙ ap (λ (k : ℕ). k + 1) (form-length ar n (diagram_of ws))

  pub root-room : (s : List ℕ) (place : ℕ) → place + form_length ar (tables_at names constants predicates) (diagram_of ws) + 1 ≤ length s
      → place + length (row_text ar (tables_at names constants predicates) ws (length ws / 3 - 1) 10) ≤ length s
  root-room s place h = rw root-text (omega (arith, line-length))

  pub root-wrote : {s s' : List ℕ} {place r : ℕ} → Wrote s place (row_text ar (tables_at names constants predicates) ws (length ws / 3 - 1) 10) r s'
      → Wrote s place (form_line ar (tables_at names constants predicates) (diagram_of ws)) r s'
  root-wrote {s} {s'} {place} {r} x = subst (λ (w : List ℕ). Wrote s place w r s') root-text x

  -- put where there is room

  module _ (s : List ℕ) (place : ℕ) {n : ℕ} (e : n ≡ form_length ar (tables_at names constants predicates) (diagram_of ws)) where
    pub form-past : length s < place → Placed s place (form_line ar (tables_at names constants predicates) (diagram_of ws)) None s
    form-past h = placed_past s (form_line ar (tables_at names constants predicates) (diagram_of ws)) h

    pub form-full : place ≤ length s → length s - place ≤ n → Placed s place (form_line ar (tables_at names constants predicates) (diagram_of ws)) None s
    form-full h k = placed-short s (form_line ar (tables_at names constants predicates) (diagram_of ws)) h (omega (arith, line-length))

    pub form-at : {s' : List ℕ} {r : ℕ} → place ≤ length s → n < length s - place → Wrote s place (form_line ar (tables_at names constants predicates) (diagram_of ws)) r s'
        → Placed s place (form_line ar (tables_at names constants predicates) (diagram_of ws)) (Some r) s'
    form-at h k x = placed_at h (omega (arith, line-length)) x
