-- Laws of `rename`: a listing renamed where it stands is the listing of the renamed diagram.
use mathlib.Core.Path.{◌≡◌, refl, sym, ap, ap₂, ◌∙◌}
use mathlib.Core.List.{List, ◌++◌, map}
use Prim.Native.Nat.{ℕ, ◌+◌, ◌*◌, ◌<◌, ◌≤◌, zero-le}
use native.Mathlib.Omega.{arith}
use borrow.Author.Tests.{eq-eqb, ne_eqb}
use lib.ListN.{length, get_or, set, take, drop, length-set, length-map, take-append-drop}
use lib.Seq.{get_or-set_same, get_or-set_other, drop-set-lt, length-take-le, get_or-take}
use Rattle.basics.specs.Tests.{Cmp, cmp, below, equal, above}
use Rattle.label.specs.Limits.{leaf_mark}
use Rattle.label.specs.Inner.{map_of}
use Rattle.label.specs.Renamings.{renamed}
use Rattle.label.specs.Callers.{Movable}
use Rattle.label.proofs.CodeLaws.{under_all}
use Rattle.diagram.specs.Sizes.{most_rows}
use Rattle.diagram.specs.Diagram.{Diagram, leaf, branch, relabel}
use Rattle.diagram.specs.Rows.{rows}
use Rattle.diagram.specs.Words.{label_at, high_at, low_at, row_count, up_to}
use Rattle.diagram.specs.WordLaws.{length-up_to, get_d_map}
use Rattle.diagram.specs.Listing.{index, listing}
use Rattle.diagram.specs.ListingLaws.{get_d-index, index-less}
use Rattle.diagram.specs.Listings.{listing-written}
use Rattle.diagram.specs.ListingValid.{listing-is-valid}
use Rattle.diagram.specs.Validity.{Valid, tree}
use Rattle.diagram.specs.DiagramOfListing.{valid-rows, rows_are}
use Rattle.diagram.specs.RowDiagrams.{branch_row}
use Rattle.diagram.specs.Inner.{Written, Encoded, Kept, Earlier}
use Rattle.diagram.specs.RowLists.{row_tree}
use Rattle.diagram.specs.RowLaws.{rows-kept, kept-index-is}
use Rattle.diagram.specs.WrittenRows.{written-listing-words, leaf-words, branch-words}
use Rattle.store.specs.Load.{renamed_of}
use Rattle.store.proofs.LoadLaws.{renamed-below}
use Rattle.write.specs.Renaming.{listed_in, word_after, Word, Renamable}

-- the laws of `word_after`
word-mark : (ar ts : List ℕ) (x : ℕ) → x ≡ leaf_mark → word_after ar ts x ≡ leaf_mark
unfolding word_after
word-mark ar ts x e = rw (eq-eqb x leaf_mark e)

word-label : (ar ts : List ℕ) (x : ℕ) → (x ≡ leaf_mark → ⊥) → word_after ar ts x ≡ renamed ar (map_of ts) x
unfolding word_after
word-label ar ts x e = rw (ne_eqb x leaf_mark e)

pub word-leaf : (ar ts : List ℕ) {x : ℕ} → x ≡ leaf_mark → x ≡ word_after ar ts x
word-leaf ar ts {x} e = e ∙ sym (word-mark ar ts x e)

pub word-branch : (ar ts : List ℕ) {x r : ℕ} → (x ≡ leaf_mark → ⊥) → r ≡ renamed ar (map_of ts) x → r ≡ word_after ar ts x
word-branch ar ts {x} e p = p ∙ sym (word-label ar ts x e)

pub word-movable : {ar ts : List ℕ} {x : ℕ} → Word ar ts x → (x ≡ leaf_mark → ⊥) → Movable ar ts x
word-movable w e = w.movable e

-- words of rows
module _ (ws : List ℕ) (n k : ℕ) (h : k < n) where
  take-label : label_at (take (n * 3) ws) k ≡ label_at ws k
  unfolding label_at
  take-label = get_or-take (n * 3) ws (k * 3) 0 (omega arith)

  take-high : high_at (take (n * 3) ws) k ≡ high_at ws k
  unfolding high_at
  take-high = get_or-take (n * 3) ws (k * 3 + 1) 0 (omega arith)

  take-low : low_at (take (n * 3) ws) k ≡ low_at ws k
  unfolding low_at
  take-low = get_or-take (n * 3) ws (k * 3 + 2) 0 (omega arith)

module _ (ws : List ℕ) (i v : ℕ) where
  set-label : i * 3 < length ws → label_at (set ws (i * 3) v) i ≡ v
  unfolding label_at
  set-label h = get_or-set_same ws (i * 3) v 0 h

  set-others : (k : ℕ) → (k ≡ i → ⊥) → label_at (set ws (i * 3) v) k ≡ label_at ws k
  unfolding label_at
  set-others k n = get_or-set_other ws (i * 3) (k * 3) v 0 (λ e. n (omega arith))

  set-high : (k : ℕ) → high_at (set ws (i * 3) v) k ≡ high_at ws k
  unfolding high_at
  set-high k = get_or-set_other ws (i * 3) (k * 3 + 1) v 0 (λ e. omega arith)

  set-low : (k : ℕ) → low_at (set ws (i * 3) v) k ≡ low_at ws k
  unfolding low_at
  set-low k = get_or-set_other ws (i * 3) (k * 3 + 2) v 0 (λ e. omega arith)

-- the loop of `rename`: the labels of the first i rows are renamed
pub record Renaming (ar ts out₀ out : List ℕ) (m i : ℕ) : Type 0 where
  pub below : i ≤ m
  pub few : m ≤ most_rows
  pub room : m * 3 ≤ length out
  pub done : (k : ℕ) → k < i → label_at out k ≡ word_after ar ts (label_at out₀ k)
  pub later : (k : ℕ) → i ≤ k → label_at out k ≡ label_at out₀ k
  pub high : (k : ℕ) → high_at out k ≡ high_at out₀ k
  pub low : (k : ℕ) → low_at out k ≡ low_at out₀ k
  pub rest : drop (m * 3) out ≡ drop (m * 3) out₀

module _ {ar ts out₀ : List ℕ} {m : ℕ} (g : Renamable ar ts out₀ m) where
  abbrev Ws : List ℕ
  Ws = take (m * 3) out₀

  valid : Valid ar Ws
  valid = listing-is-valid ar Ws g.listing

  count-is : row_count Ws ≡ m
  count-is = omega (arith, length-take-le (m * 3) out₀ g.room)

  pub rename-start : Renaming ar ts out₀ out₀ m 0
  rename-start = record {
    below = zero-le;
    few = omega (arith, count-is, valid.few);
    room = g.room;
    done = λ k h. absurd (omega arith);
    later = λ k h. refl;
    high = λ k. refl;
    low = λ k. refl;
    rest = refl;
  }

  label-movable : (k : ℕ) → k < m → (label_at out₀ k ≡ leaf_mark → ⊥) → Movable ar ts (label_at out₀ k)
  label-movable k h e =
      let t = take-label out₀ m k h in
      let b = branch_row ar Ws (row_count Ws) (valid-rows ar Ws valid) k (omega (arith, count-is)) (λ q. e (sym t ∙ q)) in
      record { arities = under_all ar (sym valid.arities) refl; terms = g.terms; label = rw t at b.label }

  module _ {out : List ℕ} {i : ℕ} (r : Renaming ar ts out₀ out m i) where
    pub rename-word : i < m → Word ar ts (get_or out (i * 3) 0)
    unfolding label_at
    rename-word h = rw (r.later i (omega arith)) (record { movable = label-movable i h })

    pub rename-on : i < m → {x : ℕ} → x ≡ word_after ar ts (get_or out (i * 3) 0) → Renaming ar ts out₀ (set out (i * 3) x) m (i + 1)
    unfolding label_at
    rename-on h {x} p = record {
      below = omega arith;
      few = r.few;
      room = rw length-set r.room;
      done = λ k l. on k l (cmp k i);
      later = λ k l. set-others out i x k (λ e. omega arith) ∙ r.later k (omega arith);
      high = λ k. set-high out i x k ∙ r.high k;
      low = λ k. set-low out i x k ∙ r.low k;
      rest = drop-set-lt (m * 3) out (i * 3) x (omega arith) ∙ r.rest;
    }
      where
        on : (k : ℕ) → k < i + 1 → Cmp k i → label_at (set out (i * 3) x) k ≡ word_after ar ts (label_at out₀ k)
        on k l (below q) = set-others out i x k (λ e. omega arith) ∙ r.done k q
        on k l (equal q) = rw q (set-label out i x (omega (arith, r.room)) ∙ p ∙ ap (word_after ar ts) (r.later i (omega arith)))
        on k l (above q) = absurd (omega arith)

  abbrev G : Diagram → Diagram
  G = renamed_of ar ts

  abbrev R : List Diagram
  R = rows (listed_in out₀ m)

  length_R : length R ≡ m
  length_R = ap length (rows_are ar Ws valid) ∙ length-map (up_to (row_count Ws)) (tree Ws) ∙ length-up_to (row_count Ws) ∙ count-is

  length-G : length (map G R) ≡ m
  length-G = length-map R G ∙ length_R

  old : Written Ws R
  old = listing-written ar Ws g.listing

  renamed-row : (k : ℕ) → k < m → row_tree (map G R) k ≡ G (row_tree R k)
  renamed-row k h = get_d_map G R k (leaf 0) (leaf 0) (omega (arith, length_R))

  renamed-kept : Kept (map G R)
  renamed-kept = rw g.keeps at (rows-kept (G (listed_in out₀ m)))

  renamed-index : (k : ℕ) (t : Diagram) → Earlier R k t → index (G t) (map G R) ≡ index t R
  renamed-index k t e =
      let l = index-less t R e.is_row in
      kept-index-is (map G R) (index t R) (G t) renamed-kept (omega (arith, length_R, length-G))
      (renamed-row (index t R) (omega (arith, length_R)) ∙ ap G (get_d-index t R (leaf 0) e.is_row))

  -- the label of a branch row
  module _ (k l : ℕ) (t f : Diagram) (h : k < m) (q : row_tree R k ≡ branch l t f) where
    in-R : k < length R
    in-R = omega (arith, length_R)

    first-words : (label_at Ws k ≡ l) × (high_at Ws k ≡ index t R) × (low_at Ws k ≡ index f R)
    first-words = branch-words Ws R old k l t f in-R q

    label_is : label_at out₀ k ≡ l
    label_is = sym (take-label out₀ m k h) ∙ first-words.0

    not-leaf : label_at out₀ k ≡ leaf_mark → ⊥
    not-leaf e = let z = old.labels k l t f in-R q in omega (arith, label_is)

    label-renamed : renamed ar (map_of ts) l < leaf_mark
    label-renamed = renamed-below ar ts l (rw label_is at (label-movable k h not-leaf))

  module _ {out : List ℕ} {i : ℕ} (r : Renaming ar ts out₀ out m i) (h : m ≤ i) where
    new : Written out (map G R)
    unfolding relabel
    new = record { kept = renamed-kept; labels = ls; words = ns }
      where
        ls : (k l : ℕ) (t f : Diagram) → k < length (map G R) → row_tree (map G R) k ≡ branch l t f → l < leaf_mark
        ls k l t f p e = go (row_tree R k) refl
          where
            in-m : k < m
            in-m = omega (arith, length-G)

            go : (x : Diagram) → row_tree R k ≡ x → l < leaf_mark
            go (leaf v) q =
                let y : leaf v ≡ branch l t f = sym (renamed-row k in-m ∙ ap G q) ∙ e in
                absurd (let z : ◌≡◌ {A = ℕ} 0 1 = cc in omega arith)
            go (branch l₀ t₀ f₀) q =
                let y : branch (renamed ar (map_of ts) l₀) (G t₀) (G f₀) ≡ branch l t f = sym (renamed-row k in-m ∙ ap G q) ∙ e in
                let z : renamed ar (map_of ts) l₀ ≡ l = cc in
                rw (← z) (label-renamed k l₀ t₀ f₀ in-m q)

        ns : (k : ℕ) → k < length (map G R) → Encoded (map G R) (row_tree (map G R) k) (label_at out k) (high_at out k) (low_at out k)
        ns k p = rw (renamed-row k in-m) (go (row_tree R k) refl)
          where
            in-m : k < m
            in-m = omega (arith, length-G)

            go : (x : Diagram) → row_tree R k ≡ x → Encoded (map G R) (G (row_tree R k)) (label_at out k) (high_at out k) (low_at out k)
            go (leaf v) q =
                let w = leaf-words Ws R old k v (omega (arith, length_R, in-m)) q in
                rw q (
                  r.done k (omega (arith, in-m)) ∙ word-mark ar ts (label_at out₀ k) (sym (take-label out₀ m k in-m) ∙ w.0),
                  r.high k ∙ sym (take-high out₀ m k in-m) ∙ w.1,
                  r.low k ∙ sym (take-low out₀ m k in-m) ∙ w.2,
                )
            go (branch l t f) q =
                let w = first-words k l t f in-m q in
                let c = old.kept.children k l t f (omega (arith, length_R, in-m)) q in
                rw q (
                  r.done k (omega (arith, in-m)) ∙ word-label ar ts (label_at out₀ k) (not-leaf k l t f in-m q) ∙ ap (renamed ar (map_of ts)) (label_is k l t f in-m q),
                  r.high k ∙ sym (take-high out₀ m k in-m) ∙ w.1 ∙ sym (renamed-index k t c.0),
                  r.low k ∙ sym (take-low out₀ m k in-m) ∙ w.2 ∙ sym (renamed-index k f c.1),
                )

    pub rename-end : out ≡ listing (renamed_of ar ts (listed_in out₀ m)) ++ drop (m * 3) out₀
    rename-end =
        let n : length (rows (G (listed_in out₀ m))) ≡ m = ap length g.keeps ∙ length-G in
        let w : Written out (rows (G (listed_in out₀ m))) = rw g.keeps new in
        let t = written-listing-words out (G (listed_in out₀ m)) w (omega (arith, n, r.room)) in
        sym (take-append-drop (m * 3) out) ∙ ap₂ ◌++◌ (rw n at t) r.rest
