-- Laws of rows that stand in words: they are shown; a row is added at the end; equal rows are found by their words.
use Rattle.std.specs.Prelude.{◌≡◌, refl, ◌≢◌, true, false, List, [], ◌∷◌, ◌++◌, map, ℕ, zero, suc, ◌*◌, ◌≤◌, ◌<◌, length, get_or, take}
use Rattle.std.proofs.Common.{ap, ap₂, sym, ◌∙◌, arith, length-append, take_all, take-suc}
use Rattle.std.proofs.Math.ListN.{get_or-append}
use Rattle.std.proofs.lemmas.List.{get_or_at}
use Rattle.basics.specs.Tests.{Flag, is_true, is_false, flag, Cmp, cmp, below, equal, above}
use Rattle.basics.specs.Members.{mem}
use Rattle.label.specs.Limits.{leaf_mark}
use Rattle.diagram.specs.Diagram.{Diagram, leaf, branch, same}
use Rattle.diagram.specs.Rows.{rows}
use Rattle.diagram.specs.Words.{label_at, high_at, low_at, up_to}
use Rattle.diagram.specs.WordLaws.{map_snoc}
use Rattle.diagram.specs.Listing.{index, encode, listing}
use Rattle.diagram.specs.Inner.{Earlier, Kept, Encoded, Written, SameRows}
use Rattle.diagram.specs.RowLists.{row_tree}
use Rattle.diagram.specs.ListingLaws.{get_d-index, index-less, index-append}
use Rattle.diagram.specs.RowLaws.{kept-none, kept-leaf, kept-branch, kept-index}
use Rattle.diagram.specs.Shown.{Shown, words_are}

all-places : (rs : List Diagram) (d : Diagram) (n : ℕ) → n ≤ length rs → map (λ k. get_or rs k d) (up_to n) ≡ take n rs
all-places rs d zero h = refl
all-places rs d (suc n) h = rw (map_snoc (λ k. get_or rs k d) (up_to n) n, all-places rs d n (omega arith)) (sym (take-suc rs n d (omega arith)))

-- every row, by its number
pub rows-places : (rs : List Diagram) → map (row_tree rs) (up_to (length rs)) ≡ rs
rows-places rs = all-places rs (leaf 0) (length rs) (omega arith) ∙ take_all (length rs) rs (omega arith)

module _ (ws : List ℕ) (rs : List Diagram) (w : Written ws rs) where
  -- a child is found by its number
  pub child-number : (k : ℕ) (x : Diagram) → Earlier rs k x → row_tree rs (index x rs) ≡ x
  child-number k x e = get_d-index x rs (leaf 0) e.is_row

  pub written-shown : Shown ws (length rs) (row_tree rs)
  written-shown = record { leaves = lv; branches = br; kids = ks; inj = w.kept.distinct }
    where
      lv : (k : ℕ) → k < length rs → label_at ws k ≡ leaf_mark → row_tree rs k ≡ leaf (high_at ws k)
      lv k h e = go (row_tree rs k) refl (w.words k h)
        where
          go : (x : Diagram) → row_tree rs k ≡ x → Encoded rs x (label_at ws k) (high_at ws k) (low_at ws k) → row_tree rs k ≡ leaf (high_at ws k)
          go (leaf v) q n = q ∙ ap leaf (sym n.1)
          go (branch l t f) q n = let z = w.labels k l t f h q in absurd (omega (arith, n.0))

      br : (k : ℕ) → k < length rs → label_at ws k ≢ leaf_mark → row_tree rs k ≡ branch (label_at ws k) (row_tree rs (high_at ws k)) (row_tree rs (low_at ws k))
      br k h e = go (row_tree rs k) refl (w.words k h)
        where
          go : (x : Diagram) → row_tree rs k ≡ x → Encoded rs x (label_at ws k) (high_at ws k) (low_at ws k)
              → row_tree rs k ≡ branch (label_at ws k) (row_tree rs (high_at ws k)) (row_tree rs (low_at ws k))
          go (leaf v) q n = absurd (e n.0)
          go (branch l t f) q n =
              let z = w.kept.children k l t f h q in
              rw (n.0, n.1, n.2) (q ∙ ap₂ (branch l) (sym (child-number k t z.0)) (sym (child-number k f z.1)))

      ks : (k : ℕ) → k < length rs → label_at ws k ≢ leaf_mark → (high_at ws k < k) × (low_at ws k < k)
      ks k h e = go (row_tree rs k) refl (w.words k h)
        where
          go : (x : Diagram) → row_tree rs k ≡ x → Encoded rs x (label_at ws k) (high_at ws k) (low_at ws k) → (high_at ws k < k) × (low_at ws k < k)
          go (leaf v) q n = absurd (e n.0)
          go (branch l t f) q n = let z = w.kept.children k l t f h q in rw (n.1, n.2) (z.0.before, z.1.before)

  -- the words are the encoding of the rows
  pub written-words : length rs * 3 ≤ length ws → encode rs rs ≡ take (length rs * 3) ws
  written-words h =
      ap₂ encode (sym (rows-places rs)) (sym (rows-places rs)) ∙ words_are ws (length rs) (row_tree rs) written-shown (length rs) (omega arith) h third
    where
      third : (k : ℕ) → k < length rs → label_at ws k ≡ leaf_mark → low_at ws k ≡ 0
      third k l e = go (row_tree rs k) refl (w.words k l)
        where
          go : (x : Diagram) → row_tree rs k ≡ x → Encoded rs x (label_at ws k) (high_at ws k) (low_at ws k) → low_at ws k ≡ 0
          go (leaf v) q n = n.2
          go (branch a t f) q n = let z = w.labels k a t f l q in absurd (omega (arith, n.0))

  -- the words of a row, by its diagram
  pub leaf-words : (k v : ℕ) → k < length rs → row_tree rs k ≡ leaf v → (label_at ws k ≡ leaf_mark) × (high_at ws k ≡ v) × (low_at ws k ≡ 0)
  leaf-words k v h e = let n : Encoded rs (leaf v) (label_at ws k) (high_at ws k) (low_at ws k) = rw e at (w.words k h) in n

  pub branch-words : (k l : ℕ) (t f : Diagram) → k < length rs → row_tree rs k ≡ branch l t f
      → (label_at ws k ≡ l) × (high_at ws k ≡ index t rs) × (low_at ws k ≡ index f rs)
  branch-words k l t f h e = let n : Encoded rs (branch l t f) (label_at ws k) (high_at ws k) (low_at ws k) = rw e at (w.words k h) in n

  -- a row that has the words of a leaf or branch is it
  pub leaf-found : (k v : ℕ) → k < length rs → label_at ws k ≡ leaf_mark → high_at ws k ≡ v → row_tree rs k ≡ leaf v
  leaf-found k v h p q = written-shown.leaves k h p ∙ ap leaf q

  pub branch-found : (k l a b : ℕ) → k < length rs → l < leaf_mark → label_at ws k ≡ l → high_at ws k ≡ a → low_at ws k ≡ b
      → row_tree rs k ≡ branch l (row_tree rs a) (row_tree rs b)
  branch-found k l a b h m p q r =
      written-shown.branches k h (λ e. let z = sym p ∙ e in omega arith) ∙ (λ t. branch (p t) (row_tree rs (q t)) (row_tree rs (r t)))

  -- where no row has these words, the leaf or branch is no row
  pub leaf-missing : (v : ℕ) → ((k : ℕ) → k < length rs → label_at ws k ≡ leaf_mark → high_at ws k ≡ v → low_at ws k ≡ 0 → ⊥)
      → mem same (leaf v) rs ≡ false
  leaf-missing v h = go (flag (mem same (leaf v) rs))
    where
      go : Flag (mem same (leaf v) rs) → mem same (leaf v) rs ≡ false
      go (is_true e) =
          let l = index-less (leaf v) rs e in
          let n = leaf-words (index (leaf v) rs) v l (get_d-index (leaf v) rs (leaf 0) e) in
          absurd (h (index (leaf v) rs) l n.0 n.1 n.2)
      go (is_false e) = e

  pub branch-missing : (l a b : ℕ) → a < length rs → b < length rs
      → ((k : ℕ) → k < length rs → label_at ws k ≡ l → high_at ws k ≡ a → low_at ws k ≡ b → ⊥)
      → mem same (branch l (row_tree rs a) (row_tree rs b)) rs ≡ false
  branch-missing l a b ha hb h = go (flag (mem same (branch l (row_tree rs a) (row_tree rs b)) rs))
    where
      go : Flag (mem same (branch l (row_tree rs a) (row_tree rs b)) rs) → mem same (branch l (row_tree rs a) (row_tree rs b)) rs ≡ false
      go (is_true e) =
          let x = branch l (row_tree rs a) (row_tree rs b) in
          let m = index-less x rs e in
          let n = branch-words (index x rs) l (row_tree rs a) (row_tree rs b) m (get_d-index x rs (leaf 0) e) in
          absurd (h (index x rs) m n.0 (n.1 ∙ kept-index rs a w.kept ha) (n.2 ∙ kept-index rs b w.kept hb))
      go (is_false e) = e

-- the rows of a diagram in words: the words are its listing
pub written-listing-words : (ws : List ℕ) (d : Diagram) → Written ws (rows d) → length (rows d) * 3 ≤ length ws → take (length (rows d) * 3) ws ≡ listing d
unfolding listing
written-listing-words ws d w h = sym (written-words ws (rows d) w h)

pub written_none : (ws : List ℕ) → Written ws []
written_none ws = record { kept = kept-none; labels = λ k l t f h e. absurd (omega arith); words = λ k h. absurd (omega arith) }

-- the numbers of children stay where rows are added
encoded-more : (rs more : List Diagram) (x : Diagram) (a b c : ℕ)
    → ((l : ℕ) (t f : Diagram) → x ≡ branch l t f → (mem same t rs ≡ true) × (mem same f rs ≡ true))
    → Encoded rs x a b c → Encoded (rs ++ more) x a b c
encoded-more rs more (leaf v) a b c m n = n
encoded-more rs more (branch l t f) a b c m n =
    let z = m l t f refl in
    (n.0, n.1 ∙ sym (index-append t rs more z.0), n.2 ∙ sym (index-append f rs more z.1))

module _ (ws us : List ℕ) (rs : List Diagram) (x : Diagram) (w : Written ws rs) (s : SameRows ws us (length rs)) (k' : Kept (rs ++ (x ∷ [])))
    (lx : (l : ℕ) (t f : Diagram) → x ≡ branch l t f → l < leaf_mark)
    (nx : Encoded (rs ++ (x ∷ [])) x (label_at us (length rs)) (high_at us (length rs)) (low_at us (length rs))) where
  written-more : Written us (rs ++ (x ∷ []))
  written-more = record { kept = k'; labels = ls; words = ns }
    where
      many : length (rs ++ (x ∷ [])) ≡ suc (length rs)
      many = omega (arith, length-append rs (x ∷ []))

      ls : (k l : ℕ) (t f : Diagram) → k < length (rs ++ (x ∷ [])) → get_or (rs ++ (x ∷ [])) k (leaf 0) ≡ branch l t f → l < leaf_mark
      ls k l t f h e = go (cmp k (length rs))
        where
          go : Cmp k (length rs) → l < leaf_mark
          go (below p) = w.labels k l t f p (sym (get_or-append rs (x ∷ []) (leaf 0) k p) ∙ e)
          go (equal p) = lx l t f (sym (get_or_at rs x [] (leaf 0) k (sym p)) ∙ e)
          go (above p) = absurd (omega (arith, many))

      ns : (k : ℕ) → k < length (rs ++ (x ∷ [])) → Encoded (rs ++ (x ∷ [])) (get_or (rs ++ (x ∷ [])) k (leaf 0)) (label_at us k) (high_at us k) (low_at us k)
      ns k h = go (cmp k (length rs))
        where
          go : Cmp k (length rs) → Encoded (rs ++ (x ∷ [])) (get_or (rs ++ (x ∷ [])) k (leaf 0)) (label_at us k) (high_at us k) (low_at us k)
          go (below p) =
              rw (get_or-append rs (x ∷ []) (leaf 0) k p, s.label k p, s.high k p, s.low k p)
              (encoded-more rs (x ∷ []) (get_or rs k (leaf 0)) (label_at ws k) (high_at ws k) (low_at ws k)
              (λ l t f e. let z = w.kept.children k l t f p e in (z.0.is_row, z.1.is_row)) (w.words k p))
          go (equal p) = rw (get_or_at rs x [] (leaf 0) k (sym p), p) nx
          go (above p) = absurd (omega (arith, many))

-- a leaf, a branch written behind the rows
pub written-leaf : (ws us : List ℕ) (rs : List Diagram) (v : ℕ) → Written ws rs → SameRows ws us (length rs) → mem same (leaf v) rs ≡ false
    → label_at us (length rs) ≡ leaf_mark → high_at us (length rs) ≡ v → low_at us (length rs) ≡ 0 → Written us (rs ++ (leaf v ∷ []))
written-leaf ws us rs v w s n p q r =
    written-more ws us rs (leaf v) w s (kept-leaf rs v w.kept n) (λ l t f e. absurd (let z : ◌≡◌ {A = ℕ} 0 1 = cc in omega arith)) (p, q, r)

pub written-branch : (ws us : List ℕ) (rs : List Diagram) (l : ℕ) (t f : Diagram) → Written ws rs → SameRows ws us (length rs)
    → mem same (branch l t f) rs ≡ false → l < leaf_mark → mem same t rs ≡ true → mem same f rs ≡ true
    → label_at us (length rs) ≡ l → high_at us (length rs) ≡ index t rs → low_at us (length rs) ≡ index f rs → Written us (rs ++ (branch l t f ∷ []))
written-branch ws us rs l t f w s n m mt mf p q r =
    written-more ws us rs (branch l t f) w s (kept-branch rs l t f w.kept n mt mf)
    (λ k u g e. let z : l ≡ k = cc in omega arith)
    (p, q ∙ sym (index-append t rs (branch l t f ∷ []) mt), r ∙ sym (index-append f rs (branch l t f ∷ []) mf))
