-- Laws of the decoder, of row numbers and of the encoder.
use Rattle.std.specs.Prelude.{◌≡◌, refl, ◌≢◌, true, false, List, [], ◌∷◌, ◌++◌, length, get_or}
use Rattle.std.proofs.Common.{ap, sym, ne_eqb, eq-eqb}
use Prim.Native.Nat.{ℕ, zero, suc, ◌+◌, ◌*◌, ◌<◌}
use native.Mathlib.Omega.{arith}
use Rattle.basics.specs.Tests.{Flag, is_true, is_false, flag, or-one, or-other}
use Rattle.basics.specs.Members.{mem, clash}
use Rattle.label.specs.Limits.{leaf_mark}
use Rattle.diagram.specs.Diagram.{Diagram, leaf, branch, same}
use Rattle.diagram.specs.DiagramLaws.{same-eq, same_refl}
use Rattle.diagram.specs.Rows.{rows}
use Rattle.diagram.specs.Words.{label_at, high_at, low_at}
use Rattle.diagram.specs.Inner.{Encoded}
use Rattle.diagram.specs.Listing.{index, encode, listing, tree_at}

-- the laws of `tree_at`: nothing else unfolds it
pub tree-leaf : (ws : List ℕ) (n i : ℕ) → label_at ws i ≡ leaf_mark → tree_at ws (suc n) i ≡ leaf (high_at ws i)
unfolding tree_at
tree-leaf ws n i h = rw (eq-eqb (label_at ws i) leaf_mark h, tree_at)

pub tree-branch : (ws : List ℕ) (n i : ℕ) → label_at ws i ≢ leaf_mark
    → tree_at ws (suc n) i ≡ branch (label_at ws i) (tree_at ws n (high_at ws i)) (tree_at ws n (low_at ws i))
unfolding tree_at
tree-branch ws n i h = rw (ne_eqb (label_at ws i) leaf_mark h, tree_at)

-- the laws of `index`: nothing else unfolds it
pub index-here : (x y : Diagram) (ys : List Diagram) → same x y ≡ true → index x (y ∷ ys) ≡ 0
unfolding index
index-here x y ys e = rw (e, index)

pub index-there : (x y : Diagram) (ys : List Diagram) → same x y ≡ false → index x (y ∷ ys) ≡ suc (index x ys)
unfolding index
index-there x y ys e = rw (e, index)

-- an index into the first rows stays
pub index-append : (x : Diagram) (rs more : List Diagram) → mem same x rs ≡ true → index x (rs ++ more) ≡ index x rs
index-append x [] more h = clash h refl
index-append x (y ∷ ys) more h = go (flag (same x y)) (index-append x ys more)
  where
    go : Flag (same x y) → (mem same x ys ≡ true → index x (ys ++ more) ≡ index x ys) → index x (y ∷ (ys ++ more)) ≡ index x (y ∷ ys)
    go (is_true e) ih = rw (index-here x y (ys ++ more) e, index-here x y ys e)
    go (is_false e) ih = rw (index-there x y (ys ++ more) e, index-there x y ys e) (ap suc (ih (rw e at h)))

-- the index of a new row
pub index-new : (x : Diagram) (rs : List Diagram) → mem same x rs ≡ false → index x (rs ++ (x ∷ [])) ≡ length rs
index-new x [] h = index-here x x [] (same_refl x)
index-new x (y ∷ ys) h = go (flag (same x y)) (index-new x ys)
  where
    go : Flag (same x y) → (mem same x ys ≡ false → index x (ys ++ (x ∷ [])) ≡ length ys) → index x (y ∷ (ys ++ (x ∷ []))) ≡ suc (length ys)
    go (is_true e) ih = clash (or-one _ (mem same x ys) e) h
    go (is_false e) ih = rw (index-there x y (ys ++ (x ∷ [])) e) (ap suc (ih (rw e at h)))

-- the row with an index
pub get_d-index : (x : Diagram) (rs : List Diagram) (d : Diagram) → mem same x rs ≡ true → get_or rs (index x rs) d ≡ x
get_d-index x [] d h = clash h refl
get_d-index x (y ∷ ys) d h = go (flag (same x y)) (get_d-index x ys d)
  where
    go : Flag (same x y) → (mem same x ys ≡ true → get_or ys (index x ys) d ≡ x) → get_or (y ∷ ys) (index x (y ∷ ys)) d ≡ x
    go (is_true e) ih = rw (index-here x y ys e) (sym (same-eq x y e))
    go (is_false e) ih = rw (index-there x y ys e) (ih (rw e at h))

pub index-less : (x : Diagram) (rs : List Diagram) → mem same x rs ≡ true → index x rs < length rs
index-less x [] h = clash h refl
index-less x (y ∷ ys) h = go (flag (same x y)) (index-less x ys)
  where
    go : Flag (same x y) → (mem same x ys ≡ true → index x ys < length ys) → index x (y ∷ ys) < suc (length ys)
    go (is_true e) ih = rw (index-here x y ys e) (omega arith)
    go (is_false e) ih = rw (index-there x y ys e) (omega (arith, ih (rw e at h)))

pub mem-get_d : (rs : List Diagram) (k : ℕ) (d : Diagram) → k < length rs → mem same (get_or rs k d) rs ≡ true
mem-get_d [] k d h = absurd (omega arith)
mem-get_d (r ∷ rs) zero d h = or-one _ _ (same_refl r)
mem-get_d (r ∷ rs) (suc k) d h = or-other (same (get_or rs k d) r) _ (mem-get_d rs k d (omega arith))

pub encode-append : (w xs ys : List Diagram) → encode w (xs ++ ys) ≡ encode w xs ++ encode w ys
unfolding encode
encode-append w [] ys = refl
encode-append w (leaf v ∷ xs) ys = rw (encode-append w xs ys)
encode-append w (branch l t f ∷ xs) ys = rw (encode-append w xs ys)

module _ (x y z : ℕ) (ws : List ℕ) (k : ℕ) where
  label-next : label_at (x ∷ y ∷ z ∷ ws) (suc k) ≡ label_at ws k
  unfolding label_at
  label-next = let e : suc k * 3 ≡ suc (suc (suc (k * 3))) = omega arith in rw e

  high-next : high_at (x ∷ y ∷ z ∷ ws) (suc k) ≡ high_at ws k
  unfolding high_at
  high-next = let e : suc k * 3 + 1 ≡ suc (suc (suc (k * 3 + 1))) = omega arith in rw e

  low-next : low_at (x ∷ y ∷ z ∷ ws) (suc k) ≡ low_at ws k
  unfolding low_at
  low-next = let e : suc k * 3 + 2 ≡ suc (suc (suc (k * 3 + 2))) = omega arith in rw e

pub encode-at : (w rs : List Diagram) (k : ℕ) → k < length rs
    → Encoded w (get_or rs k (leaf 0)) (label_at (encode w rs) k) (high_at (encode w rs) k) (low_at (encode w rs) k)
unfolding encode label_at high_at low_at
encode-at w [] k h = absurd (omega arith)
encode-at w (leaf v ∷ rs) zero h = (refl, refl, refl)
encode-at w (branch l t f ∷ rs) zero h = (refl, refl, refl)
encode-at w (leaf v ∷ rs) (suc k) h =
    rw (label-next leaf_mark v 0 (encode w rs) k, high-next leaf_mark v 0 (encode w rs) k, low-next leaf_mark v 0 (encode w rs) k) (encode-at w rs k (omega arith))
encode-at w (branch l t f ∷ rs) (suc k) h =
    rw (
      label-next l (index t w) (index f w) (encode w rs) k,
      high-next l (index t w) (index f w) (encode w rs) k,
      low-next l (index t w) (index f w) (encode w rs) k,
    )
    (encode-at w rs k (omega arith))

pub length-encode : (w rs : List Diagram) → length (encode w rs) ≡ length rs * 3
unfolding encode
length-encode w [] = refl
length-encode w (leaf v ∷ rs) = omega (arith, length-encode w rs)
length-encode w (branch l t f ∷ rs) = omega (arith, length-encode w rs)

pub length-listing : (d : Diagram) → length (listing d) ≡ length (rows d) * 3
unfolding listing
length-listing d = length-encode (rows d) (rows d)
