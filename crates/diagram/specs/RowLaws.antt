-- Laws of the rows of diagrams: `onto` adds to rows that are kept in order what is missing, and only parts of its diagram.
use Rattle.std.specs.Prelude.{◌≡◌, refl, Bool, true, false, ◌||◌, List, [], ◌∷◌, ◌++◌, ℕ, suc, pred, ◌+◌, ◌≤◌, ◌<◌, length, get_or}
use Rattle.std.proofs.Common.{ap, sym, ◌∙◌, arith, length-append}
use Rattle.std.proofs.Math.ListN.{get_or-append}
use Rattle.std.proofs.lemmas.List.{get_or_at}
use Rattle.basics.specs.Tests.{Flag, is_true, is_false, flag, Cmp, cmp, below, equal, above, Either, one, other, either, or-one, or-other}
use Rattle.basics.specs.Members.{mem, mem-append, NoDup, Within, nodup-le, clash, append-one, mem-snoc, snoc-cases}
use Rattle.basics.specs.Prefix.{Prefix, prefix_refl, prefix-snoc, prefix-append, prefix_trans, mem-prefix}
use Rattle.diagram.specs.Diagram.{Diagram, leaf, branch, same, From, Reduced}
use Rattle.diagram.specs.Rows.{onto, rows}
use Rattle.diagram.specs.Listing.{index}
use Rattle.diagram.specs.Inner.{is_part, size, Earlier, Kept}
use Rattle.diagram.specs.RowLists.{row_tree}
use Rattle.diagram.specs.DiagramLaws.{same-eq, same_refl, diagram-test, from-weaken, onto-old, onto-leaf, onto-branch}
use Rattle.diagram.specs.ListingLaws.{get_d-index, index-less, index-append, mem-get_d}

-- two tests that hold together are equal
pub same_tests : (a b : Bool) → (a ≡ true → b ≡ true) → (b ≡ true → a ≡ true) → a ≡ b
same_tests true b h k = sym (h refl)
same_tests false true h k = k refl
same_tests false false h k = refl

-- parts of a diagram
pub part-self : (d : Diagram) → is_part d d ≡ true
unfolding is_part
part-self (leaf v) = same_refl (leaf v)
part-self (branch l t f) = or-one _ _ (same_refl (branch l t f))

pub part-high : (x : Diagram) (l : ℕ) (t f : Diagram) → is_part x t ≡ true → is_part x (branch l t f) ≡ true
unfolding is_part
part-high x l t f h = or-other (same x (branch l t f)) _ (or-one _ _ h)

pub part_low : (x : Diagram) (l : ℕ) (t f : Diagram) → is_part x f ≡ true → is_part x (branch l t f) ≡ true
unfolding is_part
part_low x l t f h = or-other (same x (branch l t f)) _ (or-other (is_part x t) _ h)

-- a part of a leaf, of a branch
pub part-leaf : (x : Diagram) (v : ℕ) → is_part x (leaf v) ≡ true → x ≡ leaf v
unfolding is_part
part-leaf x v h = same-eq x (leaf v) h

pub data PartOf (x : Diagram) (l : ℕ) (t f : Diagram) : Type 0 where
  it-is : x ≡ branch l t f → PartOf x l t f
  of-high : is_part x t ≡ true → PartOf x l t f
  of_low : is_part x f ≡ true → PartOf x l t f

pub part-branch : (x : Diagram) (l : ℕ) (t f : Diagram) → is_part x (branch l t f) ≡ true → PartOf x l t f
unfolding is_part
part-branch x l t f h = go (either (same x (branch l t f)) _ h)
  where
    inner : Either (is_part x t) (is_part x f) → PartOf x l t f
    inner (one e) = of-high e
    inner (other e) = of_low e

    go : Either (same x (branch l t f)) (is_part x t || is_part x f) → PartOf x l t f
    go (one e) = it-is (same-eq x (branch l t f) e)
    go (other e) = inner (either (is_part x t) _ e)

pub part-from : (n : ℕ) (x d : Diagram) → From n d → is_part x d ≡ true → From n x
part-from n x (leaf v) o h = rw (part-leaf x v h) tt
part-from n x (branch l t f) o h = go (part-branch x l t f h) (part-from (suc l) x t o.1) (part-from (suc l) x f o.2)
  where
    go : PartOf x l t f → (is_part x t ≡ true → From (suc l) x) → (is_part x f ≡ true → From (suc l) x) → From n x
    go (it-is e) p q = rw e o
    go (of-high e) p q = let h = o.0 in from-weaken n (suc l) x (omega arith) (p e)
    go (of_low e) p q = let h = o.0 in from-weaken n (suc l) x (omega arith) (q e)

pub part-reduced : (x d : Diagram) → Reduced d → is_part x d ≡ true → Reduced x
part-reduced x (leaf v) r h = rw (part-leaf x v h) tt
part-reduced x (branch l t f) r h = go (part-branch x l t f h) (part-reduced x t r.1) (part-reduced x f r.2)
  where
    go : PartOf x l t f → (is_part x t ≡ true → Reduced x) → (is_part x f ≡ true → Reduced x) → Reduced x
    go (it-is e) p q = rw e r
    go (of-high e) p q = p e
    go (of_low e) p q = q e

-- a diagram is no part of its children
part-size : (x d : Diagram) → is_part x d ≡ true → size x ≤ size d
unfolding size
part-size x (leaf v) h = rw (part-leaf x v h) (omega arith)
part-size x (branch l t f) h = go (part-branch x l t f h) (part-size x t) (part-size x f)
  where
    go : PartOf x l t f → (is_part x t ≡ true → size x ≤ size t) → (is_part x f ≡ true → size x ≤ size f) → size x ≤ size (branch l t f)
    go (it-is e) p q = rw e (omega arith)
    go (of-high e) p q = omega (arith, p e)
    go (of_low e) p q = omega (arith, q e)

pub not-in-high : (l : ℕ) (t f : Diagram) → is_part (branch l t f) t ≡ true → ⊥
unfolding size
not-in-high l t f h = omega (arith, part-size (branch l t f) t h)

pub not-in-low : (l : ℕ) (t f : Diagram) → is_part (branch l t f) f ≡ true → ⊥
unfolding size
not-in-low l t f h = omega (arith, part-size (branch l t f) f h)

-- what `onto` adds to: the diagram is there, and what was there stays
pub onto-mem : (d : Diagram) (rs : List Diagram) → mem same d (onto d rs) ≡ true
onto-mem (leaf v) rs = go (flag (mem same (leaf v) rs))
  where
    go : Flag (mem same (leaf v) rs) → mem same (leaf v) (onto (leaf v) rs) ≡ true
    go (is_true e) = rw (onto-old (leaf v) rs e) e
    go (is_false e) = rw (onto-leaf v rs e) (mem-snoc same diagram-test (leaf v) rs)
onto-mem (branch l t f) rs = go (flag (mem same (branch l t f) rs))
  where
    go : Flag (mem same (branch l t f) rs) → mem same (branch l t f) (onto (branch l t f) rs) ≡ true
    go (is_true e) = rw (onto-old (branch l t f) rs e) e
    go (is_false e) = rw (onto-branch l t f rs e) (mem-snoc same diagram-test (branch l t f) (onto f (onto t rs)))

pub onto-keeps : (d : Diagram) (rs : List Diagram) → Prefix rs (onto d rs)
onto-keeps (leaf v) rs = go (flag (mem same (leaf v) rs))
  where
    go : Flag (mem same (leaf v) rs) → Prefix rs (onto (leaf v) rs)
    go (is_true e) = rw (onto-old (leaf v) rs e) (prefix_refl rs)
    go (is_false e) = rw (onto-leaf v rs e) (prefix-snoc rs (leaf v))
onto-keeps (branch l t f) rs =
    go (flag (mem same (branch l t f) rs)) (prefix_trans (onto-keeps t rs) (onto-keeps f (onto t rs)))
  where
    go : Flag (mem same (branch l t f) rs) → Prefix rs (onto f (onto t rs)) → Prefix rs (onto (branch l t f) rs)
    go (is_true e) g = rw (onto-old (branch l t f) rs e) (prefix_refl rs)
    go (is_false e) g = rw (onto-branch l t f rs e) (prefix-append (branch l t f ∷ []) g)

pub onto-keeps-mem : (d y : Diagram) (rs : List Diagram) → mem same y rs ≡ true → mem same y (onto d rs) ≡ true
onto-keeps-mem d y rs h = mem-prefix same y (onto-keeps d rs) h

-- what `onto` adds is a part of the diagram
pub onto-from : (d y : Diagram) (rs : List Diagram) → mem same y (onto d rs) ≡ true → Either (mem same y rs) (is_part y d)
unfolding is_part
onto-from (leaf v) y rs h = go (flag (mem same (leaf v) rs))
  where
    go : Flag (mem same (leaf v) rs) → Either (mem same y rs) (is_part y (leaf v))
    go (is_true e) = one (rw (onto-old (leaf v) rs e) at h)
    go (is_false e) = snoc-cases same y (leaf v) rs (rw (onto-leaf v rs e) at h)
onto-from (branch l t f) y rs h = go (flag (mem same (branch l t f) rs)) (onto-from t y rs) (onto-from f y (onto t rs))
  where
    go : Flag (mem same (branch l t f) rs) → (mem same y (onto t rs) ≡ true → Either (mem same y rs) (is_part y t))
        → (mem same y (onto f (onto t rs)) ≡ true → Either (mem same y (onto t rs)) (is_part y f)) → Either (mem same y rs) (is_part y (branch l t f))
    go (is_true e) p q = one (rw (onto-old (branch l t f) rs e) at h)
    go (is_false e) p q = last (snoc-cases same y (branch l t f) (onto f (onto t rs)) (rw (onto-branch l t f rs e) at h))
      where
        high : Either (mem same y rs) (is_part y t) → Either (mem same y rs) (is_part y (branch l t f))
        high (one z) = one z
        high (other z) = other (part-high y l t f z)

        low : Either (mem same y (onto t rs)) (is_part y f) → Either (mem same y rs) (is_part y (branch l t f))
        low (one z) = high (p z)
        low (other z) = other (part_low y l t f z)

        last : Either (mem same y (onto f (onto t rs))) (same y (branch l t f)) → Either (mem same y rs) (is_part y (branch l t f))
        last (one z) = low (q z)
        last (other z) = other (or-one _ _ z)

-- the branch itself is new behind its children
pub onto-fresh : (l : ℕ) (t f : Diagram) (rs : List Diagram) → mem same (branch l t f) rs ≡ false → mem same (branch l t f) (onto f (onto t rs)) ≡ false
onto-fresh l t f rs n = go (flag (mem same (branch l t f) (onto f (onto t rs))))
  where
    high : Either (mem same (branch l t f) rs) (is_part (branch l t f) t) → ⊥
    high (one e) = clash e n
    high (other e) = not-in-high l t f e

    low : Either (mem same (branch l t f) (onto t rs)) (is_part (branch l t f) f) → ⊥
    low (one e) = high (onto-from t (branch l t f) rs e)
    low (other e) = not-in-low l t f e

    go : Flag (mem same (branch l t f) (onto f (onto t rs))) → mem same (branch l t f) (onto f (onto t rs)) ≡ false
    go (is_true e) = absurd (low (onto-from f (branch l t f) (onto t rs) e))
    go (is_false e) = e

-- rows that are kept
pub kept-none : Kept []
kept-none = record { distinct = λ a b h k e. absurd (omega arith); children = λ k l t f h e. absurd (omega arith) }

-- a row that may come next
abbrev Next : List Diagram → Diagram → Type 0
Next rs (leaf v) = Unit {0}
Next rs (branch l t f) = (mem same t rs ≡ true) × (mem same f rs ≡ true)

next-is : (rs : List Diagram) (x : Diagram) → Next rs x → (l : ℕ) (t f : Diagram) → x ≡ branch l t f → (mem same t rs ≡ true) × (mem same f rs ≡ true)
next-is rs (leaf v) n l t f e = absurd (let z : ◌≡◌ {A = ℕ} 0 1 = cc in omega arith)
next-is rs (branch k u g) n l t f e =
    let p : u ≡ t = cc in
    let q : g ≡ f = cc in
    (rw p at n.0, rw q at n.1)

earlier-keeps : (rs : List Diagram) (y : Diagram) (k : ℕ) (x : Diagram) → Earlier rs k x → Earlier (rs ++ (y ∷ [])) k x
earlier-keeps rs y k x e = record {
  is_row = append-one same x rs (y ∷ []) e.is_row;
  before = rw (index-append x rs (y ∷ []) e.is_row) e.before;
}

earlier-new : (rs : List Diagram) (x : Diagram) → mem same x rs ≡ true → Earlier rs (length rs) x
earlier-new rs x h = record { is_row = h; before = index-less x rs h }

module _ (rs : List Diagram) (x : Diagram) (k : Kept rs) (n : mem same x rs ≡ false) (nx : Next rs x) where
  length_more : length (rs ++ (x ∷ [])) ≡ suc (length rs)
  length_more = omega (arith, length-append rs (x ∷ []))

  at_old : (i : ℕ) → i < length rs → get_or (rs ++ (x ∷ [])) i (leaf 0) ≡ row_tree rs i
  at_old i h = get_or-append rs (x ∷ []) (leaf 0) i h

  at_new : (i : ℕ) → i ≡ length rs → get_or (rs ++ (x ∷ [])) i (leaf 0) ≡ x
  at_new i h = get_or_at rs x [] (leaf 0) i (sym h)

  not-old : (i : ℕ) → i < length rs → row_tree rs i ≡ x → ⊥
  not-old i h e = clash (mem-get_d rs i (leaf 0) h) (rw e n)

  kept_more : Kept (rs ++ (x ∷ []))
  kept_more = record { distinct = d; children = ks }
    where
      d : (a b : ℕ) → a < length (rs ++ (x ∷ [])) → b < length (rs ++ (x ∷ [])) → get_or (rs ++ (x ∷ [])) a (leaf 0) ≡ get_or (rs ++ (x ∷ [])) b (leaf 0) → a ≡ b
      d a b h j e = go (cmp a (length rs)) (cmp b (length rs))
        where
          go : Cmp a (length rs) → Cmp b (length rs) → a ≡ b
          go (below p) (below q) = k.distinct a b p q (sym (at_old a p) ∙ e ∙ at_old b q)
          go (below p) (equal q) = absurd (not-old a p (sym (at_old a p) ∙ e ∙ at_new b q))
          go (equal p) (below q) = absurd (not-old b q (sym (at_old b q) ∙ sym e ∙ at_new a p))
          go (equal p) (equal q) = omega arith
          go (above p) q = absurd (omega (arith, length_more))
          go (below p) (above q) = absurd (omega (arith, length_more))
          go (equal p) (above q) = absurd (omega (arith, length_more))

      ks : (i l : ℕ) (t f : Diagram) → i < length (rs ++ (x ∷ [])) → get_or (rs ++ (x ∷ [])) i (leaf 0) ≡ branch l t f
          → Earlier (rs ++ (x ∷ [])) i t × Earlier (rs ++ (x ∷ [])) i f
      ks i l t f h e = go (cmp i (length rs))
        where
          go : Cmp i (length rs) → Earlier (rs ++ (x ∷ [])) i t × Earlier (rs ++ (x ∷ [])) i f
          go (below p) =
              let z = k.children i l t f p (sym (at_old i p) ∙ e) in
              (earlier-keeps rs x i t z.0, earlier-keeps rs x i f z.1)
          go (equal p) =
              let z = next-is rs x nx l t f (sym (at_new i p) ∙ e) in
              (rw p (earlier-keeps rs x (length rs) t (earlier-new rs t z.0)), rw p (earlier-keeps rs x (length rs) f (earlier-new rs f z.1)))
          go (above p) = absurd (omega (arith, length_more))

pub kept-leaf : (rs : List Diagram) (v : ℕ) → Kept rs → mem same (leaf v) rs ≡ false → Kept (rs ++ (leaf v ∷ []))
kept-leaf rs v k n = kept_more rs (leaf v) k n tt

pub kept-branch : (rs : List Diagram) (l : ℕ) (t f : Diagram) → Kept rs → mem same (branch l t f) rs ≡ false
    → mem same t rs ≡ true → mem same f rs ≡ true → Kept (rs ++ (branch l t f ∷ []))
kept-branch rs l t f k n p q = kept_more rs (branch l t f) k n (p, q)

pub onto-kept : (d : Diagram) (rs : List Diagram) → Kept rs → Kept (onto d rs)
onto-kept (leaf v) rs k = go (flag (mem same (leaf v) rs))
  where
    go : Flag (mem same (leaf v) rs) → Kept (onto (leaf v) rs)
    go (is_true e) = rw (onto-old (leaf v) rs e) k
    go (is_false e) = rw (onto-leaf v rs e) (kept-leaf rs v k e)
onto-kept (branch l t f) rs k = go (flag (mem same (branch l t f) rs)) (onto-kept f (onto t rs) (onto-kept t rs k))
  where
    go : Flag (mem same (branch l t f) rs) → Kept (onto f (onto t rs)) → Kept (onto (branch l t f) rs)
    go (is_true e) z = rw (onto-old (branch l t f) rs e) k
    go (is_false e) z = rw (onto-branch l t f rs e)
        (kept-branch (onto f (onto t rs)) l t f z (onto-fresh l t f rs e) (onto-keeps-mem f t (onto t rs) (onto-mem t rs)) (onto-mem f (onto t rs)))

pub rows-kept : (d : Diagram) → Kept (rows d)
unfolding rows
rows-kept d = onto-kept d [] kept-none

-- the number of a row
pub kept-index : (rs : List Diagram) (k : ℕ) → Kept rs → k < length rs → index (row_tree rs k) rs ≡ k
kept-index rs k z h =
    let x = row_tree rs k in
    let m = mem-get_d rs k (leaf 0) h in
    z.distinct (index x rs) k (index-less x rs m) h (get_d-index x rs (leaf 0) m)

pub kept-index-is : (rs : List Diagram) (k : ℕ) (x : Diagram) → Kept rs → k < length rs → row_tree rs k ≡ x → index x rs ≡ k
kept-index-is rs k x z h e = rw (← e) (kept-index rs k z h)

pub row-mem : (rs : List Diagram) (k : ℕ) (x : Diagram) → k < length rs → row_tree rs k ≡ x → mem same x rs ≡ true
row-mem rs k x h e = rw (← e) (mem-get_d rs k (leaf 0) h)

-- the children of a row are rows, before it
pub kept-children : (rs : List Diagram) (l : ℕ) (t f : Diagram) → Kept rs → mem same (branch l t f) rs ≡ true
    → Earlier rs (index (branch l t f) rs) t × Earlier rs (index (branch l t f) rs) f
kept-children rs l t f k h =
    k.children (index (branch l t f) rs) l t f (index-less (branch l t f) rs h) (get_d-index (branch l t f) rs (leaf 0) h)

-- every part of a row is a row
pub kept-parts : (rs : List Diagram) (d x : Diagram) → Kept rs → mem same d rs ≡ true → is_part x d ≡ true → mem same x rs ≡ true
kept-parts rs (leaf v) x k h p = rw (part-leaf x v p) h
kept-parts rs (branch l t f) x k h p =
    let c = kept-children rs l t f k h in
    go (part-branch x l t f p) (kept-parts rs t x k c.0.is_row) (kept-parts rs f x k c.1.is_row)
  where
    go : PartOf x l t f → (is_part x t ≡ true → mem same x rs ≡ true) → (is_part x f ≡ true → mem same x rs ≡ true) → mem same x rs ≡ true
    go (it-is e) y z = rw e h
    go (of-high e) y z = y e
    go (of_low e) y z = z e

-- the members of `onto d rs`, and of the rows of a diagram
pub mem-onto : (d x : Diagram) (rs : List Diagram) → Kept rs → mem same x (onto d rs) ≡ (mem same x rs || is_part x d)
mem-onto d x rs k = same_tests (mem same x (onto d rs)) (mem same x rs || is_part x d) (λ h. there (onto-from d x rs h)) (λ h. here (either (mem same x rs) _ h))
  where
    there : Either (mem same x rs) (is_part x d) → (mem same x rs || is_part x d) ≡ true
    there (one e) = or-one _ _ e
    there (other e) = or-other (mem same x rs) _ e

    here : Either (mem same x rs) (is_part x d) → mem same x (onto d rs) ≡ true
    here (one e) = onto-keeps-mem d x rs e
    here (other e) = kept-parts (onto d rs) d x (onto-kept d rs k) (onto-mem d rs) e

pub mem-rows : (d x : Diagram) → mem same x (rows d) ≡ is_part x d
unfolding rows
mem-rows d x = mem-onto d x [] kept-none

pub onto_parts : (d x : Diagram) (rs : List Diagram) → mem same x (onto d rs) ≡ true → Either (mem same x rs) (mem same x (rows d))
onto_parts d x rs h = go (onto-from d x rs h)
  where
    go : Either (mem same x rs) (is_part x d) → Either (mem same x rs) (mem same x (rows d))
    go (one e) = one e
    go (other e) = other (mem-rows d x ∙ e)

-- rows that are kept have no repeats, so they are counted by their length
nodup-places : (rs : List Diagram) → ((a b : ℕ) → a < length rs → b < length rs → row_tree rs a ≡ row_tree rs b → a ≡ b) → NoDup same rs
nodup-places [] h = tt
nodup-places (r ∷ rs) h = (go (flag (mem same r rs)), nodup-places rs (λ a b p q e. let z = h (suc a) (suc b) (omega arith) (omega arith) e in omega arith))
  where
    go : Flag (mem same r rs) → mem same r rs ≡ false
    go (is_true e) =
        let l = index-less r rs e in
        let z = h (suc (index r rs)) 0 (omega arith) (omega arith) (get_d-index r rs (leaf 0) e) in
        absurd (omega arith)
    go (is_false e) = e

pub kept-nodup : (rs : List Diagram) → Kept rs → NoDup same rs
kept-nodup rs k = nodup-places rs k.distinct

pub part-rows : (x d : Diagram) → is_part x d ≡ true → length (rows x) ≤ length (rows d)
part-rows x d p = nodup-le same diagram-test (rows x) (rows d) (kept-nodup (rows x) (rows-kept x)) inner
  where
    inner : Within same (rows x) (rows d)
    inner y h = kept-parts (rows d) x y (rows-kept d) (mem-rows d x ∙ p) (sym (mem-rows x y) ∙ h)

pub onto-most : (d : Diagram) (rs : List Diagram) → Kept rs → length (onto d rs) ≤ length rs + length (rows d)
onto-most d rs k =
    omega (arith, nodup-le same diagram-test (onto d rs) (rs ++ rows d) (kept-nodup (onto d rs) (onto-kept d rs k)) inner, length-append rs (rows d))
  where
    inner : Within same (onto d rs) (rs ++ rows d)
    inner y h = mem-append same y rs (rows d) ∙ go (onto_parts d y rs h)
      where
        go : Either (mem same y rs) (mem same y (rows d)) → (mem same y rs || mem same y (rows d)) ≡ true
        go (one e) = or-one _ _ e
        go (other e) = or-other (mem same y rs) _ e

-- the root is the last row
pub record RootLast (d : Diagram) : Type 0 where
  pub front : List Diagram
  pub is : rows d ≡ front ++ (d ∷ [])

pub rows_last : (d : Diagram) → RootLast d
unfolding rows
rows_last (leaf v) = record { front = []; is = onto-leaf v [] refl }
rows_last (branch l t f) = record { front = onto f (onto t []); is = onto-branch l t f [] refl }

pub rows-some : (d : Diagram) → 1 ≤ length (rows d)
rows-some d = let z = rows_last d in omega (arith, ap length z.is, length-append z.front (d ∷ []))

pub rows-root : (d : Diagram) → get_or (rows d) (pred (length (rows d))) (leaf 0) ≡ d
rows-root d = let z = rows_last d in rw z.is (get_or_at z.front d [] (leaf 0) _ (omega (arith, length-append z.front (d ∷ []))))
