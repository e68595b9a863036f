-- Laws of the walk that counts, and of the whole check.
use mathlib.Core.Path.{◌≡◌, refl, sym, ap, ◌∙◌}
use mathlib.Core.Bool.{Bool, true, false, not}
use mathlib.Core.Logic.{◌≢◌}
use mathlib.Core.List.{List, [], ◌∷◌, ◌++◌, append_assoc, append-nil}
use Prim.Native.Nat.{ℕ, zero, suc, pred, ◌+◌, ◌-◌, ◌*◌, ◌/◌, ◌<◌, ◌≤◌}
use native.Mathlib.Omega.{arith}
use native.Mathlib.Numerals.{add-one}
use lib.ListN.{length, get_or, length-append}
use lib.Seq.{get_or_at}
use borrow.Author.Tests.{not-true, not-false}
use Rattle.basics.specs.Tests.{Cmp, cmp, below, equal, above, Flag, is_true, is_false, flag}
use Rattle.label.specs.Limits.{leaf_mark}
use Rattle.label.specs.Labels.{are_arities}
use Rattle.diagram.specs.Sizes.{most_rows}
use Rattle.diagram.specs.Words.{label_at, high_at, low_at, row_count, up_to, finish, is_listing}
use Rattle.diagram.specs.WordLaws.{mem-up_to, not-up_to, length-up_to, get_d-up_to, finish-old, finish-leaf, finish-branch, grows}
use Rattle.diagram.specs.Validity.{ValidRow, a-leaf, a-branch, ValidRows, Valid}
use Rattle.diagram.specs.ListingValid.{valid-is-listing, listing-is-valid}
use Rattle.listing.specs.Inner.{Downward, Off, Walked}
use Rattle.listing.specs.Check.{Decides}

-- a row out of its place
off-place : (b i : ℕ) → (b ≡ i → ⊥) → Off (up_to b ++ (i ∷ []))
off-place b i n more m e =
    let p : up_to b ++ (i ∷ more) ≡ up_to m = sym (append_assoc (up_to b) (i ∷ []) more) ∙ e in
    let l : length (up_to b ++ (i ∷ more)) ≡ length (up_to m) = ap length p in
    let h : b < m = omega (arith, length-append (up_to b) (i ∷ more), length-up_to b, length-up_to m) in
    n (sym (sym (get_or_at (up_to b) i more 0 b (length-up_to b)) ∙ ap (λ x. get_or x b 0) p ∙ get_d-up_to m b h))

off-more : (xs ys : List ℕ) → Off xs → Off (xs ++ ys)
off-more xs ys o more m e = o (ys ++ more) m (sym (append_assoc xs ys more) ∙ e)

off-finish : (ws : List ℕ) (n i : ℕ) (done : List ℕ) → Off done → Off (finish ws n i done)
off-finish ws n i done o = let g = grows ws n i done in rw g.is (off-more done g.more o)

leaf-makes : (ws : List ℕ) (i n : ℕ) → n ≤ i → get_or ws (i * 3) 0 ≡ leaf_mark → (depth : ℕ) → i < depth → finish ws depth i (up_to n) ≡ up_to n ++ (i ∷ [])
unfolding label_at
leaf-makes ws i n h e zero d = absurd (omega arith)
leaf-makes ws i n h e (suc depth) d = finish-leaf ws depth i (up_to n) (not-up_to i n h) e

module _ {ws : List ℕ} {i : ℕ} (w : Downward ws i) (e : get_or ws (i * 3) 0 ≡ leaf_mark → ⊥) where
  children-before : (get_or ws (i * 3 + 1) 0 < i) × (get_or ws (i * 3 + 2) 0 < i)
  unfolding label_at high_at low_at
  children-before = w.children i (omega arith) e

  pub down-high : Downward ws (get_or ws (i * 3 + 1) 0)
  down-high = let k = children-before in record { room = omega (arith, w.room); children = λ j h. w.children j (omega arith) }

  pub down-low : Downward ws (get_or ws (i * 3 + 2) 0)
  down-low = let k = children-before in record { room = omega (arith, w.room); children = λ j h. w.children j (omega arith) }

  pub less-high : get_or ws (i * 3 + 1) 0 < i
  less-high = children-before.0

  pub less-low : get_or ws (i * 3 + 2) 0 < i
  less-low = children-before.1

-- the walk at a branch
branch-makes : (ws : List ℕ) (i n : ℕ) → (get_or ws (i * 3) 0 ≡ leaf_mark → ⊥) → n ≤ i → (k : ℕ)
    → finish ws (suc k) i (up_to n) ≡ finish ws k (get_or ws (i * 3 + 2) 0) (finish ws k (get_or ws (i * 3 + 1) 0) (up_to n)) ++ (i ∷ [])
unfolding label_at high_at low_at
branch-makes ws i n e h k = finish-branch ws k i (up_to n) (not-up_to i n h) e

module _ {ws : List ℕ} {i n : ℕ} where
  pub walk-old : i < n → Walked ws i n n
  walk-old h = record { yes = λ z depth d. finish-old ws depth i (up_to n) (mem-up_to i n h); no = λ z. absurd (omega arith) }

  pub walk-leaf : n ≤ i → get_or ws (i * 3) 0 ≡ leaf_mark → i ≡ n → Walked ws i n (i + 1)
  walk-leaf h e p = record { yes = λ z depth d. leaf-makes ws i n h e depth d ∙ rw (add-one, p); no = λ z. absurd (omega arith) }

  pub walk-leaf-off : n ≤ i → get_or ws (i * 3) 0 ≡ leaf_mark → (i ≡ n → ⊥) → Walked ws i n 0
  walk-leaf-off h e p = record { yes = λ z. absurd (z refl); no = λ z depth d. rw (leaf-makes ws i n h e depth d) (off-place n i (λ q. p (sym q))) }

  module _ (w : Downward ws i) (e : get_or ws (i * 3) 0 ≡ leaf_mark → ⊥) where
    module _ (h : n ≤ i) {a : ℕ} (ca : Walked ws (get_or ws (i * 3 + 1) 0) n a) where
      pub walk-high-off : a ≡ 0 → Walked ws i n 0
      walk-high-off z = record { yes = λ y. absurd (y refl); no = λ y. off }
        where
          off : (depth : ℕ) → i < depth → Off (finish ws depth i (up_to n))
          off zero d = absurd (omega arith)
          off (suc k) d =
              let l = less-high w e in
              rw (branch-makes ws i n e h k)
              (off-more (finish ws k (get_or ws (i * 3 + 2) 0) (finish ws k (get_or ws (i * 3 + 1) 0) (up_to n))) (i ∷ [])
              (off-finish ws k (get_or ws (i * 3 + 2) 0) (finish ws k (get_or ws (i * 3 + 1) 0) (up_to n)) (ca.no z k (omega arith))))

      module _ (y : a ≡ 0 → ⊥) {b : ℕ} (cb : Walked ws (get_or ws (i * 3 + 2) 0) a b) where
        pub walk-branch : b ≡ i → Walked ws i n (i + 1)
        walk-branch q = record { yes = λ z. on; no = λ z. absurd (omega arith) }
          where
            on : (depth : ℕ) → i < depth → finish ws depth i (up_to n) ≡ up_to (i + 1)
            on zero d = absurd (omega arith)
            on (suc k) d =
                let l = less-high w e in
                let l' = less-low w e in
                rw (branch-makes ws i n e h k, ca.yes y k (omega arith), cb.yes (λ z. omega arith) k (omega arith), q, add-one)

        pub walk-branch-off : (b ≡ i → ⊥) → Walked ws i n 0
        walk-branch-off q = record { yes = λ z. absurd (z refl); no = λ z. off (cmp b 0) }
          where
            off : Cmp b 0 → (depth : ℕ) → i < depth → Off (finish ws depth i (up_to n))
            off x zero d = absurd (omega arith)
            off (below x) (suc k) d = absurd (omega arith)
            off (equal x) (suc k) d =
                let l = less-high w e in
                let l' = less-low w e in
                rw (branch-makes ws i n e h k, ca.yes y k (omega arith))
                (off-more (finish ws k (get_or ws (i * 3 + 2) 0) (up_to a)) (i ∷ []) (cb.no x k (omega arith)))
            off (above x) (suc k) d =
                let l = less-high w e in
                let l' = less-low w e in
                rw (branch-makes ws i n e h k, ca.yes y k (omega arith), cb.yes (λ z. omega arith) k (omega arith)) (off-place b i q)

from_last : (ws : List ℕ) → (length ws / 3 ≡ 0 → ⊥)
    → finish ws (row_count ws) (pred (row_count ws)) [] ≡ finish ws (row_count ws) (length ws / 3 - 1) (up_to 0)
from_last ws n = let e : pred (row_count ws) ≡ length ws / 3 - 1 = omega arith in rw e

-- the whole check
module _ (ar ws : List ℕ) where
  refused : (Valid ar ws → ⊥) → false ≡ is_listing ar ws
  refused f = go (flag (is_listing ar ws))
    where
      go : Flag (is_listing ar ws) → false ≡ is_listing ar ws
      go (is_true e) = absurd (f (listing-is-valid ar ws e))
      go (is_false e) = sym e

  pub check-arities : {b : Bool} → b ≡ are_arities ar → not b ≡ true → false ≡ is_listing ar ws
  check-arities {b} d e = refused (λ v. let z : true ≡ false = sym v.arities ∙ sym d ∙ not-true b e in let z' : ◌≡◌ {A = ℕ} 0 1 = cc in omega arith)

  pub check-whole : (length ws / 3 * 3 ≡ length ws → ⊥) → false ≡ is_listing ar ws
  check-whole h = refused (λ v. h (sym v.whole))

  pub check-some : length ws / 3 ≡ 0 → false ≡ is_listing ar ws
  check-some h = refused (λ v. let s = v.some in omega arith)

  pub check-few : most_rows < length ws / 3 → false ≡ is_listing ar ws
  check-few h = refused (λ v. let s = v.few in omega arith)

  pub check-rows : {b : Bool} → Decides b (ValidRows ar ws (length ws / 3)) → not b ≡ true → false ≡ is_listing ar ws
  check-rows {b} d e = refused (λ v. d.no (not-true b e) (record { each = v.each; apart = v.apart }))

  pub check-down : {b : Bool} → (length ws / 3 ≡ 0 → ⊥) → Decides b (ValidRows ar ws (length ws / 3)) → not b ≡ false → Downward ws (length ws / 3 - 1)
  check-down {b} n d e = record { room = omega arith; children = λ k h q. go k q ((d.yes (not-false b e)).each k (omega arith)) }
    where
      go : (k : ℕ) → label_at ws k ≢ leaf_mark → ValidRow ar ws k → (high_at ws k < k) × (low_at ws k < k)
      go k q (a-leaf r) = absurd (q r.mark)
      go k q (a-branch r) = (r.high-before, r.low-before)

  module _ (n : length ws / 3 ≡ 0 → ⊥) {r : ℕ} (c : Walked ws (length ws / 3 - 1) 0 r) where
    pub check-order : (r ≡ length ws / 3 → ⊥) → false ≡ is_listing ar ws
    check-order h = refused (λ v. go v (cmp r 0))
      where
        go : Valid ar ws → Cmp r 0 → ⊥
        go v (below x) = omega arith
        go v (equal x) = c.no x (row_count ws) (omega arith) [] (row_count ws) (append-nil _ ∙ sym (from_last ws n) ∙ v.order)
        go v (above x) =
            let e : up_to r ≡ up_to (row_count ws) = sym (c.yes (λ z. omega arith) (row_count ws) (omega arith)) ∙ sym (from_last ws n) ∙ v.order in
            h (sym (length-up_to r) ∙ ap length e ∙ length-up_to (row_count ws))

    pub check-good : {a b : Bool} → a ≡ are_arities ar → not a ≡ false → length ws / 3 * 3 ≡ length ws → length ws / 3 ≤ most_rows
        → Decides b (ValidRows ar ws (length ws / 3)) → not b ≡ false → r ≡ length ws / 3 → true ≡ is_listing ar ws
    check-good {a} {b} d' e' w f d e q = sym (valid-is-listing ar ws (record {
      arities = sym d' ∙ not-false a e';
      whole = sym w;
      some = omega arith;
      few = f;
      each = (d.yes (not-false b e)).each;
      apart = (d.yes (not-false b e)).apart;
      order = from_last ws n ∙ c.yes (λ z. omega arith) (row_count ws) (omega arith) ∙ ap up_to q;
    }))
