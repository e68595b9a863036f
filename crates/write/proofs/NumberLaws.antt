-- Laws of the numbers that a walk gives.
use mathlib.Core.Bool.{true, false}
use mathlib.Core.Path.{◌≡◌, refl, sym, ap, ◌∙◌}
use mathlib.Core.List.{List, [], ◌∷◌, ◌++◌}
use Prim.Native.Nat.{ℕ, zero, suc, ◌+◌, ◌-◌, ◌*◌, ◌<◌, ◌≤◌, zero-le}
use native.Mathlib.Numerals.{add-one}
use native.Mathlib.Omega.{arith}
use borrow.Author.Tests.{eqb-true, eqb-false}
use mir.Val.{Fits}
use mir.Syntax.{w64}
use lib.ListN.{length, get_or, set, take, length-set}
use lib.Seq.{get_or-set_same, get_or-set_other, take-suc, take-suc-set, length-take-le}
use lib.Dec.{eqb}
use Rattle.basics.specs.Tests.{Flag, is_true, is_false, flag, Cmp, cmp, below, equal, above, Either, one, other, either}
use Rattle.basics.specs.Members.{mem, NoDup, nodup-le, clash, mem-snoc, append-one, snoc-cases, nodup-snoc}
use Rattle.label.specs.Limits.{leaf_mark}
use Rattle.diagram.specs.Sizes.{space_rows}
use Rattle.diagram.specs.Words.{label_at, high_at, low_at, up_to, finish}
use Rattle.diagram.specs.WordLaws.{number-test, mem-up_to, length-up_to, finish-old, finish-leaf, finish-branch}
use Rattle.write.specs.Numbering.{Marked, Unmarked, Unnumbered, Placeable, Placed, Downward, Numbered}

-- the first n of a list, by place
pub record Place (xs : List ℕ) (n k : ℕ) : Type 0 where
  pub at : ℕ
  pub within : at < n
  pub is : get_or xs at 0 ≡ k

pub place_of : (xs : List ℕ) (n k : ℕ) → n ≤ length xs → mem eqb k (take n xs) ≡ true → Place xs n k
place_of xs zero k h e = clash e refl
place_of xs (suc n) k h e = go (snoc-cases eqb k (get_or xs n 0) (take n xs) (rw (take-suc xs n 0 h) at e)) (place_of xs n k (omega arith))
  where
    go : Either (mem eqb k (take n xs)) (eqb k (get_or xs n 0)) → (mem eqb k (take n xs) ≡ true → Place xs n k) → Place xs (suc n) k
    go (one q) ih = let p = ih q in record { at = p.at; within = omega (arith, p.within); is = p.is }
    go (other q) ih = record { at = n; within = omega arith; is = sym (eqb-true k (get_or xs n 0) q) }

pub of-place : (xs : List ℕ) (n k i : ℕ) → n ≤ length xs → i < n → get_or xs i 0 ≡ k → mem eqb k (take n xs) ≡ true
of-place xs zero k i h l e = absurd (omega arith)
of-place xs (suc n) k i h l e = rw (take-suc xs n 0 h) (go (cmp i n) (of-place xs n k i (omega arith)))
  where
    go : Cmp i n → (i < n → get_or xs i 0 ≡ k → mem eqb k (take n xs) ≡ true) → mem eqb k (take n xs ++ (get_or xs n 0 ∷ [])) ≡ true
    go (below q) ih = append-one eqb k (take n xs) (get_or xs n 0 ∷ []) (ih q e)
    go (equal q) ih = rw (← e, q) (mem-snoc eqb number-test (get_or xs n 0) (take n xs))
    go (above q) ih = absurd (omega arith)

-- places without repeats are at most as many as there are numbers
no-repeats : (xs : List ℕ) (n : ℕ) → n ≤ length xs → ((i j : ℕ) → i < n → j < n → get_or xs i 0 ≡ get_or xs j 0 → i ≡ j) → NoDup eqb (take n xs)
no-repeats xs zero l h = tt
no-repeats xs (suc n) l h =
    rw (take-suc xs n 0 l) (nodup-snoc eqb number-test (take n xs) (get_or xs n 0) (no-repeats xs n (omega arith) (λ i j p q. h i j (omega arith) (omega arith)))
    (go (flag (mem eqb (get_or xs n 0) (take n xs)))))
  where
    go : Flag (mem eqb (get_or xs n 0) (take n xs)) → mem eqb (get_or xs n 0) (take n xs) ≡ false
    go (is_true e) =
        let p = place_of xs n (get_or xs n 0) (omega arith) e in
        absurd (omega (arith, p.within, h p.at n (omega (arith, p.within)) (omega arith) p.is))
    go (is_false e) = e

pigeons : (xs : List ℕ) (n limit k : ℕ) → n ≤ length xs → ((i j : ℕ) → i < n → j < n → get_or xs i 0 ≡ get_or xs j 0 → i ≡ j)
    → ((i : ℕ) → i < n → get_or xs i 0 < limit) → k < limit → mem eqb k (take n xs) ≡ false → n < limit
pigeons xs n limit k l h b p e =
    let q = nodup-le eqb number-test (k ∷ take n xs) (up_to limit) (e, no-repeats xs n l h) inner in
    omega (arith, q, length-up_to limit, length-take-le n xs l)
  where
    inner : (x : ℕ) → mem eqb x (k ∷ take n xs) ≡ true → mem eqb x (up_to limit) ≡ true
    inner x u = mem-up_to x limit (go (either (eqb x k) (mem eqb x (take n xs)) u))
      where
        go : Either (eqb x k) (mem eqb x (take n xs)) → x < limit
        go (one z) = rw (eqb-true x k z) p
        go (other z) = let y = place_of xs n x l z in rw (← y.is) (b y.at y.within)

module _ {marks order : List ℕ} {n : ℕ} (m : Marked marks order n) where
  long : n ≤ length order
  long = omega (arith, m.few, m.order-places)

  -- two places of one row are one
  one_place : (i j : ℕ) → i < n → j < n → get_or order i 0 ≡ get_or order j 0 → i ≡ j
  one_place i j h k e =
      let p : suc i ≡ suc j = sym (m.numbered i h).1 ∙ ap (λ (x : ℕ). get_or marks x 0) e ∙ (m.numbered j k).1 in
      omega arith

  -- a row has a number where its mark says so
  pub mark-there : (k : ℕ) → k < space_rows → (get_or marks k 0 ≡ 0 → ⊥) → mem eqb k (take n order) ≡ true
  mark-there k h f =
      let p = m.marked k (get_or marks k 0 - 1) h (omega arith) in
      of-place order n k (get_or marks k 0 - 1) long p.0 p.1

  pub mark-none : (k : ℕ) → get_or marks k 0 ≡ 0 → mem eqb k (take n order) ≡ false
  mark-none k e = go (flag (mem eqb k (take n order)))
    where
      go : Flag (mem eqb k (take n order)) → mem eqb k (take n order) ≡ false
      go (is_true q) =
          let p = place_of order n k long q in
          let z = (m.numbered p.at p.within).1 in
          let y : get_or marks k 0 ≡ suc p.at = ap (λ (x : ℕ). get_or marks x 0) (sym p.is) ∙ z in
          absurd (omega (arith, e, y))
      go (is_false q) = q

  module _ {i : ℕ} (h : i < space_rows) (e : get_or marks i 0 ≡ 0) where
    pub placeable : Placeable marks order n i
    placeable = record {
      rows = m;
      room = pigeons order n space_rows i long one_place (λ j l. (m.numbered j l).0) h (mark-none i e);
      row = h;
      none = e;
    }

    pub placed : Marked (set marks i (n + 1)) (set order n i) (n + 1)
    placed = record {
      mark-places = rw length-set m.mark-places;
      order-places = rw length-set m.order-places;
      few = omega (arith, placeable.room);
      numbered = λ j l. nums j l (cmp j n);
      marked = λ k j l q. marks-in k j l q (flag (eqb k i));
    }
      where
        room : n < space_rows
        room = placeable.room

        nums : (j : ℕ) → j < n + 1 → Cmp j n → (get_or (set order n i) j 0 < space_rows) × (get_or (set marks i (n + 1)) (get_or (set order n i) j 0) 0 ≡ suc j)
        nums j l (below q) =
            let z = m.numbered j q in
            let d : get_or order j 0 ≡ i → ⊥ = λ y. let u : suc j ≡ 0 = sym z.1 ∙ ap (λ (x : ℕ). get_or marks x 0) y ∙ e in omega arith in
            rw (get_or-set_other order n j i 0 (λ y. omega arith), get_or-set_other marks i (get_or order j 0) (n + 1) 0 d) z
        nums j l (equal q) =
            rw (q, get_or-set_same order n i 0 (omega (arith, room, m.order-places)), get_or-set_same marks i (n + 1) 0 (omega (arith, m.mark-places)))
            (h, add-one n)
        nums j l (above q) = absurd (omega arith)

        marks-in : (k j : ℕ) → k < space_rows → get_or (set marks i (n + 1)) k 0 ≡ suc j → Flag (eqb k i) → (j < n + 1) × (get_or (set order n i) j 0 ≡ k)
        marks-in k j l q (is_true u) =
            let u' = eqb-true k i u in
            let z : suc j ≡ n + 1 = sym q ∙ ap (λ (x : ℕ). get_or (set marks i (n + 1)) x 0) u' ∙ get_or-set_same marks i (n + 1) 0 (omega (arith, m.mark-places)) in
            let j-is : j ≡ n = omega arith in
            (omega arith, rw j-is (get_or-set_same order n i 0 (omega (arith, room, m.order-places)) ∙ sym u'))
        marks-in k j l q (is_false u) =
            let z = m.marked k j l (sym (get_or-set_other marks i k (n + 1) 0 (eqb-false k i u)) ∙ q) in
            (omega (arith, z.0), get_or-set_other order n j i 0 (λ y. omega (arith, z.0)) ∙ z.1)

-- the walk
module _ {s : List ℕ} {i : ℕ} (d : Downward s i) (e : get_or s (i * 3) 0 ≡ leaf_mark → ⊥) where
  children-before : (get_or s (i * 3 + 1) 0 < i) × (get_or s (i * 3 + 2) 0 < i)
  unfolding label_at high_at low_at
  children-before = d.children i (omega arith) e

  pub less-high : get_or s (i * 3 + 1) 0 < i
  less-high = children-before.0

  pub less-low : get_or s (i * 3 + 2) 0 < i
  less-low = children-before.1

  pub down-high : Downward s (get_or s (i * 3 + 1) 0)
  down-high = let k = less-high in record { room = omega (arith, d.room); small = omega (arith, d.small); children = λ j h. d.children j (omega arith) }

  pub down-low : Downward s (get_or s (i * 3 + 2) 0)
  down-low = let k = less-low in record { room = omega (arith, d.room); small = omega (arith, d.small); children = λ j h. d.children j (omega arith) }

module _ {s marks order : List ℕ} {n i : ℕ} (d : Downward s i) (m : Marked marks order n) {w : ℕ} (mk : w ≡ get_or marks i 0) where
  pub number-old : (w ≡ 0 → ⊥) → Numbered s marks order n i n marks order
  number-old f = record {
    rows = m;
    finished = λ depth h. sym (finish-old s depth i (take n order) (mark-there m i d.small (λ z. f (mk ∙ z))));
    above = λ k h. refl;
  }

  pub number-first : w ≡ 0 → Unnumbered marks order n i
  number-first z = record { rows = m; none = sym mk ∙ z }

module _ {s marks order : List ℕ} {n i : ℕ} (d : Downward s i) (u : Unnumbered marks order n i) where
  m : Marked marks order n
  m = u.rows

  none : get_or marks i 0 ≡ 0
  none = u.none

  pub leaf-placeable : Placeable marks order n i
  leaf-placeable = placeable m d.small none

  pub number-leaf : get_or s (i * 3) 0 ≡ leaf_mark → {r : ℕ} {marks' order' : List ℕ} → Placed marks order n i r marks' order'
      → Numbered s marks order n i r marks' order'
  unfolding label_at
  number-leaf e {r} {marks'} {order'} p =
      rw (p.count, p.marks-are, p.order_is) (record { rows = placed m d.small none; finished = fin; above = λ k h. get_or-set_other marks i k (n + 1) 0 (λ q. omega arith) })
    where
      fin : (depth : ℕ) → i < depth → take (n + 1) (set order n i) ≡ finish s depth i (take n order)
      fin zero h = absurd (omega arith)
      fin (suc depth) h =
          rw add-one (take-suc-set order n i (omega (arith, leaf-placeable.room, m.order-places)))
          ∙ sym (finish-leaf s depth i (take n order) (mark-none m i none) e)

  module _ (e : get_or s (i * 3) 0 ≡ leaf_mark → ⊥) {a : ℕ} {m₁ o₁ : List ℕ} (x : Numbered s marks order n (get_or s (i * 3 + 1) 0) a m₁ o₁)
      {b : ℕ} {m₂ o₂ : List ℕ} (y : Numbered s m₁ o₁ a (get_or s (i * 3 + 2) 0) b m₂ o₂) where
    still : get_or m₂ i 0 ≡ 0
    still = y.above i (less-low d e) ∙ x.above i (less-high d e) ∙ none

    pub branch-placeable : Placeable m₂ o₂ b i
    branch-placeable = placeable y.rows d.small still

    pub number-branch : {r : ℕ} {marks' order' : List ℕ} → Placed m₂ o₂ b i r marks' order'
        → Numbered s marks order n i r marks' order'
    unfolding label_at high_at low_at
    number-branch {r} {marks'} {order'} p =
        rw (p.count, p.marks-are, p.order_is) (record { rows = placed y.rows d.small still; finished = fin; above = up })
      where
        up : (k : ℕ) → i < k → get_or (set m₂ i (b + 1)) k 0 ≡ get_or marks k 0
        up k h =
            let u = less-low d e in
            let v = less-high d e in
            get_or-set_other m₂ i k (b + 1) 0 (λ q. omega arith) ∙ y.above k (omega arith) ∙ x.above k (omega arith)

        fin : (depth : ℕ) → i < depth → take (b + 1) (set o₂ b i) ≡ finish s depth i (take n order)
        fin zero h = absurd (omega arith)
        fin (suc depth) h =
            let u = less-low d e in
            let v = less-high d e in
            rw add-one (take-suc-set o₂ b i (omega (arith, branch-placeable.room, y.rows.order-places)))
            ∙ ap (λ (t : List ℕ). t ++ (i ∷ [])) (y.finished depth (omega arith) ∙ ap (finish s depth (low_at s i)) (x.finished depth (omega arith)))
            ∙ sym (finish-branch s depth i (take n order) (mark-none m i none) e)

-- the loop of `unmark`: the rows numbered from j on may be marked
pub record Unmarking (marks order : List ℕ) (m j : ℕ) : Type 0 where
  pub below : j ≤ m
  pub mark-places : space_rows ≤ length marks
  pub order-places : space_rows ≤ length order
  pub few : m ≤ space_rows
  pub small : (i : ℕ) → i < m → get_or order i 0 < space_rows
  pub marked : (k i : ℕ) → k < space_rows → get_or marks k 0 ≡ suc i → (j ≤ i) × (i < m) × (get_or order i 0 ≡ k)

pub unmark-start : {marks order : List ℕ} {m : ℕ} → Marked marks order m → Unmarking marks order m 0
unmark-start h = record {
  below = zero-le;
  mark-places = h.mark-places;
  order-places = h.order-places;
  few = h.few;
  small = λ i l. (h.numbered i l).0;
  marked = λ k i l e. let z = h.marked k i l e in (zero-le, z.0, z.1);
}

module _ {marks order : List ℕ} {m j : ℕ} (u : Unmarking marks order m j) where
  module _ (h : j < m) {w : ℕ} (p : w ≡ get_or order j 0) where
    pub unmark-place : w < length marks
    unmark-place = omega (arith, u.small j h, u.mark-places, p)

    pub unmark-fits : Fits w64 (w * 2)
    unmark-fits = omega (arith, u.small j h, p)

    pub unmark-on : Unmarking (set marks w 0) order m (j + 1)
    unmark-on = record {
      below = omega arith;
      mark-places = rw length-set u.mark-places;
      order-places = u.order-places;
      few = u.few;
      small = u.small;
      marked = λ k i l e. go k i l e (flag (eqb k w));
    }
      where
        go : (k i : ℕ) → k < space_rows → get_or (set marks w 0) k 0 ≡ suc i → Flag (eqb k w) → (j + 1 ≤ i) × (i < m) × (get_or order i 0 ≡ k)
        go k i l e (is_true q) =
            let z : suc i ≡ 0 = sym e ∙ ap (λ (x : ℕ). get_or (set marks w 0) x 0) (eqb-true k w q) ∙ get_or-set_same marks w 0 0 unmark-place in
            absurd (omega arith)
        go k i l e (is_false q) =
            let q' = eqb-false k w q in
            let z = u.marked k i l (sym (get_or-set_other marks w k 0 0 q') ∙ e) in
            (past (cmp j i) z, z.1, z.2)
          where
            past : Cmp j i → (j ≤ i) × (i < m) × (get_or order i 0 ≡ k) → j + 1 ≤ i
            past (below y) z = omega arith
            past (equal y) z = absurd (eqb-false k w q (sym z.2 ∙ ap (λ (x : ℕ). get_or order x 0) (sym y) ∙ sym p))
            past (above y) z = absurd (omega (arith, z.0))

  pub unmark-end : m ≤ j → Unmarked marks
  unmark-end h = record { places = u.mark-places; zeros = λ k l. go k l (cmp (get_or marks k 0) 0) }
    where
      go : (k : ℕ) → k < space_rows → Cmp (get_or marks k 0) 0 → get_or marks k 0 ≡ 0
      go k l (below q) = absurd (omega arith)
      go k l (equal q) = q
      go k l (above q) = let z = u.marked k (get_or marks k 0 - 1) l (omega arith) in absurd (omega (arith, z.0, z.1))
