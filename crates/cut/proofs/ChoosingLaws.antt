-- Laws of the functions that choose an edge.
use mathlib.Core.Path.{◌≡◌, refl, sym, ap, subst, ◌∙◌}
use mathlib.Core.Logic.{◌≢◌}
use mathlib.Core.Bool.{Bool, true, false, not, ◌&&◌, ◌||◌, and-false, or-true}
use mathlib.Core.List.{List}
use Prim.Native.Nat.{ℕ, zero, suc, ◌+◌, ◌-◌, ◌*◌, ◌≤◌, ◌<◌}
use native.Mathlib.Omega.{arith}
use native.Mathlib.Numerals.{add-one}
use native.Mathlib.Nat.{zero-add, suc-add}
use lib.ListN.{length, get_or, set, replicate, length-set, length-replicate}
use lib.Seq.{get_or-set_same, get_or-set_other}
use lib.Dec.{eqb}
use borrow.Author.Tests.{eqb-true, eqb-false, eq-eqb, ne_eqb, le-leb, lt-leb, not-true, not-false}
use Rattle.basics.specs.Tests.{Flag, is_true, is_false, flag, Cmp, cmp, below, equal, above}
use Rattle.label.specs.Limits.{first_minimum, leaf_mark}
use Rattle.diagram.specs.Diagram.{Diagram, leaf, same}
use Rattle.diagram.specs.Words.{label_at, high_at}
use Rattle.diagram.specs.Validity.{tree}
use Rattle.cutting.specs.Cut.{covers, may_go}
use Rattle.paths.specs.Paths.{most_paths}
use Rattle.paths.specs.Inner.{Rows, Sided}
use Rattle.paths.proofs.RouteLaws.{routed-at}
use Rattle.matcher.specs.Stored.{Enterable}
use Rattle.matcher.specs.Covering.{Held}
use Rattle.cut.specs.Choosing.{path_of, Sides, Known, Asking, Facing, Edged, Tested, is_cover_on, cover_below, is_free_on, free_below}
use Rattle.cut.specs.ChoosingLaws.{child-before, may-go-is}

-- `find_sides`
pub sides-none : (ws sides : List ℕ) (n r : ℕ) → Sides ws sides n 0 r
sides-none ws sides n r = record { places = omega arith; each = λ p h. absurd (omega arith) }

pub sides-more : {ws sides : List ℕ} {n p r v : ℕ} → Sides ws sides n p r → p < length sides → Sided (tree ws r) (path_of ws n p) v → Sides ws (set sides p v) n (p + 1) r
sides-more {ws} {sides} {n} {p} {r} {v} l h e = record { places = rw length-set (omega arith); each = λ q b. each q b (cmp q p) }
  where
    each : (q : ℕ) → q < p + 1 → Cmp q p → Sided (tree ws r) (path_of ws n q) (get_or (set sides p v) q 0)
    each q b (below k) = rw (get_or-set_other sides p q v 0 (λ z. omega arith)) (l.each q k)
    each q b (equal k) = rw (k, get_or-set_same sides p v 0 h) e
    each q b (above k) = absurd (omega arith)

pub sides_all : {ws sides : List ℕ} {n m p r : ℕ} → Sides ws sides n p r → p ≤ m → m ≤ p → Sides ws sides n m r
sides_all {ws} {sides} {n} {m} {p} {r} l h k = let e : p ≡ m = omega arith in subst (λ (x : ℕ). Sides ws sides n x r) e l

-- `is_covered`
module _ {ar ws counts memo from : List ℕ} {n p q : ℕ} (k : Known ar ws memo n) (pair-first : p < 256) (c : Enterable ar ws counts n q from) where
  abbrev Covers : Bool
  Covers = covers ar (path_of ws n p) (path_of ws n q)

  pub pair-second : q < 256
  pair-second = omega (arith, c.path.path, c.path.few)

  pub pair_place : p * 256 + q < length memo
  pair_place = omega (arith, pair-first, pair-second, k.places)

  told : get_or memo (p * 256 + q) 0 ≢ 0 → Covers ≡ eqb (get_or memo (p * 256 + q) 0) 1
  told z = k.told p q pair-first pair-second z

  module _ {x : ℕ} (e : x ≡ get_or memo (p * 256 + q) 0) where
    pub pair-yes : x ≡ 1 → Tested ar ws n Covers true memo
    pair-yes y =
        let z : get_or memo (p * 256 + q) 0 ≡ 1 = sym e ∙ y in
        record { answer = sym (told (λ w. omega (arith, z)) ∙ rw z); known = k }

    pub pair-no : (x ≡ 1 → ⊥) → (x ≡ 0 → ⊥) → Tested ar ws n Covers false memo
    pair-no y w = record { answer = sym (told (λ z. w (e ∙ z)) ∙ ne_eqb _ 1 (λ z. y (e ∙ z))); known = k }

  -- a new answer
  module _ (v : ℕ) (a : Covers ≡ eqb v 1) where
    same-pair : (a b : ℕ) → a < 256 → b < 256 → a * 256 + b ≡ p * 256 + q → (a ≡ p) × (b ≡ q)
    same-pair a b h l z = (first (cmp a p), second (cmp a p))
      where
        first : Cmp a p → a ≡ p
        first (below y) = absurd (omega (arith, pair-first, pair-second))
        first (equal y) = y
        first (above y) = absurd (omega (arith, pair-first, pair-second))

        second : Cmp a p → b ≡ q
        second (below y) = absurd (omega (arith, pair-first, pair-second))
        second (equal y) = omega arith
        second (above y) = absurd (omega (arith, pair-first, pair-second))

    pub pair-known : Known ar ws (set memo (p * 256 + q) v) n
    pair-known = record { places = rw length-set k.places; told = λ i j h l. go i j h l (flag (eqb (i * 256 + j) (p * 256 + q))) }
      where
        go : (i j : ℕ) → i < 256 → j < 256 → Flag (eqb (i * 256 + j) (p * 256 + q)) → get_or (set memo (p * 256 + q) v) (i * 256 + j) 0 ≢ 0
            → covers ar (path_of ws n i) (path_of ws n j) ≡ eqb (get_or (set memo (p * 256 + q) v) (i * 256 + j) 0) 1
        go i j h l (is_true y) z =
            let s = same-pair i j h l (eqb-true _ _ y) in
            rw (s.0, s.1, get_or-set_same memo (p * 256 + q) v 0 pair_place) a
        go i j h l (is_false y) z =
            let o : get_or (set memo (p * 256 + q) v) (i * 256 + j) 0 ≡ get_or memo (i * 256 + j) 0
            = get_or-set_other memo (p * 256 + q) (i * 256 + j) v 0 (λ w. eqb-false _ _ y w) in
            rw o (k.told i j h l (λ w. z (o ∙ w)))

  pub pair-new-yes : {b : Bool} → b ≡ Covers → b ≡ true → Tested ar ws n Covers true (set memo (p * 256 + q) 1)
  pair-new-yes e t = record { answer = sym t ∙ e; known = pair-known 1 (sym e ∙ t) }

  pub pair-new-no : {b : Bool} → b ≡ Covers → b ≡ false → Tested ar ws n Covers false (set memo (p * 256 + q) 2)
  pair-new-no e t = record { answer = sym t ∙ e; known = pair-known 2 (sym e ∙ t) }

-- `is_cover`
module _ {ar ws counts leaves sides memo : List ℕ} {n m : ℕ} (a : Asking ar ws counts leaves sides memo n m) where
  pub ask-at : {p : ℕ} → p < m → (p < length leaves) × (p < length sides) × (p < 256)
  ask-at h = (omega (arith, a.charted.ends.places), omega (arith, a.places), omega (arith, a.charted.routed.few))

  pub ask-on : {memo' : List ℕ} → Known ar ws memo' n → Asking ar ws counts leaves sides memo' n m
  ask-on k = record { charted = a.charted; places = a.places; known = k }

  pub ask-enterable : {q : ℕ} {out : List ℕ} → q < m → first_minimum + most_paths ≤ length out → Enterable ar ws counts n q out
  ask-enterable h r = record {
    listed = a.charted.listed;
    plain = a.charted.plain;
    whole = a.charted.whole;
    rows = a.charted.routed.rows;
    counted = a.charted.routed.counted;
    path = routed-at a.charted.routed h;
    room = r;
  }

  module _ {p q : ℕ} (h : p < m) (k : q < m) where
    pub cover-through : (side : ℕ) → get_or sides q 0 ≡ side → Tested ar ws n (is_cover_on ar ws n sides side p q) false memo
    unfolding is_cover_on
    cover-through side e = record { answer = rw (eq-eqb (get_or sides q 0) side e); known = a.known }

    module _ (side : ℕ) (e : get_or sides q 0 ≡ side → ⊥) where
      pub cover-low : get_or leaves q 0 < get_or leaves p 0 → Tested ar ws n (is_cover_on ar ws n sides side p q) false memo
      unfolding is_cover_on
      cover-low l = record {
        answer = rw (
          ne_eqb (get_or sides q 0) side e,
          lt-leb (path_of ws n p).end (path_of ws n q).end (omega (arith, a.charted.ends.each p h, a.charted.ends.each q k)),
        );
        known = a.known;
      }

      pub cover-asked : {r : Bool} {memo' : List ℕ} → get_or leaves p 0 ≤ get_or leaves q 0 → Tested ar ws n (covers ar (path_of ws n p) (path_of ws n q)) r memo'
          → Tested ar ws n (is_cover_on ar ws n sides side p q) r memo'
      unfolding is_cover_on
      cover-asked l t = record {
        answer = rw (
          ne_eqb (get_or sides q 0) side e,
          le-leb (path_of ws n p).end (path_of ws n q).end (omega (arith, a.charted.ends.each p h, a.charted.ends.each q k)),
        ) t.answer;
        known = t.known;
      }

-- `some_cover`, `has_cover`
pub face-on : {ar ws into kinds from from' : List ℕ} {a n p : ℕ} → Facing ar ws into a kinds from n p → length from' ≡ length from → Facing ar ws into a kinds from' n p
face-on f e = record { held = f.held; room = omega (arith, f.room) }

pub room-made : (k : ℕ) → first_minimum + most_paths ≤ k → first_minimum + most_paths ≤ length (replicate {A = ℕ} k 0)
room-made k h = omega (arith, length-replicate {A = ℕ} k 0)

pub face-made : {ar ws into kinds : List ℕ} {a n p : ℕ} (k : ℕ) → first_minimum + most_paths ≤ k → Held ar (path_of ws n p) into a kinds
    → Facing ar ws into a kinds (replicate k 0) n p
face-made k h g = record { held = g; room = room-made k h }

module _ (ar ws : List ℕ) (n : ℕ) (sides : List ℕ) (side p : ℕ) where
  pub cover-none : cover_below ar ws n sides side p 0 ≡ false
  unfolding cover_below
  cover-none = refl

  cover-more : (q : ℕ) → cover_below ar ws n sides side p (suc q) ≡ (cover_below ar ws n sides side p q || is_cover_on ar ws n sides side p q)
  unfolding cover_below
  cover-more q = refl

  cover-stays : (q d : ℕ) → cover_below ar ws n sides side p q ≡ true → cover_below ar ws n sides side p (d + q) ≡ true
  cover-stays q zero e = rw zero-add e
  cover-stays q (suc d) e = rw (suc-add, cover-more (d + q), cover-stays q d e)

  pub cover-hit : {q m : ℕ} {r : Bool} {memo' : List ℕ} → q < m → Tested ar ws n (is_cover_on ar ws n sides side p q) r memo' → r ≡ true
      → Tested ar ws n (cover_below ar ws n sides side p m) true memo'
  cover-hit {q} {m} h t e =
      let u : m ≡ (m - suc q) + suc q = omega arith in
      let hit : (cover_below ar ws n sides side p q || is_cover_on ar ws n sides side p q) ≡ true
      = ap (λ (b : Bool). cover_below ar ws n sides side p q || b) (sym t.answer ∙ e) ∙ or-true (cover_below ar ws n sides side p q) in
      record { answer = sym (ap (cover_below ar ws n sides side p) u ∙ cover-stays (suc q) (m - suc q) (cover-more q ∙ hit)); known = t.known }

  pub cover_on : (q : ℕ) {r : Bool} {memo' : List ℕ} → cover_below ar ws n sides side p q ≡ false → Tested ar ws n (is_cover_on ar ws n sides side p q) r memo' → r ≡ false
      → cover_below ar ws n sides side p (q + 1) ≡ false
  cover_on q b t e = rw (add-one, cover-more q, b) (sym t.answer ∙ e)

  pub cover-end : {q m : ℕ} {memo' : List ℕ} → cover_below ar ws n sides side p q ≡ false → q ≤ m → m ≤ q → Known ar ws memo' n
      → Tested ar ws n (cover_below ar ws n sides side p m) false memo'
  cover-end {q} {m} b h k g = let e : q ≡ m = omega arith in record { answer = sym (ap (cover_below ar ws n sides side p) (sym e) ∙ b); known = g }

-- `is_free`
module _ {ar ws counts leaves sides memo : List ℕ} {n m : ℕ} (a : Asking ar ws counts leaves sides memo n m) {p : ℕ} (h : p < m) (side : ℕ) where
  pub free_other : (get_or sides p 0 ≡ side → ⊥) → Tested ar ws n (is_free_on ar ws n sides side m p) true memo
  unfolding is_free_on
  free_other e = record { answer = rw (ne_eqb (get_or sides p 0) side e); known = a.known }

  module _ (e : get_or sides p 0 ≡ side) where
    pub free-zero : get_or leaves p 0 ≡ 0 → Tested ar ws n (is_free_on ar ws n sides side m p) true memo
    unfolding is_free_on
    free-zero z = record {
      answer = rw (eq-eqb (get_or sides p 0) side e, eq-eqb (path_of ws n p).end 0 (sym (a.charted.ends.each p h) ∙ z));
      known = a.known;
    }

    pub free-covered : {r : Bool} {memo' : List ℕ} → (get_or leaves p 0 ≡ 0 → ⊥) → Tested ar ws n (cover_below ar ws n sides side p m) r memo'
        → Tested ar ws n (is_free_on ar ws n sides side m p) r memo'
    unfolding is_free_on
    free-covered z t = record {
      answer = rw (eq-eqb (get_or sides p 0) side e, ne_eqb (path_of ws n p).end 0 (λ y. z (a.charted.ends.each p h ∙ y))) t.answer;
      known = t.known;
    }

-- `is_zero`
module _ {ws : List ℕ} {n i : ℕ} (w : Rows ws n) (h : i < n) where
  pub zero-branch : (get_or ws (i * 3) 0 ≡ leaf_mark → ⊥) → eqb (get_or ws (i * 3) 0) leaf_mark ≡ same (tree ws i) (leaf 0)
  unfolding label_at same
  zero-branch e = rw (ne_eqb (get_or ws (i * 3) 0) leaf_mark e, w.shown.branches i h e)

  pub zero-leaf : get_or ws (i * 3) 0 ≡ leaf_mark → eqb (get_or ws (i * 3 + 1) 0) 0 ≡ same (tree ws i) (leaf 0)
  unfolding label_at high_at same
  zero-leaf e = rw (w.shown.leaves i h e)

-- `may_go`
module _ (ar ws : List ℕ) (n : ℕ) (sides : List ℕ) (side m : ℕ) where
  pub free-none : free_below ar ws n sides side m 0 ≡ true
  unfolding free_below
  free-none = refl

  free_more : (p : ℕ) → free_below ar ws n sides side m (suc p) ≡ (free_below ar ws n sides side m p && is_free_on ar ws n sides side m p)
  unfolding free_below
  free_more p = refl

  free-stops : (p d : ℕ) → free_below ar ws n sides side m p ≡ false → free_below ar ws n sides side m (d + p) ≡ false
  free-stops p zero e = rw zero-add e
  free-stops p (suc d) e = rw (suc-add, free_more (d + p), free-stops p d e)

  pub free_on : (p : ℕ) {r : Bool} {memo' : List ℕ} → free_below ar ws n sides side m p ≡ true → Tested ar ws n (is_free_on ar ws n sides side m p) r memo' → not r ≡ false
      → free_below ar ws n sides side m (p + 1) ≡ true
  free_on p b t e = rw (add-one, free_more p, b) (sym t.answer ∙ not-false _ e)

  free-stop : {p : ℕ} {r : Bool} {memo' : List ℕ} → p < m → Tested ar ws n (is_free_on ar ws n sides side m p) r memo' → not r ≡ true
      → free_below ar ws n sides side m m ≡ false
  free-stop {p} h t e =
      let u : m ≡ (m - suc p) + suc p = omega arith in
      ap (free_below ar ws n sides side m) u
      ∙ free-stops (suc p) (m - suc p) (free_more p ∙ ap (λ (b : Bool). free_below ar ws n sides side m p && b) (sym t.answer ∙ not-true _ e) ∙ and-false (free_below ar ws n sides side m p))

  free_all : {p : ℕ} → free_below ar ws n sides side m p ≡ true → p ≤ m → m ≤ p → free_below ar ws n sides side m m ≡ true
  free_all {p} b h k = let e : p ≡ m = omega arith in ap (free_below ar ws n sides side m) (sym e) ∙ b

module _ {ar ws counts leaves sides memo : List ℕ} {n m r side : ℕ} (a : Asking ar ws counts leaves sides memo n m) (e : Edged ws sides n m r side) where
  abbrev May : Bool
  May = may_go ar (tree ws (n - 1)) (eqb side 1) (tree ws r)

  abbrev Child : Diagram
  Child = tree ws (get_or ws (r * 3 + side) 0)

  pub edge-child : get_or ws (r * 3 + side) 0 < n
  edge-child = child-before ar a.charted.routed e

  may-is : May ≡ (not (same Child (leaf 0)) && free_below ar ws n sides side m m)
  may-is = may-go-is ar a.charted.routed e

  pub may-zero : {b : Bool} → b ≡ same Child (leaf 0) → b ≡ true → Tested ar ws n May false memo
  may-zero q t = record { answer = sym (may-is ∙ ap (λ (x : Bool). not x && free_below ar ws n sides side m m) (sym q ∙ t)); known = a.known }

  module _ {b : Bool} (q : b ≡ same Child (leaf 0)) (t : b ≡ false) where
    pub may-stop : {p : ℕ} {x : Bool} {memo' : List ℕ} → p < m → Tested ar ws n (is_free_on ar ws n sides side m p) x memo' → not x ≡ true → Tested ar ws n May false memo'
    may-stop h u f = record {
      answer = sym (may-is ∙ ap (λ (x : Bool). not x && free_below ar ws n sides side m m) (sym q ∙ t) ∙ free-stop ar ws n sides side m h u f);
      known = u.known;
    }

    pub may-end : {p : ℕ} {memo' : List ℕ} → free_below ar ws n sides side m p ≡ true → p ≤ m → m ≤ p → Known ar ws memo' n → Tested ar ws n May true memo'
    may-end f h k g = record {
      answer = sym (may-is ∙ ap (λ (x : Bool). not x && free_below ar ws n sides side m m) (sym q ∙ t) ∙ free_all ar ws n sides side m f h k);
      known = g;
    }
