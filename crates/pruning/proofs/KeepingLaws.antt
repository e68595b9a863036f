-- Laws of `child`, `keep_row`, `keep_rows` and `keep`.
use mathlib.Core.Path.{◌≡◌, refl, sym, ap, ap₂, subst, ◌∙◌}
use mathlib.Core.Bool.{Bool, true, false, not, cond}
use mathlib.Core.List.{List, [], ◌∷◌}
use Prim.Native.Nat.{ℕ, pred, ◌+◌, ◌-◌, ◌*◌, ◌/◌, ◌≤◌, ◌<◌}
use native.Mathlib.Omega.{arith}
use mir.Val.{Fits}
use mir.Syntax.{w16}
use lib.ListN.{length, get_or, set, replicate, length-set, length-append, length-replicate}
use lib.Seq.{get_or-set_same, get_or-set_other}
use lib.Dec.{eqb}
use borrow.Author.Tests.{eq-eqb, ne_eqb}
use Rattle.basics.specs.Tests.{Flag, is_true, is_false, flag, Cmp, cmp, below, equal, above}
use Rattle.basics.specs.Members.{mem}
use Rattle.label.specs.Limits.{leaf_mark}
use Rattle.table.specs.Table.{buckets}
use Rattle.table.proofs.TableLaws.{clean-made}
use Rattle.diagram.specs.Sizes.{most_rows, space_rows}
use Rattle.diagram.specs.Diagram.{Diagram, leaf, same}
use Rattle.diagram.specs.Words.{label_at, high_at, low_at, row_count}
use Rattle.diagram.specs.Validity.{tree}
use Rattle.diagram.specs.Shown.{Shown}
use Rattle.apply.specs.Apply.{node}
use Rattle.apply.specs.Formed.{add}
use Rattle.apply.proofs.FormedLaws.{add-old, add-new, add-mem, add-begins}
use Rattle.store.specs.Space.{diagrams_of, Holds, Children, Formation}
use Rattle.store.proofs.SpaceLaws.{length-diagrams, holds-none, formation-row, formation-full, formation-tree, formation-old}
use Rattle.pruning.specs.Pruning.{kept_of, stays, stays_in}
use Rattle.pruning.specs.Keeping.{Keeping, Keepable, Kept}
use Rattle.pruning.specs.PruningLaws.{kept-leaf, stays-is, kept_row}
use Rattle.std.specs.Prelude.{None, Option, Some}

-- forming a row makes at most one more
add_most : (d : Diagram) (rs : List Diagram) → length (add d rs) ≤ length rs + 1
add_most d rs = go (flag (mem same d rs))
  where
    go : Flag (mem same d rs) → length (add d rs) ≤ length rs + 1
    go (is_true e) = rw (add-old d rs e) (omega arith)
    go (is_false e) = rw (add-new d rs e) (omega (arith, length-append rs (d ∷ [])))

-- `child`
pub child-gone : {x : ℕ} (y : ℕ) → x ≡ 0 → 0 ≡ cond (eqb x 0) 0 y
child-gone {x} y e = rw (eq-eqb x 0 e)

pub child-there : {x y r : ℕ} → (x ≡ 0 → ⊥) → r ≡ y → r ≡ cond (eqb x 0) 0 y
child-there {x} e q = rw (ne_eqb x 0 e) q

-- `keep_row`
module _ {ws edges s heads links numbers : List ℕ} {count i : ℕ} (g : Keeping ws edges s heads links numbers count i) (h : i < length ws / 3) where
  abbrev S : Diagram → Bool → Bool
  S = stays_in ws edges

  abbrev D : Diagram
  D = kept_of S (tree ws i)

  shown : Shown ws (row_count ws) (tree ws)
  shown = g.edged.rows.shown

  pub keep-leaf : {r : Option (ℕ × ℕ)} {s' heads' links' : List ℕ} → get_or ws (i * 3) 0 ≡ leaf_mark
      → Formation (leaf (get_or ws (i * 3 + 1) 0)) (add (leaf (get_or ws (i * 3 + 1) 0)) (diagrams_of s count)) r s' heads' links'
      → Formation D (add D (diagrams_of s count)) r s' heads' links'
  unfolding label_at high_at
  keep-leaf {r} {s'} {heads'} {links'} e f =
      let q : leaf (get_or ws (i * 3 + 1) 0) ≡ D = sym (ap (kept_of S) (shown.leaves i h e) ∙ kept-leaf S (get_or ws (i * 3 + 1) 0)) in
      subst (λ (d : Diagram). Formation d (add d (diagrams_of s count)) r s' heads' links') q f

  module _ (e : get_or ws (i * 3) 0 ≡ leaf_mark → ⊥) where
    abbrev L : ℕ
    L = get_or ws (i * 3) 0

    abbrev T : ℕ
    T = get_or ws (i * 3 + 1) 0

    abbrev F : ℕ
    F = get_or ws (i * 3 + 2) 0

    row-kids : (T < i) × (F < i)
    unfolding label_at high_at low_at
    row-kids = shown.kids i h e

    pub row-edges : i * 2 + 1 < length edges
    row-edges = omega (arith, g.edged.places)

    pub row-high : T < length numbers
    row-high = omega (arith, row-kids.0, g.edged.rows.few, g.places)

    pub row_low : F < length numbers
    row_low = omega (arith, row-kids.1, g.edged.rows.few, g.places)

    is-branch : D ≡ node L (cond (stays edges i true) (kept_of S (tree ws T)) (leaf 0)) (cond (stays edges i false) (kept_of S (tree ws F)) (leaf 0))
    unfolding label_at high_at low_at
    is-branch =
        kept_row ws edges shown S i h e
        ∙ ap₂ (λ (x y : Bool). node L (cond x (kept_of S (tree ws T)) (leaf 0)) (cond y (kept_of S (tree ws F)) (leaf 0)))
        (stays-is ws edges shown i true h) (stays-is ws edges shown i false h)

    -- a child's place, or row 0
    child-known : (b : Bool) (k r : ℕ) → k < i → r ≡ cond b 0 (get_or numbers k 0) → (r < count) × (tree s r ≡ cond (not b) (kept_of S (tree ws k)) (leaf 0))
    child-known true k r l q = rw q (g.zero-there, g.zero_is)
    child-known false k r l q = rw q (g.each k l)

    module _ {high low : ℕ} (p : high ≡ cond (eqb (get_or edges (i * 2) 0) 0) 0 (get_or numbers T 0)) (q : low ≡ cond (eqb (get_or edges (i * 2 + 1) 0) 0) 0 (get_or numbers F 0)) where
      high-known : (high < count) × (tree s high ≡ cond (stays edges i true) (kept_of S (tree ws T)) (leaf 0))
      high-known = child-known (eqb (get_or edges (i * 2) 0) 0) T high row-kids.0 p

      low-known : (low < count) × (tree s low ≡ cond (stays edges i false) (kept_of S (tree ws F)) (leaf 0))
      low-known = child-known (eqb (get_or edges (i * 2 + 1) 0) 0) F low row-kids.1 q

      pub row-children : Children count L high low
      unfolding label_at
      row-children = record {
        label-below = let z = g.edged.rows.labels i h e in omega arith;
        high-there = high-known.0;
        low-there = low-known.0;
      }

      pub keep-branch : {r : Option (ℕ × ℕ)} {s' heads' links' : List ℕ}
          → Formation (node L (tree s high) (tree s low)) (add (node L (tree s high) (tree s low)) (diagrams_of s count)) r s' heads' links'
          → Formation D (add D (diagrams_of s count)) r s' heads' links'
      keep-branch {r} {s'} {heads'} {links'} f =
          let z : node L (tree s high) (tree s low) ≡ D = ap₂ (node L) high-known.1 low-known.1 ∙ sym is-branch in
          subst (λ (d : Diagram). Formation d (add d (diagrams_of s count)) r s' heads' links') z f

-- `keep_rows`
module _ {ws edges s heads links numbers : List ℕ} {count i : ℕ} (g : Keeping ws edges s heads links numbers count i) where
  module _ (h : i < length ws / 3) where
    pub keep-place : i < length numbers
    keep-place = omega (arith, g.edged.rows.few, g.places)

    pub keep-few : i < most_rows
    keep-few = omega (arith, g.edged.rows.few)

    abbrev E : Diagram
    E = kept_of (stays_in ws edges) (tree ws i)

    module _ {r : Option (ℕ × ℕ)} {s' heads' links' : List ℕ} (f : Formation E (add E (diagrams_of s count)) r s' heads' links') where
      pub keep-full : r ≡ None → Kept ws edges None s'
      keep-full e =
          let z = formation-full (subst (λ (x : Option (ℕ × ℕ)). Formation E (add E (diagrams_of s count)) x s' heads' links') e f) in
          absurd (omega (arith, add_most E (diagrams_of s count), length-diagrams s count, g.few, g.edged.rows.few))

      module _ {j c : ℕ} (e : r ≡ Some (j, c)) where
        there : Formation E (add E (diagrams_of s count)) (Some (j, c)) s' heads' links'
        there = subst (λ (x : Option (ℕ × ℕ)). Formation E (add E (diagrams_of s count)) x s' heads' links') e f

        at_row : (j < c) × (tree s' j ≡ E)
        at_row = formation-tree there (add-mem E (diagrams_of s count))

        old_row : (x : ℕ) → x < count → (x < c) × (tree s' x ≡ tree s x)
        old_row x l = formation-old there s count (add-begins E (diagrams_of s count)) x l

        pub keep-fits : Fits w16 j
        keep-fits = omega (arith, at_row.0, there.holds.table.within)

        pub keep-on : Keeping ws edges s' heads' links' (set numbers i j) c (i + 1)
        keep-on = record {
          edged = g.edged;
          within = omega arith;
          places = rw length-set g.places;
          holds = there.holds;
          few = omega (arith, (formation-row there).2, add_most E (diagrams_of s count), length-diagrams s count, g.few);
          zero-there = (old_row 0 g.zero-there).0;
          zero_is = (old_row 0 g.zero-there).1 ∙ g.zero_is;
          each = λ x l. each x l (cmp x i);
        }
          where
            each : (x : ℕ) → x < i + 1 → Cmp x i → (get_or (set numbers i j) x 0 < c) × (tree s' (get_or (set numbers i j) x 0) ≡ kept_of (stays_in ws edges) (tree ws x))
            each x l (below q) =
                let o = g.each x q in
                let w = old_row (get_or numbers x 0) o.0 in
                rw (get_or-set_other numbers i x j 0 (λ z. omega arith)) (w.0, w.1 ∙ o.1)
            each x l (equal q) = rw (q, get_or-set_same numbers i j 0 keep-place) at_row
            each x l (above q) = absurd (omega arith)

  pub keep-end : {root : ℕ} → length ws / 3 ≤ i → root ≡ get_or numbers (length ws / 3 - 1) 0 → Kept ws edges (Some (root, count)) s
  keep-end {root} h e =
      let n = g.edged.some in
      let p : length ws / 3 - 1 ≡ pred (row_count ws) = omega arith in
      let o = g.each (length ws / 3 - 1) (omega arith) in
      record {
        stands = record {
          root = root;
          count = count;
          answer = refl;
          there = rw e o.0;
          within = g.holds.table.within;
          is = ap (tree s) e ∙ o.1 ∙ ap (λ (x : ℕ). kept_of (stays_in ws edges) (tree ws x)) p;
          written = g.holds.written;
        };
      }

-- `keep`
module _ {ws edges s : List ℕ} (g : Keepable ws edges s) where
  pub keep-empty : (n₁ n₂ : ℕ) → buckets ≤ n₁ → space_rows ≤ n₂ → Holds s (replicate n₁ 0) (replicate n₂ 0) 0
  keep-empty n₁ n₂ h l = holds-none s (replicate n₁ 0) (replicate n₂ 0) (omega (arith, g.room)) (rw length-replicate l) (clean-made n₁ h)

  module _ {r : Option (ℕ × ℕ)} {s' heads' links' : List ℕ} (f : Formation (leaf 0) (add (leaf 0) (diagrams_of s 0)) r s' heads' links') where
    pub keep-nothing : r ≡ None → Kept ws edges None s'
    keep-nothing e =
        let z = formation-full (subst (λ (x : Option (ℕ × ℕ)). Formation (leaf 0) (add (leaf 0) (diagrams_of s 0)) x s' heads' links') e f) in
        absurd (omega (arith, add_most (leaf 0) (diagrams_of s 0), length-diagrams s 0))

    pub keep-start : {j c : ℕ} (n₃ : ℕ) → r ≡ Some (j, c) → most_rows ≤ n₃ → Keeping ws edges s' heads' links' (replicate n₃ 0) c 0
    keep-start {j} {c} n₃ e l =
        let t = subst (λ (x : Option (ℕ × ℕ)). Formation (leaf 0) (add (leaf 0) (diagrams_of s 0)) x s' heads' links') e f in
        let a = formation-row t in
        let q = formation-tree t (add-mem (leaf 0) (diagrams_of s 0)) in
        let few : c ≤ 1 = omega (arith, a.2, add_most (leaf 0) (diagrams_of s 0), length-diagrams s 0) in
        let zero-j : j ≡ 0 = omega (arith, q.0) in
        record {
          edged = g.edged;
          within = omega arith;
          places = rw length-replicate l;
          holds = t.holds;
          few = few;
          zero-there = omega (arith, q.0);
          zero_is = ap (tree s') (sym zero-j) ∙ q.1;
          each = λ x h. absurd (omega arith);
        }
