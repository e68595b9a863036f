-- Laws of `is_on_path`, `edge_word` and `find_edges`.
use mathlib.Core.Path.{◌≡◌, refl, sym, ap, ◌∙◌}
use mathlib.Core.Logic.{◌≢◌}
use mathlib.Core.Bool.{Bool, true, false, not, ◌||◌}
use mathlib.Core.List.{List}
use Prim.Native.Nat.{ℕ, zero, suc, ◌+◌, ◌-◌, ◌*◌, ◌≤◌, ◌<◌}
use native.Mathlib.Omega.{arith}
use native.Mathlib.Numerals.{add-one}
use lib.ListN.{length, get_or, set, length-set}
use lib.Seq.{get_or-set_same, get_or-set_other}
use lib.Dec.{eqb}
use borrow.Author.Tests.{eq-eqb, ne_eqb}
use Rattle.basics.specs.Tests.{Flag, is_true, is_false, flag, Cmp, cmp, below, equal, above, or-one, or-other}
use Rattle.label.specs.Limits.{leaf_mark}
use Rattle.diagram.specs.Sizes.{most_rows}
use Rattle.diagram.specs.Diagram.{Diagram}
use Rattle.diagram.specs.Words.{label_at, row_count}
use Rattle.diagram.specs.Validity.{tree}
use Rattle.paths.specs.Paths.{through}
use Rattle.paths.specs.Inner.{bit, At, Sided}
use Rattle.paths.specs.Routes.{path_at}
use Rattle.paths.proofs.RouteLaws.{routed-at}
use Rattle.reduction.specs.Reduction.{is_on}
use Rattle.pruning.specs.Pruning.{Agrees, edge_at}
use Rattle.reduce.specs.Routing.{winning, is_on_path, stays_in, Won, Edged}

-- `is_on_path`
module _ {ws counts wins : List ℕ} {n m r side p : ℕ} (w : Won ws counts wins n m) (e : Edged n r side) (h : p < m) where
  pub path-at : At ws n (n - 1) p
  path-at = routed-at w.routed h

  abbrev On : Bool
  On = is_on_path (tree ws (n - 1)) wins (tree ws r) (eqb side 1) p

  pub unmarked-off : get_or wins p 0 ≡ 0 → not (eqb (get_or wins p 0) 0) ≡ On
  unfolding is_on_path
  unmarked-off q = rw (eq-eqb (get_or wins p 0) 0 q)

  module _ {x : ℕ} (s : Sided (tree ws r) (path_at (tree ws (n - 1)) p) x) where
    goes_through : through (tree ws r) (eqb side 1) (path_at (tree ws (n - 1)) p) ≡ eqb x side
    goes_through = go (cmp side 1)
      where
        go : Cmp side 1 → through (tree ws r) (eqb side 1) (path_at (tree ws (n - 1)) p) ≡ eqb x side
        go (below q) = absurd (omega (arith, e.low))
        go (equal q) = rw (q) s.on-true
        go (above q) = let z : side ≡ 2 = omega (arith, e.high) in rw (z) s.on-false

    pub this-side : (get_or wins p 0 ≡ 0 → ⊥) → eqb x side ≡ On
    unfolding is_on_path
    this-side u = rw (ne_eqb (get_or wins p 0) 0 u, goes_through)

-- `edge_word`
module _ {ws counts wins : List ℕ} {n m r side : ℕ} (w : Won ws counts wins n m) (e : Edged n r side) where
  pub row_small : r < most_rows
  row_small = omega (arith, e.row, w.routed.rows.few)

  pub row-place : r * 3 < length ws
  row-place = omega (arith, e.row, w.routed.rows.room)

pub leaf-word : {A : Type 0} (ws : List ℕ) (r : ℕ) → get_or ws (r * 3) 0 ≡ leaf_mark → label_at ws r ≢ leaf_mark → A
unfolding label_at
leaf-word ws r e n = absurd (n e)

module _ (d : Diagram) (wins : List ℕ) (r : Diagram) (b : Bool) where
  pub on-start : is_on d (winning wins 0) r b ≡ false
  unfolding is_on winning
  on-start = refl

  on_step : (p : ℕ) → is_on d (winning wins (suc p)) r b ≡ (is_on_path d wins r b p || is_on d (winning wins p) r b)
  unfolding is_on winning is_on_path
  on_step p = go (flag (eqb (get_or wins p 0) 0))
    where
      go : Flag (eqb (get_or wins p 0) 0) → is_on d (winning wins (suc p)) r b ≡ (is_on_path d wins r b p || is_on d (winning wins p) r b)
      go (is_true e) = rw e
      go (is_false e) = rw e

  pub on-again : {x : Bool} (p : ℕ) → is_on d (winning wins p) r b ≡ false → x ≡ is_on_path d wins r b p → x ≡ false → is_on d (winning wins (p + 1)) r b ≡ false
  on-again {x} p e q z = ap (λ (k : ℕ). is_on d (winning wins k) r b) (add-one p) ∙ on_step p ∙ rw (sym q ∙ z, e)

  on-later : (p m : ℕ) → p < m → is_on_path d wins r b p ≡ true → is_on d (winning wins m) r b ≡ true
  on-later p zero h e = absurd (omega arith)
  on-later p (suc m) h e = on_step m ∙ go (cmp p m) (on-later p m)
    where
      go : Cmp p m → (p < m → is_on_path d wins r b p ≡ true → is_on d (winning wins m) r b ≡ true) → (is_on_path d wins r b m || is_on d (winning wins m) r b) ≡ true
      go (below q) ih = or-other (is_on_path d wins r b m) _ (ih q e)
      go (equal q) ih = or-one _ (is_on d (winning wins m) r b) (ap (is_on_path d wins r b) (sym q) ∙ e)
      go (above q) ih = absurd (omega arith)

  pub on-found : {x : Bool} (p m : ℕ) → p < m → x ≡ is_on_path d wins r b p → x ≡ true → 1 ≡ bit (is_on d (winning wins m) r b)
  on-found {x} p m h q z = sym (ap bit (on-later p m h (sym q ∙ z)))

  pub on_none : (p m : ℕ) → p ≤ m → m ≤ p → is_on d (winning wins p) r b ≡ false → 0 ≡ bit (is_on d (winning wins m) r b)
  on_none p m h k e = let z : m ≡ p = omega arith in sym (ap bit (ap (λ (k : ℕ). is_on d (winning wins k) r b) z ∙ e))

-- `find_edges`: the words of the first i rows are told
pub record Told (ws wins : List ℕ) (m : ℕ) (edges : List ℕ) (i : ℕ) : Type 0 where
  pub within : i ≤ row_count ws
  pub each : (j : ℕ) → j < i → label_at ws j ≢ leaf_mark → (b : Bool) → get_or edges (edge_at j b) 0 ≡ bit (stays_in ws wins m (tree ws j) b)

pub told_none : (ws wins : List ℕ) (m : ℕ) (edges : List ℕ) → Told ws wins m edges 0
told_none ws wins m edges = record { within = omega arith; each = λ j h. absurd (omega arith) }

pub told-edged : {n i : ℕ} → i < n → (side : ℕ) → 1 ≤ side → side ≤ 2 → Edged n i side
told-edged h side l k = record { row = h; low = l; high = k }

pub told-all : {ws wins : List ℕ} {m : ℕ} {edges : List ℕ} {i : ℕ} → Told ws wins m edges i → row_count ws ≤ i → Agrees ws edges (stays_in ws wins m)
told-all t h = record { each = λ j l. t.each j (omega arith) }

module _ {ws wins : List ℕ} {m : ℕ} {edges : List ℕ} {i : ℕ} (t : Told ws wins m edges i) (h : i < row_count ws) (l : row_count ws * 2 ≤ length edges) where
  pub told_more : {x y : ℕ} → (label_at ws i ≢ leaf_mark → x ≡ bit (stays_in ws wins m (tree ws i) true)) → (label_at ws i ≢ leaf_mark → y ≡ bit (stays_in ws wins m (tree ws i) false))
      → Told ws wins m (set (set edges (i * 2) x) (i * 2 + 1) y) (i + 1)
  told_more {x} {y} p q = record { within = omega arith; each = λ j k e b. go j e b (cmp j i) k }
    where
      first : (k : ℕ) → (k ≡ i * 2 + 1 → ⊥) → get_or (set (set edges (i * 2) x) (i * 2 + 1) y) k 0 ≡ get_or (set edges (i * 2) x) k 0
      first k n = get_or-set_other (set edges (i * 2) x) (i * 2 + 1) k y 0 n

      old : (k : ℕ) → (k ≡ i * 2 → ⊥) → (k ≡ i * 2 + 1 → ⊥) → get_or (set (set edges (i * 2) x) (i * 2 + 1) y) k 0 ≡ get_or edges k 0
      old k n o = first k o ∙ get_or-set_other edges (i * 2) k x 0 n

      go : (j : ℕ) → label_at ws j ≢ leaf_mark → (b : Bool) → Cmp j i → j < i + 1 → get_or (set (set edges (i * 2) x) (i * 2 + 1) y) (edge_at j b) 0 ≡ bit (stays_in ws wins m (tree ws j) b)
      go j e true (below z) k = old (j * 2) (λ w. omega arith) (λ w. omega arith) ∙ t.each j z e true
      go j e false (below z) k = old (j * 2 + 1) (λ w. omega arith) (λ w. omega arith) ∙ t.each j z e false
      go j e true (equal z) k = rw z (first (i * 2) (λ w. omega arith) ∙ get_or-set_same edges (i * 2) x 0 (omega arith) ∙ p (rw (← z) e))
      go j e false (equal z) k = rw z (get_or-set_same (set edges (i * 2) x) (i * 2 + 1) y 0 (rw length-set (omega arith)) ∙ q (rw (← z) e))
      go j e b (above z) k = absurd (omega arith)
