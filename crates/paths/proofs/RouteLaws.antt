-- Counts of paths, and walking a path by its number.
use mathlib.Core.Path.{◌≡◌, refl, sym, ap, ap₂, subst, ◌∙◌}
use mathlib.Core.Bool.{Bool, true, false, ◌&&◌, ◌||◌, or-false, beq}
use mathlib.Core.List.{List, [], ◌∷◌, ◌++◌, append_assoc, append-nil}
use Prim.Native.Nat.{ℕ, zero, suc, ◌+◌, ◌-◌, ◌*◌, ◌≤◌, ◌<◌, min}
use native.Mathlib.Omega.{arith}
use native.Mathlib.Numerals.{add-one}
use lib.ListN.{length, get_or, set, take, drop, length-set, length-append, length-take, length-drop}
use lib.Seq.{get_or-set_same, get_or-set_other, drop-set-add, take-suc-set}
use lib.Dec.{eqb}
use borrow.Author.Tests.{ne_eqb, eqb-true, eqb-false}
use Rattle.basics.specs.Tests.{Cmp, cmp, below, equal, above, Flag, is_true, is_false, flag}
use Rattle.label.specs.Limits.{leaf_mark}
use Rattle.diagram.specs.Diagram.{Diagram, leaf, branch, same}
use Rattle.diagram.specs.DiagramLaws.{same_refl}
use Rattle.diagram.specs.Words.{label_at, high_at, low_at}
use Rattle.diagram.specs.Validity.{tree}
use Rattle.diagram.specs.Shown.{same-eqb}
use Rattle.paths.specs.Paths.{most_paths, Path, step_before, paths, literals, is_edge, through}
use Rattle.paths.specs.PathLaws.{paths-leaf, paths-branch, path-short, path-high, path-low, path-in, codes-length, codes-step}
use Rattle.paths.specs.Inner.{codes, label_end, Rows, Counted, At, Routed, Leaves, Sided, Entered}
use Rattle.paths.specs.Routes.{step_on, path_at}
use Rattle.paths.specs.Walking.{Stepped, Rest, RestOver, Coming}
use Rattle.paths.specs.declared.Here.{Here}

-- ===== Rows =====
module _ {ws : List ℕ} {n : ℕ} (w : Rows ws n) {i : ℕ} (h : i < n) where
  leaf-tree : get_or ws (i * 3) 0 ≡ leaf_mark → tree ws i ≡ leaf (get_or ws (i * 3 + 1) 0)
  leaf-tree e = unfold label_at high_at in (w.shown.leaves i h (unfold label_at in e))

  branch-tree : (get_or ws (i * 3) 0 ≡ leaf_mark → ⊥) → tree ws i ≡ branch (get_or ws (i * 3) 0) (tree ws (get_or ws (i * 3 + 1) 0)) (tree ws (get_or ws (i * 3 + 2) 0))
  branch-tree e = unfold label_at high_at low_at in (w.shown.branches i h (unfold label_at in e))

  branch-kids : (get_or ws (i * 3) 0 ≡ leaf_mark → ⊥) → (get_or ws (i * 3 + 1) 0 < i) × (get_or ws (i * 3 + 2) 0 < i)
  branch-kids e = unfold label_at high_at low_at in (w.shown.kids i h (unfold label_at in e))

  label-most : (get_or ws (i * 3) 0 ≡ leaf_mark → ⊥) → get_or ws (i * 3) 0 < label_end
  label-most e = unfold label_at in (w.labels i h (unfold label_at in e))

  pub count-leaf : get_or ws (i * 3) 0 ≡ leaf_mark → 1 ≡ min (suc most_paths) (length (paths (tree ws i)))
  count-leaf e =
      let p = ap (λ (d : Diagram). length (paths d)) (leaf-tree e) in
      omega (arith, paths-leaf (get_or ws (i * 3 + 1) 0))

  module _ (e : get_or ws (i * 3) 0 ≡ leaf_mark → ⊥) {counts : List ℕ} {m : ℕ} (c : Counted ws counts m) (l : i ≤ m) where
    pub high-room : get_or ws (i * 3 + 1) 0 < length counts
    high-room = omega (arith, (branch-kids e).0, c.room)

    pub low-room : get_or ws (i * 3 + 2) 0 < length counts
    low-room = omega (arith, (branch-kids e).1, c.room)

    count-high : get_or counts (get_or ws (i * 3 + 1) 0) 0 ≡ min (suc most_paths) (length (paths (tree ws (get_or ws (i * 3 + 1) 0))))
    count-high = c.each (get_or ws (i * 3 + 1) 0) (omega (arith, (branch-kids e).0))

    count_low : get_or counts (get_or ws (i * 3 + 2) 0) 0 ≡ min (suc most_paths) (length (paths (tree ws (get_or ws (i * 3 + 2) 0))))
    count_low = c.each (get_or ws (i * 3 + 2) 0) (omega (arith, (branch-kids e).1))

    count-tree : length (paths (tree ws i)) ≡ length (paths (tree ws (get_or ws (i * 3 + 1) 0))) + length (paths (tree ws (get_or ws (i * 3 + 2) 0)))
    count-tree = ap (λ (d : Diagram). length (paths d)) (branch-tree e) ∙ paths-branch (get_or ws (i * 3) 0) (tree ws (get_or ws (i * 3 + 1) 0)) (tree ws (get_or ws (i * 3 + 2) 0))

    pub sum-small : get_or counts (get_or ws (i * 3 + 1) 0) 0 + get_or counts (get_or ws (i * 3 + 2) 0) 0 ≤ 514
    sum-small = omega (arith, count-high, count_low)

    pub count-min : min (get_or counts (get_or ws (i * 3 + 1) 0) 0 + get_or counts (get_or ws (i * 3 + 2) 0) 0) (suc most_paths) ≡ min (suc most_paths) (length (paths (tree ws i)))
    count-min = omega (arith, count-high, count_low, count-tree)

pub leaf-label : (ws : List ℕ) (i : ℕ) → (get_or ws (i * 3) 0 ≡ leaf_mark → ⊥) → label_at ws i ≡ leaf_mark → ⊥
unfolding label_at
leaf-label ws i e = e

-- counting row by row
pub counted_none : (ws counts : List ℕ) → Counted ws counts 0
counted_none ws counts = record { room = omega arith; each = λ i h. absurd (omega arith) }

pub counted-more : {ws counts : List ℕ} {i r : ℕ} → Counted ws counts i → i < length counts → r ≡ min (suc most_paths) (length (paths (tree ws i))) → Counted ws (set counts i r) (i + 1)
counted-more {ws} {counts} {i} {r} c h e = record { room = omega (arith, length-set counts i r); each = λ j l. at j l (cmp j i) }
  where
    at : (j : ℕ) → j < i + 1 → Cmp j i → get_or (set counts i r) j 0 ≡ min (suc most_paths) (length (paths (tree ws j)))
    at j l (below q) = get_or-set_other counts i j r 0 (omega arith) ∙ c.each j q
    at j l (equal q) = ap (λ (m : ℕ). get_or (set counts i r) m 0) q ∙ get_or-set_same counts i r 0 h ∙ e ∙ ap (λ (m : ℕ). min (suc most_paths) (length (paths (tree ws m)))) (sym q)
    at j l (above q) = absurd (omega arith)

pub counted-all : {ws counts : List ℕ} {n i l : ℕ} → Counted ws counts i → n ≤ i → n ≤ l → length counts ≡ l → Counted ws counts n
counted-all c h k e = record { room = omega arith; each = λ j q. c.each j (omega arith) }

-- ===== Paths by number =====
module _ {ws counts : List ℕ} {n i k : ℕ} (w : Rows ws n) (c : Counted ws counts n) (a : At ws n i k) (g : label_at ws i ≡ leaf_mark → ⊥) where
  e : get_or ws (i * 3) 0 ≡ leaf_mark → ⊥
  e = unfold label_at in g

  pub step_room : get_or ws (i * 3 + 1) 0 < length counts
  step_room = high-room w a.row e c (omega (arith, a.row))

  pub step_label : get_or ws (i * 3) 0 < label_end
  step_label = label-most w a.row e

  exact : get_or counts (get_or ws (i * 3 + 1) 0) 0 ≡ length (paths (tree ws (get_or ws (i * 3 + 1) 0)))
  exact = omega (arith, count-high w a.row e c (omega (arith, a.row)), count-tree w a.row e c (omega (arith, a.row)), a.few)

  step_from : (b : Bool) (p : Path) → step_before (step_on b (get_or ws (i * 3) 0) (tree ws (get_or ws (i * 3 + 1) 0)) (tree ws (get_or ws (i * 3 + 2) 0))) p
      ≡ step_before (record { from = tree ws i; label = label_at ws i; side = b }) p
  step_from b p = unfold label_at in (ap (λ (d : Diagram). step_before (record { from = d; label = get_or ws (i * 3) 0; side = b }) p) (sym (branch-tree w a.row e)))

  pub step-high-is : k < get_or counts (get_or ws (i * 3 + 1) 0) 0
      → path_at (tree ws i) k ≡ step_before (record { from = tree ws i; label = label_at ws i; side = true }) (path_at (tree ws (get_or ws (i * 3 + 1) 0)) k)
  step-high-is h =
      ap (λ (d : Diagram). path_at d k) (branch-tree w a.row e)
      ∙ path-high (get_or ws (i * 3) 0) k (tree ws (get_or ws (i * 3 + 1) 0)) (tree ws (get_or ws (i * 3 + 2) 0)) less ∙ step_from true (path_at (tree ws (get_or ws (i * 3 + 1) 0)) k)
    where
      less : k < length (paths (tree ws (get_or ws (i * 3 + 1) 0)))
      less = omega (arith, exact)

  pub step-low-is : get_or counts (get_or ws (i * 3 + 1) 0) 0 ≤ k
      → path_at (tree ws i) k ≡ step_before (record { from = tree ws i; label = label_at ws i; side = false })
      (path_at (tree ws (get_or ws (i * 3 + 2) 0)) (k - get_or counts (get_or ws (i * 3 + 1) 0) 0))
  step-low-is h =
      ap (λ (d : Diagram). path_at d k) (branch-tree w a.row e)
      ∙ path-low (get_or ws (i * 3) 0) k (tree ws (get_or ws (i * 3 + 1) 0)) (tree ws (get_or ws (i * 3 + 2) 0)) less
      ∙ ap (λ (m : ℕ). step_before (step_on false (get_or ws (i * 3) 0) (tree ws (get_or ws (i * 3 + 1) 0)) (tree ws (get_or ws (i * 3 + 2) 0)))
      (path_at (tree ws (get_or ws (i * 3 + 2) 0)) (k - m))) (sym exact)
      ∙ step_from false (path_at (tree ws (get_or ws (i * 3 + 2) 0)) (k - get_or counts (get_or ws (i * 3 + 1) 0) 0))
    where
      less : length (paths (tree ws (get_or ws (i * 3 + 1) 0))) ≤ k
      less = omega (arith, exact)

  pub step-high : k < get_or counts (get_or ws (i * 3 + 1) 0) 0 → Stepped ws n i k (record { row = get_or ws (i * 3 + 1) 0; rest = k; code = get_or ws (i * 3) 0 * 2 + 1 })
  step-high h = record {
    at = record {
      row = omega (arith, (branch-kids w a.row e).0, a.row);
      path = omega (arith, exact);
      few = omega (arith, count-tree w a.row e c (omega (arith, a.row)), a.few);
    };
    before = (branch-kids w a.row e).0;
    side = true;
    is = step-high-is h;
    code = unfold label_at in refl;
    small = omega (arith, step_label);
  }

  pub step-low : get_or counts (get_or ws (i * 3 + 1) 0) 0 ≤ k
      → Stepped ws n i k (record { row = get_or ws (i * 3 + 2) 0; rest = k - get_or counts (get_or ws (i * 3 + 1) 0) 0; code = get_or ws (i * 3) 0 * 2 })
  step-low h = record {
    at = record {
      row = omega (arith, (branch-kids w a.row e).1, a.row);
      path = omega (arith, exact, count-tree w a.row e c (omega (arith, a.row)), a.path);
      few = omega (arith, count-tree w a.row e c (omega (arith, a.row)), a.few);
    };
    before = (branch-kids w a.row e).1;
    side = false;
    is = step-low-is h;
    code = unfold label_at in (omega arith);
    small = omega (arith, step_label);
  }

-- ===== Along a path =====
module _ {ws : List ℕ} {n : ℕ} (w : Rows ws n) where
  pub rest-start : {k : ℕ} → At ws n (n - 1) k → Rest ws n (n - 1) k (n - 1) k
  rest-start a = record { at = a; end_same = refl }

  pub rest-next : {r k i m : ℕ} {s : Here} → Rest ws n r k i m → Stepped ws n i m s → Rest ws n r k s.row s.rest
  unfolding step_before
  rest-next q s = record { at = s.at; end_same = sym (ap (λ (p : Path). p.end) s.is) ∙ q.end_same }

  pub rest_end : {r k i m : ℕ} → Rest ws n r k i m → get_or ws (i * 3) 0 ≡ leaf_mark → get_or ws (i * 3 + 1) 0 ≡ (path_at (tree ws r) k).end
  unfolding path_at
  rest_end {m = m} q e = sym (ap (λ (d : Diagram). (path_at d m).end) (leaf-tree w q.at.row e)) ∙ q.end_same

  -- rows are told apart by their numbers
  other_row : (x i : ℕ) → x < n → i < n → (x ≡ i → ⊥) → same (tree ws x) (tree ws i) ≡ false
  other_row x i h k d = same-eqb ws n (tree ws) w.shown x i h k ∙ ne_eqb x i d

  passes : (x i : ℕ) → x < n → i < n → (x ≡ i → ⊥) → (b c : Bool) (l : ℕ) (p : Path)
      → through (tree ws x) b (step_before (record { from = tree ws i; label = l; side = c }) p) ≡ through (tree ws x) b p
  unfolding through step_before is_edge
  passes x i h k d b c l p = rw (other_row x i h k d)

  pub over-start : {x k : ℕ} → At ws n (n - 1) k → RestOver ws n x (n - 1) k (n - 1) k
  over-start a = record { at = a; same = λ b. refl }

  pub over-next : {x r k i m : ℕ} {s : Here} → x < n → x < i → RestOver ws n x r k i m → Stepped ws n i m s → RestOver ws n x r k s.row s.rest
  over-next {x} {i = i} h l q s = record {
    at = s.at;
    same = λ b. sym (ap (through (tree ws x) b) s.is ∙ passes x i h q.at.row (omega arith) b s.side (label_at ws i) (path_at (tree ws _) _)) ∙ q.same b;
  }

  -- a path of a row before x does not go through x
  abbrev Before : ℕ → ℕ → Type 0
  Before x bound = (i m : ℕ) → i < bound → i < x → (b : Bool) → through (tree ws x) b (path_at (tree ws i) m) ≡ false

  before-step : (x bound : ℕ) → x < n → Before x bound → Before x (suc bound)
  before-step x bound h ih i m l k b = go (flag (eqb (get_or ws (i * 3) 0) leaf_mark))
    where
      at_leaf : (v : ℕ) → through (tree ws x) b (path_at (leaf v) m) ≡ false
      at_leaf v = unfold through path_at in refl

      at-branch : (d t f : Diagram) (y : ℕ) → d ≡ branch y t f → same (tree ws x) d ≡ false
          → ((j : ℕ) → through (tree ws x) b (path_at t j) ≡ false) → ((j : ℕ) → through (tree ws x) b (path_at f j) ≡ false) → through (tree ws x) b (path_at d m) ≡ false
      at-branch d t f y e s p q = ap (λ (z : Diagram). through (tree ws x) b (path_at z m)) e ∙ side (cmp m (length (paths t)))
        where
          s' : same (tree ws x) (branch y t f) ≡ false
          s' = ap (same (tree ws x)) (sym e) ∙ s

          off : (c : Bool) (r : Path) → through (tree ws x) b (step_before (step_on c y t f) r) ≡ through (tree ws x) b r
          off c r = unfold through step_before is_edge in (rw s')

          side : Cmp m (length (paths t)) → through (tree ws x) b (path_at (branch y t f) m) ≡ false
          side (below o) = ap (through (tree ws x) b) (path-high y m t f o) ∙ off true (path_at t m) ∙ p m
          side (equal o) = ap (through (tree ws x) b) (path-low y m t f (omega arith)) ∙ off false (path_at f (m - length (paths t))) ∙ q (m - length (paths t))
          side (above o) = ap (through (tree ws x) b) (path-low y m t f (omega arith)) ∙ off false (path_at f (m - length (paths t))) ∙ q (m - length (paths t))

      go : Flag (eqb (get_or ws (i * 3) 0) leaf_mark) → through (tree ws x) b (path_at (tree ws i) m) ≡ false
      go (is_true e) = ap (λ (z : Diagram). through (tree ws x) b (path_at z m)) (leaf-tree w (omega arith) (eqb-true (get_or ws (i * 3) 0) leaf_mark e)) ∙ at_leaf (get_or ws (i * 3 + 1) 0)
      go (is_false e) =
          let g = eqb-false (get_or ws (i * 3) 0) leaf_mark e in
          let o = branch-kids w {i = i} (omega arith) g in
          at-branch (tree ws i) (tree ws (get_or ws (i * 3 + 1) 0)) (tree ws (get_or ws (i * 3 + 2) 0)) (get_or ws (i * 3) 0) (branch-tree w (omega arith) g)
          (other_row x i h (omega arith) (omega arith))
          (λ j. ih (get_or ws (i * 3 + 1) 0) j (omega arith) (omega arith) b) (λ j. ih (get_or ws (i * 3 + 2) 0) j (omega arith) (omega arith) b)

  before : (x bound : ℕ) → x < n → Before x bound
  before x zero h i m l k b = absurd (omega arith)
  before x (suc bound) h i m l k b = before-step x bound h (before x bound h) i m l k b

  -- a path that ends, or goes below the row, is on neither side
  pub side-leaf : {x r k i m : ℕ} → x < n → RestOver ws n x r k i m → get_or ws (i * 3) 0 ≡ leaf_mark → Sided (tree ws x) (path_at (tree ws r) k) 0
  side-leaf {x} {i = i} {m = m} h q e = record { on-true = sym (q.same true) ∙ none true; on-false = sym (q.same false) ∙ none false }
    where
      none : (b : Bool) → through (tree ws x) b (path_at (tree ws i) m) ≡ false
      none b = ap (λ (z : Diagram). through (tree ws x) b (path_at z m)) (leaf-tree w q.at.row e) ∙ (unfold through path_at in refl)

  pub side-below : {x r k i m : ℕ} → x < n → RestOver ws n x r k i m → i < x → Sided (tree ws x) (path_at (tree ws r) k) 0
  side-below {x} {i = i} {m = m} h q l = record {
    on-true = sym (q.same true) ∙ before x (suc i) h i m (omega arith) l true;
    on-false = sym (q.same false) ∙ before x (suc i) h i m (omega arith) l false;
  }

  -- at the row itself the step tells the side
  here : (x i m : ℕ) (b : Bool) (row rest : ℕ) → x < n → i ≡ x → row < x
      → path_at (tree ws i) m ≡ step_before (record { from = tree ws i; label = label_at ws i; side = b }) (path_at (tree ws row) rest)
      → (y : Bool) → through (tree ws x) y (path_at (tree ws i) m) ≡ beq y b
  here x i m b row rest h z l e y =
      ap (through (tree ws x) y) e
      ∙ stepped (ap (λ (j : ℕ). same (tree ws x) (tree ws j)) z ∙ same_refl (tree ws x)) (before x (suc row) h row rest (omega arith) l y)
    where
      stepped : same (tree ws x) (tree ws i) ≡ true → through (tree ws x) y (path_at (tree ws row) rest) ≡ false
          → through (tree ws x) y (step_before (record { from = tree ws i; label = label_at ws i; side = b }) (path_at (tree ws row) rest)) ≡ beq y b
      stepped o p = split ∙ ap₂ (λ (c d : Bool). (c && beq y b) || d) o p ∙ or-false (beq y b)
        where
          split : through (tree ws x) y (step_before (record { from = tree ws i; label = label_at ws i; side = b }) (path_at (tree ws row) rest))
              ≡ ((same (tree ws x) (tree ws i) && beq y b) || through (tree ws x) y (path_at (tree ws row) rest))
          split = unfold through step_before is_edge in refl

  module _ {counts : List ℕ} {x r k i m : ℕ} (c : Counted ws counts n) (h : x < n) (q : RestOver ws n x r k i m) (l : i ≤ x) (u : x ≤ i)
      (g : get_or ws (i * 3) 0 ≡ leaf_mark → ⊥) where
    not-leaf : label_at ws i ≡ leaf_mark → ⊥
    not-leaf = unfold label_at in g

    pub here-room : get_or ws (i * 3 + 1) 0 < length counts
    here-room = step_room w c q.at not-leaf

    pub side-true : m < get_or counts (get_or ws (i * 3 + 1) 0) 0 → Sided (tree ws x) (path_at (tree ws r) k) 1
    side-true o =
        let e = step-high-is w c q.at not-leaf o in
        let d : get_or ws (i * 3 + 1) 0 < x = omega (arith, (branch-kids w q.at.row g).0) in
        record {
          on-true = sym (q.same true) ∙ here x i m true (get_or ws (i * 3 + 1) 0) m h (omega arith) d e true;
          on-false = sym (q.same false) ∙ here x i m true (get_or ws (i * 3 + 1) 0) m h (omega arith) d e false;
        }

    pub side-false : get_or counts (get_or ws (i * 3 + 1) 0) 0 ≤ m → Sided (tree ws x) (path_at (tree ws r) k) 2
    side-false o =
        let e = step-low-is w c q.at not-leaf o in
        let d : get_or ws (i * 3 + 2) 0 < x = omega (arith, (branch-kids w q.at.row g).1) in
        record {
          on-true = sym (q.same true) ∙ here x i m false (get_or ws (i * 3 + 2) 0) (m - get_or counts (get_or ws (i * 3 + 1) 0) 0) h (omega arith) d e true;
          on-false = sym (q.same false) ∙ here x i m false (get_or ws (i * 3 + 2) 0) (m - get_or counts (get_or ws (i * 3 + 1) 0) 0) h (omega arith) d e false;
        }

-- ===== The literals of a path =====
module _ {ws : List ℕ} {n : ℕ} (w : Rows ws n) where
  pub coming-start : {k first : ℕ} (out : List ℕ) → At ws n (n - 1) k → Coming ws n (n - 1) k out out first (n - 1) k 0
  coming-start out a = record { at = a; so_far = refl; length-kept = refl; kept = λ t h. refl }

  module _ {r k : ℕ} {out₀ out : List ℕ} {first i m j : ℕ} (q : Coming ws n r k out₀ out first i m j) (room : first + most_paths ≤ length out₀) (a : At ws n r k) where
    short : j + length (codes (path_at (tree ws i) m)) < most_paths
    short =
        let e = ap length q.so_far in
        let p = path-short (tree ws r) (path_at (tree ws r) k) (path-in (tree ws r) k a.path) in
        omega (
          arith,
          e,
          length-append (take j (drop first out)) (codes (path_at (tree ws i) m)),
          codes-length (path_at (tree ws r) k),
          p,
          a.few,
          length-take j (drop first out),
          length-drop first out,
          q.length-kept,
        )

    pub coming-end : get_or ws (i * 3) 0 ≡ leaf_mark → Entered ws r k out₀ out first j
    coming-end e = record { are = sym (append-nil (take j (drop first out))) ∙ ap (λ (xs : List ℕ). take j (drop first out) ++ xs) (sym none) ∙ q.so_far; few = omega (arith, short); kept = q.kept }
      where
        none : codes (path_at (tree ws i) m) ≡ []
        none = ap (λ (d : Diagram). codes (path_at d m)) (leaf-tree w q.at.row e) ∙ (unfold codes path_at literals in refl)

    module _ {s : Here} (t : Stepped ws n i m s) where
      codes-next : codes (path_at (tree ws i) m) ≡ s.code ∷ codes (path_at (tree ws s.row) s.rest)
      codes-next = ap codes t.is ∙ codes-step _ (path_at (tree ws s.row) s.rest) ∙ ap (λ (c : ℕ). c ∷ codes (path_at (tree ws s.row) s.rest)) (sym t.code)

      pub coming-room : first + j < length out
      coming-room = omega (arith, short, q.length-kept)

      pub coming-few : j < most_paths
      coming-few = omega (arith, short)

      pub coming-next : Coming ws n r k out₀ (set out (first + j) s.code) first s.row s.rest (j + 1)
      coming-next = record {
        at = t.at;
        so_far = ap (λ (xs : List ℕ). xs ++ codes (path_at (tree ws s.row) s.rest)) taken
            ∙ append_assoc (take j (drop first out)) (s.code ∷ []) (codes (path_at (tree ws s.row) s.rest))
            ∙ ap (λ (xs : List ℕ). take j (drop first out) ++ xs) (sym codes-next) ∙ q.so_far;
        length-kept = length-set out (first + j) s.code ∙ q.length-kept;
        kept = λ v h. get_or-set_other out (first + j) v s.code 0 (omega arith) ∙ q.kept v h;
      }
        where
          taken : take (j + 1) (drop first (set out (first + j) s.code)) ≡ take j (drop first out) ++ (s.code ∷ [])
          taken = ap₂ (λ (i : ℕ) (xs : List ℕ). take i xs) (add-one j) (drop-set-add first out j s.code)
              ∙ take-suc-set (drop first out) j s.code (omega (arith, length-drop first out, coming-room))

-- ===== Leaves =====
pub routed-at : {ws counts : List ℕ} {n m p : ℕ} → Routed ws counts n m → p < m → At ws n (n - 1) p
routed-at {ws} {counts} {n} {m} {p} w h = record {
  row = omega (arith, w.some);
  path = omega (arith, w.all);
  few = omega (arith, w.all, w.few);
}

pub routed-small : {ws counts : List ℕ} {n m p : ℕ} → Routed ws counts n m → p < m → p < 256
routed-small w h = omega (arith, w.few)

pub leaves_none : (ws leaves : List ℕ) (n : ℕ) → Leaves ws leaves n 0
leaves_none ws leaves n = record { places = omega arith; each = λ p h. absurd (omega arith) }

pub leaves-more : {ws leaves : List ℕ} {n p v : ℕ} → Leaves ws leaves n p → p < length leaves → v ≡ (path_at (tree ws (n - 1)) p).end → Leaves ws (set leaves p v) n (p + 1)
leaves-more {ws} {leaves} {n} {p} {v} l h e = record { places = rw length-set (omega arith); each = λ q b. each q b (cmp q p) }
  where
    each : (q : ℕ) → q < p + 1 → Cmp q p → get_or (set leaves p v) q 0 ≡ (path_at (tree ws (n - 1)) q).end
    each q b (below k) = get_or-set_other leaves p q v 0 (λ z. omega arith) ∙ l.each q k
    each q b (equal k) = rw (k, get_or-set_same leaves p v 0 h) e
    each q b (above k) = absurd (omega arith)

pub leaves_all : {ws leaves : List ℕ} {n m p : ℕ} → Leaves ws leaves n p → p ≤ m → m ≤ p → Leaves ws leaves n m
leaves_all {ws} {leaves} {n} {m} {p} l h k = let e : p ≡ m = omega arith in subst (Leaves ws leaves n) e l
