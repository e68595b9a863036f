-- Laws of `edge_of` and `choose`.
use mathlib.Core.Path.{◌≡◌, refl, sym, ap, ap₂, ◌∙◌}
use mathlib.Core.Bool.{Bool, true, false, cond}
use mathlib.Core.List.{List}
use Prim.Native.Nat.{ℕ, suc, pred, ◌+◌, ◌-◌, ◌*◌, ◌≤◌, ◌<◌}
use native.Mathlib.Omega.{arith}
use lib.ListN.{length, get_or, replicate, length-replicate, get_or-replicate, length-map}
use lib.Dec.{eqb}
use Rattle.label.specs.Limits.{leaf_mark}
use Rattle.diagram.specs.Diagram.{Diagram, leaf}
use Rattle.diagram.specs.Rows.{rows}
use Rattle.diagram.specs.RowLists.{row_tree}
use Rattle.diagram.specs.Words.{label_at, high_at, row_count, up_to, is_listing}
use Rattle.diagram.specs.WordLaws.{length-up_to}
use Rattle.diagram.specs.Listing.{diagram_of}
use Rattle.diagram.specs.Validity.{Valid, tree}
use Rattle.diagram.specs.Variables.{is_plain}
use Rattle.diagram.specs.DiagramOfListing.{diagram-is, rows_are}
use Rattle.diagram.specs.ListingValid.{listing-is-valid}
use Rattle.cutting.specs.Cut.{goes, stays, may_go, choice_below, choice}
use Rattle.paths.specs.Inner.{Routed, Leaves}
use Rattle.cut.specs.Choosing.{Sides, Charted, Known, Asking, Edged, Tested, EdgeFound, first_edge, chosen_as}
use Rattle.paths.specs.PathLaws.{row_is}
use Rattle.std.specs.Prelude.{None, Some}

-- nothing has been asked yet
pub known-none : (ar ws : List ℕ) (n k : ℕ) → 65536 ≤ k → Known ar ws (replicate k 0) n
known-none ar ws n k h = record {
  places = rw length-replicate h;
  told = λ p q a b z. absurd (z (get_or-replicate k (p * 256 + q) 0 0 (omega arith)));
}

-- `edge_of`
leaf-stays : (ar : List ℕ) (d : Diagram) (b : Bool) (v : ℕ) → may_go ar d b (leaf v) ≡ false
unfolding may_go
leaf-stays ar d b v = refl

module _ {ar ws counts leaves memo : List ℕ} {n m r : ℕ} (g : Charted ar ws counts leaves n m) (k : Known ar ws memo n) (h : r < n) where
  pub edge-leaf : get_or ws (r * 3) 0 ≡ leaf_mark → EdgeFound ar ws n r 0 memo
  unfolding label_at
  edge-leaf e =
      let z = g.routed.rows.shown.leaves r h e in
      record {
        answer = sym (rw (z, leaf-stays ar (tree ws (n - 1)) true (high_at ws r), leaf-stays ar (tree ws (n - 1)) false (high_at ws r)));
        known = k;
      }

  module _ {sides : List ℕ} (s : Sides ws sides n m r) where
    pub edge-asking : {memo' : List ℕ} → Known ar ws memo' n → Asking ar ws counts leaves sides memo' n m
    edge-asking l = record { charted = g; places = s.places; known = l }

    pub edge-edged : (side : ℕ) → 1 ≤ side → side ≤ 2 → (get_or ws (r * 3) 0 ≡ leaf_mark → ⊥) → Edged ws sides n m r side
    unfolding label_at
    edge-edged side a b e = record { row = h; branch = e; low = a; high = b; on = s }

module _ {ar ws : List ℕ} {n r : ℕ} {x : Bool} {memo' : List ℕ} (t : Tested ar ws n (may_go ar (tree ws (n - 1)) (eqb 1 1) (tree ws r)) x memo') where
  pub edge-true : x ≡ true → EdgeFound ar ws n r 1 memo'
  edge-true e = record {
    answer = ap (λ (b : Bool). first_edge b (may_go ar (tree ws (n - 1)) false (tree ws r))) (sym e ∙ t.answer);
    known = t.known;
  }

  module _ (e : x ≡ false) {y : Bool} {memo'' : List ℕ} (u : Tested ar ws n (may_go ar (tree ws (n - 1)) (eqb 2 1) (tree ws r)) y memo'') where
    pub edge-false : y ≡ true → EdgeFound ar ws n r 2 memo''
    edge-false f = record { answer = ap₂ first_edge (sym e ∙ t.answer) (sym f ∙ u.answer); known = u.known }

    pub edge_none : y ≡ false → EdgeFound ar ws n r 0 memo''
    edge_none f = record { answer = ap₂ first_edge (sym e ∙ t.answer) (sym f ∙ u.answer); known = u.known }

-- `choose`
first-true : (a b : Bool) → 1 ≡ first_edge a b → a ≡ true
first-true true b e = refl
first-true false true e = absurd (omega arith)
first-true false false e = absurd (omega arith)

first-false : (a b : Bool) → 2 ≡ first_edge a b → (a ≡ false) × (b ≡ true)
first-false true b e = absurd (omega arith)
first-false false true e = (refl, refl)
first-false false false e = absurd (omega arith)

first-none : (a b : Bool) {e : ℕ} → e ≡ first_edge a b → (e ≡ 1 → ⊥) → (e ≡ 2 → ⊥) → (a ≡ false) × (b ≡ false)
first-none true b e p q = absurd (p e)
first-none false true e p q = absurd (q e)
first-none false false e p q = (refl, refl)

below_more : (ar : List ℕ) (d : Diagram) (rs : List Diagram) (n : ℕ)
    → choice_below ar d rs (suc n)
    ≡ cond (may_go ar d true (row_tree rs n)) (goes n true) (cond (may_go ar d false (row_tree rs n)) (goes n false) (choice_below ar d rs n))
unfolding choice_below
below_more ar d rs n = refl

below_none : (ar : List ℕ) (d : Diagram) (rs : List Diagram) → choice_below ar d rs 0 ≡ stays
unfolding choice_below
below_none ar d rs = refl

pub choose-room : {ws counts : List ℕ} {n m : ℕ} → Routed ws counts n m → (x : ℕ) → 256 ≤ x → m ≤ length {A = ℕ} (replicate x 0)
choose-room r x h = rw length-replicate (omega (arith, r.few))

module _ (ar ws : List ℕ) (n : ℕ) (l : is_listing ar ws ≡ true) (w : n ≡ row_count ws) where
  valid : Valid ar ws
  valid = listing-is-valid ar ws l

  abbrev D : Diagram
  D = diagram_of ws

  pub choose-start : choice ar D ≡ choice_below ar D (rows D) n
  unfolding choice
  choose-start =
      let e : length (rows D) ≡ row_count ws = ap length (rows_are ar ws valid) ∙ length-map (up_to (row_count ws)) (tree ws) ∙ length-up_to (row_count ws) in
      ap (choice_below ar D (rows D)) (e ∙ sym w)

  pub choose-charted : {counts leaves : List ℕ} {m : ℕ} → is_plain ar D ≡ true → Routed ws counts n m → Leaves ws leaves n m → Charted ar ws counts leaves n m
  choose-charted p r s = record { listed = l; plain = p; whole = w; routed = r; ends = s }

  module _ {i e : ℕ} {memo' : List ℕ} (o : choice ar D ≡ choice_below ar D (rows D) i) (p : 0 < i) (q : i ≤ n) (f : EdgeFound ar ws n (i - 1) e memo') where
    abbrev High : Bool
    High = may_go ar (tree ws (n - 1)) true (tree ws (i - 1))

    abbrev Low : Bool
    Low = may_go ar (tree ws (n - 1)) false (tree ws (i - 1))

    step : choice ar D ≡ cond High (goes (i - 1) true) (cond Low (goes (i - 1) false) (choice_below ar D (rows D) (i - 1)))
    step =
        let x : i ≡ suc (i - 1) = omega arith in
        let y : row_tree (rows D) (i - 1) ≡ tree ws (i - 1) = row_is ar ws l (i - 1) (omega arith) in
        let n-1 : n - 1 ≡ pred (row_count ws) = omega arith in
        let z : D ≡ tree ws (n - 1) = diagram-is ar ws valid ∙ ap (tree ws) (sym n-1) in
        o ∙ ap (choice_below ar D (rows D)) x ∙ below_more ar D (rows D) (i - 1)
        ∙ (λ j. cond (may_go ar (z j) true (y j)) (goes (i - 1) true) (cond (may_go ar (z j) false (y j)) (goes (i - 1) false) (choice_below ar D (rows D) (i - 1))))

    pub choose-true : e ≡ 1 → Some ((i - 1), true) ≡ chosen_as (choice ar D)
    choose-true x =
        sym
        (ap chosen_as
        (step
        ∙ ap (λ (b : Bool). cond b (goes (i - 1) true) (cond Low (goes (i - 1) false) (choice_below ar D (rows D) (i - 1))))
        (first-true High Low (sym x ∙ f.answer))))

    pub choose-false : e ≡ 2 → Some ((i - 1), false) ≡ chosen_as (choice ar D)
    choose-false x =
        let y = first-false High Low (sym x ∙ f.answer) in
        sym (ap chosen_as (step ∙ ap₂ (λ (a : Bool) (b : Bool). cond a (goes (i - 1) true) (cond b (goes (i - 1) false) (choice_below ar D (rows D) (i - 1)))) y.0 y.1))

    pub choose-on : (e ≡ 1 → ⊥) → (e ≡ 2 → ⊥) → choice ar D ≡ choice_below ar D (rows D) (i - 1)
    choose-on x u =
        let y = first-none High Low f.answer x u in
        step ∙ ap₂ (λ (a : Bool) (b : Bool). cond a (goes (i - 1) true) (cond b (goes (i - 1) false) (choice_below ar D (rows D) (i - 1)))) y.0 y.1

  pub choose-none : {i : ℕ} → choice ar D ≡ choice_below ar D (rows D) i → i ≤ 0 → None ≡ chosen_as (choice ar D)
  choose-none {i} o h = let z : i ≡ 0 = omega arith in sym (ap chosen_as (o ∙ ap (choice_below ar D (rows D)) z ∙ below_none ar D (rows D)))
