-- Laws of `edge_place` and `write_left`: every edge but one stays.
use mathlib.Core.Path.{◌≡◌, refl, sym, ap, subst, ◌∙◌}
use mathlib.Core.Logic.{◌≢◌}
use mathlib.Core.Bool.{Bool, true, false, not, ◌&&◌, beq}
use mathlib.Core.List.{List}
use Prim.Native.Nat.{ℕ, ◌+◌, ◌*◌, ◌≤◌, ◌<◌}
use native.Mathlib.Omega.{arith}
use lib.ListN.{length, get_or, set, replicate, length-set, length-replicate, get_or-replicate}
use lib.Seq.{get_or-set_same, get_or-set_other}
use lib.Dec.{eqb}
use borrow.Author.Tests.{eqb-true, eqb-false}
use Rattle.basics.specs.Tests.{Flag, is_true, is_false, flag}
use Rattle.diagram.specs.Sizes.{most_rows}
use Rattle.diagram.specs.Diagram.{Diagram}
use Rattle.diagram.specs.Rows.{rows}
use Rattle.diagram.specs.Words.{row_count}
use Rattle.diagram.specs.Listing.{listing, diagram_of}
use Rattle.diagram.specs.Validity.{tree}
use Rattle.diagram.specs.Variables.{closed}
use Rattle.diagram.specs.Shown.{same-eqb}
use Rattle.paths.specs.Inner.{bit, Rows}
use Rattle.paths.specs.PathLaws.{listing-rows, row_is}
use Rattle.cutting.specs.Cut.{cut_at, reduced, cut_diagram, written}
use Rattle.reduction.specs.Inner.{all_but}
use Rattle.reduction.proofs.KeepingLaws.{cut-keeping}
use Rattle.pruning.specs.Pruning.{kept_of, edge_at, Agrees, Prunable, Pruned}
use Rattle.cut.specs.Calls.{Writable, Trimmed}

-- `edge_place`
pub place-true : (k : ℕ) {b : Bool} → b ≡ true → k * 2 ≡ edge_at k b
place-true k e = rw e

pub place-false : (k : ℕ) {b : Bool} → b ≡ false → k * 2 + 1 ≡ edge_at k b
place-false k e = rw e

-- a place for each edge
place-below : (i n : ℕ) (c : Bool) → i < n → edge_at i c < n * 2
place-below i n true h = omega arith
place-below i n false h = omega arith

place_other : (i j : ℕ) (b c : Bool) → i ≢ j → edge_at i b ≢ edge_at j c
place_other i j true true n e = n (omega arith)
place_other i j true false n e = omega arith
place_other i j false true n e = omega arith
place_other i j false false n e = n (omega arith)

place_same : (i : ℕ) (b c : Bool) → beq b c ≡ false → edge_at i c ≢ edge_at i b
place_same i true false q e = omega arith
place_same i false true q e = omega arith
place_same i true true q e = absurd (let z : ◌≡◌ {A = ℕ} 0 1 = cc in omega arith)
place_same i false false q e = absurd (let z : ◌≡◌ {A = ℕ} 0 1 = cc in omega arith)

same-side : (b c : Bool) → beq b c ≡ true → b ≡ c
same-side true true q = refl
same-side false false q = refl
same-side true false q = sym q
same-side false true q = q

-- `write_left`
module _ {ar ws out work : List ℕ} {k : ℕ} (g : Writable ar ws out work k) where
  lines : Rows ws (row_count ws)
  lines = listing-rows ar ws g.call.listing

  pub left-row : k < most_rows
  left-row = omega (arith, g.row, lines.few)

  module _ (b : Bool) {e : ℕ} (p : e ≡ edge_at k b) (n : ℕ) (h : most_rows * 2 ≤ n) where
    pub left-place : e < n
    left-place = omega (arith, place-below k most_rows b left-row)

    abbrev edges : List ℕ
    edges = set (replicate n 1) e 0

    pub left-prunable : Prunable ar ws edges out work
    left-prunable = record {
      listing = g.call.listing;
      few = g.few;
      places = rw (length-set, length-replicate) (omega (arith, lines.few));
      out-room = g.call.out-room;
      work-room = g.call.work-room;
    }

    one : (i : ℕ) (c : Bool) → i < row_count ws → edge_at i c ≢ edge_at k b → get_or edges (edge_at i c) 0 ≡ 1
    one i c l d =
        get_or-set_other (replicate n 1) e (edge_at i c) 0 0 (λ z. d (z ∙ p))
        ∙ get_or-replicate n (edge_at i c) 1 0 (omega (arith, place-below i (row_count ws) c l, lines.few))

    left-agrees : Agrees ws edges (all_but (tree ws k) b)
    unfolding all_but
    left-agrees = record { each = λ i l d c. go i l c (flag (eqb k i)) (flag (beq b c)) }
      where
        is : (i : ℕ) (c : Bool) → i < row_count ws → bit (not (eqb k i && beq b c)) ≡ bit (all_but (tree ws k) b (tree ws i) c)
        is i c l = sym (ap (λ (x : Bool). bit (not (x && beq b c))) (same-eqb ws (row_count ws) (tree ws) lines.shown k i g.row l))

        go : (i : ℕ) → i < row_count ws → (c : Bool) → Flag (eqb k i) → Flag (beq b c) → get_or edges (edge_at i c) 0 ≡ bit (all_but (tree ws k) b (tree ws i) c)
        go i l c (is_false q) z = one i c l (place_other i k c b (λ x. eqb-false k i q (sym x))) ∙ sym (ap (λ (x : Bool). bit (not (x && beq b c))) q) ∙ is i c l
        go i l c (is_true q) (is_false z) =
            one i c l (subst (λ (x : ℕ). edge_at i c ≢ edge_at x b) (sym (eqb-true k i q)) (place_same i b c z))
            ∙ sym (rw (q, z)) ∙ is i c l
        go i l c (is_true q) (is_true z) =
            ap (λ (x : ℕ). get_or edges x 0) (sym (p ∙ ap (λ (x : ℕ). edge_at x b) (eqb-true k i q) ∙ ap (edge_at i) (same-side b c z)))
            ∙ get_or-set_same (replicate n 1) e 0 0 (rw length-replicate left-place)
            ∙ sym (rw (q, z)) ∙ is i c l

    left_is : closed ar (kept_of (all_but (tree ws k) b) (diagram_of ws)) ≡ cut_diagram ar (diagram_of ws) k b
    unfolding kept_of cut_diagram
    left_is =
        ap (λ (d : Diagram). closed ar (reduced d)) (sym (cut-keeping (tree ws k) b (diagram_of ws)))
        ∙ ap (λ (d : Diagram). closed ar (reduced (cut_at d b (diagram_of ws)))) (sym (row_is ar ws g.call.listing k g.row))

    pub left-done : {r : ℕ} {out' : List ℕ} → ((stays : Diagram → Bool → Bool) → Agrees ws edges stays → Pruned ar ws stays out r out') → Trimmed ar ws k b out r out'
    left-done f =
        let t = f (all_but (tree ws k) b) left-agrees in
        record {
          answer = t.answer ∙ ap (λ (d : Diagram). length (rows d)) left_is;
          words = t.words ∙ ap (λ (d : Diagram). written (listing d) out) left_is;
        }
