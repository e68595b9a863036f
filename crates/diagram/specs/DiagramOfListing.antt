-- Valid words are the listing of their diagram, which is ordered and reduced; and only one listing has a meaning.
use Rattle.std.specs.Prelude.{◌≡◌, ℕ, pred, ◌*◌, ◌<◌}
use Rattle.std.proofs.Math.Path.{ap}
use Rattle.std.proofs.Common.{sym, ◌∙◌, arith}
use mathlib.Core.List.{List, [], map}
use Rattle.std.proofs.lemmas.List.{length-map}
use Rattle.std.proofs.Math.Seq.{take_all}
use Rattle.diagram.specs.Rows.{rows}
use Rattle.diagram.specs.Words.{label_at, row_count, up_to}
use Rattle.diagram.specs.Listing.{listing, diagram_of, Good}
use Rattle.diagram.specs.Validity.{Valid, ValidRows, tree}
use Rattle.diagram.specs.DiagramLaws.{from-weaken}
use Rattle.diagram.specs.WordLaws.{length-up_to}
use Rattle.diagram.specs.Canonicity.{canonicity, Alike}
use Rattle.diagram.specs.Shown.{Shown, agrees, reads, words_are}
use Rattle.diagram.specs.RowDiagrams.{leaf-row, shown, tree-from, tree-reduced, tree-fine}

module _ (ar ws : List ℕ) (v : Valid ar ws) where
  pub valid-rows : ValidRows ar ws (row_count ws)
  valid-rows = record { each = v.each; apart = v.apart }

  pub shown-rows : Shown ws (row_count ws) (tree ws)
  shown-rows = shown ar ws (row_count ws) valid-rows

  -- the diagram is the last row's
  pub diagram-is : diagram_of ws ≡ tree ws (pred (row_count ws))
  unfolding diagram_of
  diagram-is = let h = v.some in reads ws (row_count ws) (tree ws) shown-rows (row_count ws) (pred (row_count ws)) (omega arith) (omega arith)

  -- its rows are the rows' diagrams
  pub rows_are : rows (diagram_of ws) ≡ map (tree ws) (up_to (row_count ws))
  unfolding rows
  rows_are =
      let h = v.some in
      let a = (agrees ws (row_count ws) (tree ws) shown-rows (row_count ws) (pred (row_count ws)) [] (omega arith) (omega arith) tt).0 in
      rw diagram-is (sym a ∙ ap (map (tree ws)) v.order)

  pub listing-diagram : listing (diagram_of ws) ≡ ws
  unfolding listing
  listing-diagram =
      let w = v.whole in
      rw rows_are (words_are ws (row_count ws) (tree ws) shown-rows (row_count ws) (omega arith) (omega arith)
      (λ i h e. (leaf-row ar ws (row_count ws) valid-rows i h e).third)
      ∙ take_all (row_count ws * 3) ws (omega arith))

  pub good-diagram : Good ar (diagram_of ws)
  good-diagram =
      let h = v.some in
      let n = row_count ws in
      let r = pred (row_count ws) in
      let l : r < n = omega arith in
      record {
        arities = v.arities;
        ordered = rw diagram-is (from-weaken 0 (label_at ws r) (tree ws r) (omega arith) (tree-from ar ws n valid-rows r l));
        reduced = rw diagram-is (tree-reduced ar ws n valid-rows r l);
        fine = rw diagram-is (tree-fine ar ws n valid-rows r l);
        few = rw rows_are (omega (arith, v.few, length-map (up_to (row_count ws)) (tree ws), length-up_to (row_count ws)));
      }

-- two valid listings with one meaning are the same words
pub one-listing : (ar ws us : List ℕ) → Valid ar ws → Valid ar us → Alike (diagram_of ws) (diagram_of us) → ws ≡ us
one-listing ar ws us v w h =
    let g = good-diagram ar ws v in
    let k = good-diagram ar us w in
    sym (listing-diagram ar ws v)
    ∙ ap listing (canonicity (diagram_of ws) (diagram_of us) g.ordered g.reduced k.ordered k.reduced h)
    ∙ listing-diagram ar us w
