-- What a caller has of a diagram that the result buffer holds.
use Rattle.std.specs.Prelude.{◌≡◌, List, ℕ, ◌*◌, ◌≤◌, length, take}
use Rattle.std.proofs.Common.{sym, ap, ◌∙◌}
use Rattle.diagram.specs.Diagram.{Diagram}
use Rattle.diagram.specs.Rows.{rows}
use Rattle.diagram.specs.RowLaws.{rows-some}
use Rattle.diagram.specs.Listing.{listing, diagram_of}
use Rattle.diagram.specs.ListingOfDiagram.{diagram-listing}
use Rattle.drawing.specs.Drawing.{Holds}

-- the words are the listing of d, and no other diagram's
pub record ListingOf (d : Diagram) (ws : List ℕ) : Type 0 where
  pub is : diagram_of ws ≡ d
  pub canonical : listing (diagram_of ws) ≡ ws
  pub some : 1 ≤ length (rows d)

pub draws-canonical : {ar : List ℕ} {d : Diagram} {out : List ℕ} → Holds ar d out → ListingOf d (take (length (rows d) * 3) out)
draws-canonical {ar} {d} h =
    let e = ap diagram_of h.words ∙ diagram-listing ar d h.good in
    record { is = e; canonical = ap listing e ∙ sym h.words; some = rows-some d }
