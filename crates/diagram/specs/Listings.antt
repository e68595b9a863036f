-- Listings and good diagrams correspond one to one.
use Rattle.std.specs.Prelude.{◌≡◌, true, List, ℕ}
use Rattle.std.proofs.Common.{ap, sym, ◌∙◌, subst}
use Rattle.diagram.specs.Diagram.{Diagram}
use Rattle.diagram.specs.Rows.{rows}
use Rattle.diagram.specs.Words.{is_listing}
use Rattle.diagram.specs.Listing.{listing, diagram_of, Good}
use Rattle.diagram.specs.Inner.{Written}
use Rattle.diagram.specs.Canonicity.{Alike}
use Rattle.diagram.specs.ListingValid.{valid-is-listing, listing-is-valid}
use Rattle.diagram.specs.DiagramOfListing.{listing-diagram, good-diagram, one-listing}
use Rattle.diagram.specs.ListingOfDiagram.{valid-listing, diagram-listing, written-listing}

-- a listing is the listing of its diagram, which is good
pub is-listing-diagram : (ar ws : List ℕ) → is_listing ar ws ≡ true → listing (diagram_of ws) ≡ ws
is-listing-diagram ar ws e = listing-diagram ar ws (listing-is-valid ar ws e)

pub is-listing-good : (ar ws : List ℕ) → is_listing ar ws ≡ true → Good ar (diagram_of ws)
is-listing-good ar ws e = good-diagram ar ws (listing-is-valid ar ws e)

-- the listing of a good diagram is a listing
pub good-is-listing : (ar : List ℕ) (d : Diagram) → Good ar d → is_listing ar (listing d) ≡ true
good-is-listing ar d g = valid-is-listing ar (listing d) (valid-listing ar d g)

-- two listings with one meaning are the same words
pub is-one-listing : (ar ws us : List ℕ) → is_listing ar ws ≡ true → is_listing ar us ≡ true → Alike (diagram_of ws) (diagram_of us) → ws ≡ us
is-one-listing ar ws us e f h = one-listing ar ws us (listing-is-valid ar ws e) (listing-is-valid ar us f) h

-- two good diagrams with one listing are equal
pub one-diagram : (ar : List ℕ) (d e : Diagram) → Good ar d → Good ar e → listing d ≡ listing e → d ≡ e
one-diagram ar d e g h p = sym (diagram-listing ar d g) ∙ ap diagram_of p ∙ diagram-listing ar e h

-- the rows of a listing stand in its words
pub listing-written : (ar ws : List ℕ) → is_listing ar ws ≡ true → Written ws (rows (diagram_of ws))
listing-written ar ws e =
    subst (λ x. Written x (rows (diagram_of ws))) (is-listing-diagram ar ws e) (written-listing ar (diagram_of ws) (is-listing-good ar ws e))
