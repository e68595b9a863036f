-- A good diagram is the only one with its meaning, and so is its listing.
use Rattle.std.specs.Prelude.{◌≡◌, List, ◌++◌, ℕ, ◌*◌, length, take, drop}
use Rattle.std.proofs.Common.{ap, sym, ◌∙◌, subst}
use Rattle.std.proofs.Math.Seq.{take-append_seam}
use Rattle.diagram.specs.Diagram.{Diagram, eval}
use Rattle.diagram.specs.Rows.{rows}
use Rattle.diagram.specs.Listing.{listing, Good}
use Rattle.diagram.specs.Canonicity.{canonicity}
use Rattle.diagram.specs.ListingLaws.{length-listing}
use Rattle.diagram.specs.ListingOfDiagram.{diagram-listing}
use Rattle.diagram.specs.Listings.{good-is-listing, is-one-listing}
use Rattle.uniqueness.specs.Meaning.{Choice, Meaning, TheOnly, TheOnlyListing}

pub good-only : (ar : List ℕ) (M : Meaning) (d : Diagram) → Good ar d → ((c : Choice) → eval c d ≡ M c) → TheOnly ar M d
good-only ar M d g m =
    record { good = g; means = m; only = λ x o r h. canonicity x d o r g.ordered g.reduced (λ c. h c ∙ sym (m c)) }

pub only-listing : (ar : List ℕ) (M : Meaning) (d : Diagram) → TheOnly ar M d → TheOnlyListing ar M (listing d)
only-listing ar M d t =
    let listed = good-is-listing ar d t.good in
    let means : (c : Choice) → eval c _ ≡ M c = λ c. ap (eval c) (diagram-listing ar d t.good) ∙ t.means c in
    record { listed = listed; means = means; only = λ us e h. is-one-listing ar us (listing d) e listed (λ c. h c ∙ sym (means c)) }

-- as a result buffer has it: the first words, three for each row
pub only-written : (ar : List ℕ) (M : Meaning) (d : Diagram) (n : ℕ) (out : List ℕ) → length (rows d) ≡ n → TheOnly ar M d
    → TheOnlyListing ar M (take (n * 3) (listing d ++ drop (length (listing d)) out))
only-written ar M d n out e t =
    let front : take (n * 3) (listing d ++ drop (length (listing d)) out) ≡ listing d =
    ap (λ (k : ℕ). take k (listing d ++ drop (length (listing d)) out)) (ap (◌* 3) (sym e) ∙ sym (length-listing d))
    ∙ take-append_seam (listing d) (drop (length (listing d)) out) in
    subst (TheOnlyListing ar M) (sym front) (only-listing ar M d t)
