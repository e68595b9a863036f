-- The root's table has no names, one entry, and the highest leaf (document 02, L6).
use Rattle.std.specs.Prelude.{◌≡◌, true, List, [], ℕ, pred}
use Rattle.std.proofs.Common.{arith}
use Rattle.basics.specs.Members.{clash}
use Rattle.diagram.specs.Words.{row_count, is_listing}
use Rattle.diagram.specs.Listing.{diagram_of}
use Rattle.diagram.specs.Validity.{Valid}
use Rattle.diagram.specs.DiagramOfListing.{diagram-is}
use Rattle.diagram.specs.ListingValid.{listing-is-valid}
use Rattle.state.specs.State.{meaning, State, Good}
use Rattle.state.specs.Inner.{Highest}
use Rattle.state.specs.Highest.{start, highest, Bound}
use Rattle.state.proofs.HighestLaws.{highest-is, highest-one, start_fits}
use Rattle.elimination.specs.Tables.{count_choices, entries}
use Rattle.elimination.specs.Elimination.{root_table}
use Rattle.elimination.proofs.NameLaws.{none_left}
use Rattle.elimination.proofs.AboveLaws.{tested-root}
use Rattle.elimination.proofs.RowLaws.{table_at, IsTableOf, row-table}

pub root-table : (s : State) (os : List ℕ) → Good s → (ar ws : List ℕ) → Valid ar ws
    → IsTableOf s os ar ws (pred (row_count ws)) (diagram_of ws) (root_table s ar ws)
unfolding root_table
root-table s os good ar ws valid =
    let n = valid.some in
    rw (diagram-is ar ws valid, table_at s ar ws (row_count ws) (pred (row_count ws)) (omega arith)) (row-table s os good ar ws valid (pred (row_count ws)) (omega arith))

module _ (s : State) (os : List ℕ) (good : Good s) (bound : Bound s os) (ar ws : List ℕ) (is : is_listing ar ws ≡ true) where
  abbrev valid : Valid ar ws
  valid = listing-is-valid ar ws is

  -- the root's table has no names, one entry, and the highest leaf
  pub root_names : (root_table s ar ws).names ≡ []
  root_names = none_left (root_table s ar ws).names (λ t m. clash ((root-table s os good ar ws valid).tested t m) (tested-root ar ws valid t))

  pub root-entries : entries s os (root_table s ar ws) ≡ 1
  unfolding entries count_choices
  root-entries = rw (root_names, (root-table s os good ar ws valid).full (start s os))

  pub root-value : (root_table s ar ws).value (start s os) ≡ highest s os (meaning ar (diagram_of ws))
  root-value = highest-one (meaning ar (diagram_of ws)) top (highest-is s os good bound (meaning ar (diagram_of ws)))
    where
      top : Highest s os (meaning ar (diagram_of ws)) ((root_table s ar ws).value (start s os))
      top =
          let m = (root-table s os good ar ws valid).best (start s os) (start_fits s os good bound) in
          record {
            point = m.point;
            inside = m.inside.fits;
            value = m.value;
            bound = λ η g. m.bound η (record { fits = g; tested = λ t e. clash e (tested-root ar ws valid t) });
          }
