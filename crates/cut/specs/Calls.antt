-- What a cut needs once its listing and buffers are checked (document 01, section 'Cut').
use Rattle.std.specs.Prelude.{◌≡◌, Bool, true, List, ℕ, ◌≤◌, ◌<◌, length}
use Rattle.diagram.specs.Sizes.{result_words, space_words}
use Rattle.diagram.specs.Rows.{rows}
use Rattle.diagram.specs.Words.{row_count, is_listing}
use Rattle.diagram.specs.Listing.{listing, diagram_of}
use Rattle.diagram.specs.Variables.{is_plain}
use Rattle.paths.specs.Paths.{paths, most_paths}
use Rattle.cutting.specs.Cut.{cut_diagram, written}

-- a listing, and room for a result and for the rows formed
pub record Cuttable (ar ws out work : List ℕ) : Type 0 where
  pub listing : is_listing ar ws ≡ true
  pub out-room : result_words ≤ length out
  pub work-room : space_words ≤ length work

-- .. and it has no minimum variable
pub record Choosable (ar ws out work : List ℕ) : Type 0 where
  pub call : Cuttable ar ws out work
  pub plain : is_plain ar (diagram_of ws) ≡ true

-- what writing what is left requires: few paths, and the number of a row
pub record Writable (ar ws out work : List ℕ) (k : ℕ) : Type 0 where
  pub call : Cuttable ar ws out work
  pub few : length (paths (diagram_of ws)) ≤ most_paths
  pub row : k < row_count ws

-- what it ensures: what is left, closed up, stands in the result buffer, the words behind it as they were
pub record Trimmed (ar ws : List ℕ) (k : ℕ) (b : Bool) (out : List ℕ) (r : ℕ) (out' : List ℕ) : Type 0 where
  pub answer : r ≡ length (rows (cut_diagram ar (diagram_of ws) k b))
  pub words : out' ≡ written (listing (cut_diagram ar (diagram_of ws) k b)) out
