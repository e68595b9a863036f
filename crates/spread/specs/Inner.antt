-- What contracts of inner functions and proofs cite. Nothing here has to be believed.
use Rattle.std.specs.Prelude.{Bool, true, false, ◌&&◌, List, [], ◌∷◌, ℕ, ◌+◌, ◌*◌, eqb}
use Rattle.diagram.specs.Words.{equal_lists}
use Rattle.spread.specs.Ground.{Ground, ground}

abbrev pub same_ground : Ground → Ground → Bool
same_ground (ground p os) (ground q us) = eqb p q && equal_lists os us

-- the number of a choice
unfoldable pub number_of : List Bool → ℕ
number_of [] = 0
number_of (true ∷ bs) = 1 + 2 * number_of bs
number_of (false ∷ bs) = 2 * number_of bs
