-- The value diagram and k that words hold (document 01, section 'Backup').
use Rattle.std.specs.Prelude.{List, ℕ, ◌*◌, take}
use Rattle.diagram.specs.Listing.{diagram_of}
use Rattle.mdp.specs.Runs as mdp
use Rattle.planner.specs.declared.RunNumbers.{RunNumbers}

-- what the words hold: the value's listing is the first rows of the buffer, and k stands beside it
abbrev pub held_in : RunNumbers → List ℕ → mdp.Held
held_in h value = record { diagram = diagram_of (take (h.rows * 3) value); steps = h.steps }
