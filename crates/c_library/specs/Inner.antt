-- What contracts of inner functions and proofs cite. Nothing here has to be believed.
use Rattle.std.specs.Prelude.{List, ℕ}
use Rattle.texts.specs.declared.Position.{Position}
use Rattle.memory.specs.Saving.{numbers_at, lines_at, met_at}
use Rattle.std.specs.Prelude.{None, Option, Some}

-- ===== Lines =====

-- how far a text is read, in the code's own numbers
abbrev pub position_at : List ℕ → Position
position_at numbers = record { numbers = numbers_at numbers; lines = lines_at numbers; met = met_at numbers; end = 0 }

-- the place behind an answer that has room
abbrev pub put_end : Option ℕ → ℕ
put_end (Some n) = n
put_end None = 0
