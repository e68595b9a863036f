-- What contracts of inner functions and proofs cite. Nothing here has to be believed.
use Rattle.std.specs.Prelude.{List, ℕ, ◌+◌, drop}
use Rattle.events.specs.declared.Next.{Next}
use Rattle.events.specs.Front.{front_of}

-- at a place of a line
unfoldable pub next_at : List ℕ → ℕ → Next
next_at s i = record { event = (front_of (drop i s)).event; place = i + (front_of (drop i s)).taken }
