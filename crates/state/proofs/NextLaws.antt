-- The next state has the objects of the old one.
use Rattle.std.specs.Prelude.{List, ℕ}
use Rattle.std.proofs.Math.Option.{Option}
use Rattle.diagram.specs.Diagram.{Tree}
use Rattle.state.specs.State.{Atomic, State, Good}
use Rattle.state.specs.Next.{next}

pub next-good : (s : State) (os : List ℕ) (becomes : ℕ → Option (Tree Atomic)) → Good s → Good (next s os becomes)
unfolding next
next-good s os becomes g = record { some = g.some; placed = g.placed }
