-- What is said of a form that is read again (document 02, L2): a round trip whose reward is built, and is the very diagram.
use Rattle.std.specs.Prelude.{◌≡◌, List, ℕ}
use Rattle.refusal.specs.Outcome.{ok}
use Rattle.diagram.specs.Diagram.{Diagram}
use Rattle.build.specs.Machine.{built_closed}
use Rattle.diagram_form.specs.Form.{Tables}
use Rattle.round_trip.specs.RoundTrip.{RoundTrip}

pub record ReadAgain (ar : List ℕ) (n : Tables) (d : Diagram) : Type 0 where
  pub trip : RoundTrip ar n d
  -- no 10, 11 or 9 while it is built
  pub built : built_closed ar trip.words.operations ≡ ok d
