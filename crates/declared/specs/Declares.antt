-- Sessions whose names are what the round trip asks (document 02, L2: a form is written in declared names).
use Rattle.session.specs.Session.{Session}
use Rattle.session.specs.Running.{tables_in}
use Rattle.round_trip.specs.RoundTrip.{Declared, Covers}
use Rattle.round_trip.specs.KeyNames.{KeysOf}

-- the session's keys are those of the names that they stand for, each is a name, no two constants and no two predicates have one name, and they name everything in the value diagram
pub record Named (σ : Session) : Type 0 where
  pub keys : KeysOf (tables_in σ.names) σ.names
  pub declared : Declared (tables_in σ.names)
  pub covers : Covers σ.model.arities (tables_in σ.names) σ.held.diagram
