-- A session's keys as those of names (document 02, L2: names of constants and predicates in the form).
use Rattle.std.specs.Prelude.{◌≡◌, map}
use Rattle.words.specs.Keys.{key_of}
use Rattle.session.specs.Session.{Names}
use Rattle.diagram_form.specs.Form.{Tables}

-- a session's keys are those of the names in n
pub record KeysOf (n : Tables) (s : Names) : Type 0 where
  pub constants : s.constants ≡ map key_of n.constants
  pub predicates : s.predicates ≡ map key_of n.predicates
