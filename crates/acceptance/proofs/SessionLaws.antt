-- The form of a session's value diagram, under the names that its keys stand for, is accepted when it is read again.
use Rattle.std.specs.Prelude.{◌≡◌, false}
use Rattle.std.proofs.Common.{sym, ap, subst, ◌∙◌}
use Rattle.session.specs.declared.Part.TheVariants.{Run}
use Rattle.session.specs.Session.{Session}
use Rattle.session.specs.Good.{GoodSession}
use Rattle.diagram_form.specs.Form.{Tables, tables_of, is_too_long}
use Rattle.round_trip.specs.RoundTrip.{Declared, Covers}
use Rattle.round_trip.specs.KeyNames.{KeysOf}
use Rattle.round_trip.proofs.KeyNameLaws.{tables-of}
use Rattle.acceptance.specs.ReadAgain.{ReadAgain}
use Rattle.acceptance.proofs.AcceptLaws.{reward-accepted}

-- after (start), where 19 is not given
pub value-accepted : (σ : Session) (n : Tables) → Declared n → KeysOf n σ.names → GoodSession σ → σ.part ≡ Run → Covers σ.model.arities n σ.held.diagram
    → is_too_long σ.model.arities (tables_of σ.names.constants σ.names.predicates) σ.held.diagram ≡ false
    → ReadAgain σ.model.arities (tables_of σ.names.constants σ.names.predicates) σ.held.diagram
value-accepted σ n declared keys good run covers short =
    let is = tables-of n σ.names declared keys in
    subst (λ (m : Tables). ReadAgain σ.model.arities m σ.held.diagram) (sym is)
    (reward-accepted σ.model.arities n σ.held.diagram (good.begun run).value declared covers
    (ap (λ (m : Tables). is_too_long σ.model.arities m σ.held.diagram) (sym is) ∙ short))
