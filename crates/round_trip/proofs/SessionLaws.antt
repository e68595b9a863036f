-- The round trip of a session's value diagram, under the names that its keys stand for.
use Rattle.std.specs.Prelude.{◌≡◌, false}
use Rattle.std.proofs.Common.{sym, ap, ◌∙◌, subst}
use Rattle.session.specs.declared.Part.TheVariants.{Run}
use Rattle.session.specs.Session.{Session}
use Rattle.session.specs.Good.{GoodSession}
use Rattle.diagram_form.specs.Form.{Tables, tables_of, is_too_long}
use Rattle.round_trip.specs.RoundTrip.{Declared, Covers, RoundTrip}
use Rattle.round_trip.specs.KeyNames.{KeysOf}
use Rattle.round_trip.proofs.KeyNameLaws.{tables-of}
use Rattle.round_trip.proofs.RoundTripLaws.{round_trip}

module _ (σ : Session) (n : Tables) (declared : Declared n) (keys : KeysOf n σ.names) where
  -- after (start), where 19 is not given
  pub value-round-trip : GoodSession σ → σ.part ≡ Run → Covers σ.model.arities n σ.held.diagram
      → is_too_long σ.model.arities (tables_of σ.names.constants σ.names.predicates) σ.held.diagram ≡ false
      → RoundTrip σ.model.arities (tables_of σ.names.constants σ.names.predicates) σ.held.diagram
  value-round-trip good run covers e =
      let is = tables-of n σ.names declared keys in
      subst (λ (m : Tables). RoundTrip σ.model.arities m σ.held.diagram) (sym is)
      (round_trip σ.model.arities n σ.held.diagram (good.begun run).value declared covers
      (ap (λ (m : Tables). is_too_long σ.model.arities m σ.held.diagram) (sym is) ∙ e))
