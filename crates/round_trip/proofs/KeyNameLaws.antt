-- The name of a name's key is the name, so a session's tables have the names as declared.
use Rattle.std.specs.Prelude.{◌≡◌, refl, List, [], ◌∷◌, map, ℕ, suc}
use Rattle.std.proofs.Common.{ap, ◌∙◌, arith}
use Rattle.words.specs.Keys.{key_of, name_of}
use Rattle.words.specs.KeyLaws.{name-of}
use Rattle.session.specs.Session.{Names}
use Rattle.diagram_form.specs.Form.{Tables, tables_of}
use Rattle.round_trip.specs.RoundTrip.{AreNames, Declared}
use Rattle.round_trip.specs.KeyNames.{KeysOf}

names_of : (ns : List (List ℕ)) → AreNames ns → map name_of (map key_of ns) ≡ ns
names_of [] g = refl
names_of (n ∷ ns) g = rw (name-of n (g 0 (omega arith)), names_of ns (λ i h. g (suc i) (omega arith)))

-- names of constants and predicates are printed as declared
pub tables-of : (n : Tables) (s : Names) → Declared n → KeysOf n s → tables_of s.constants s.predicates ≡ n
unfolding tables_of
tables-of n s g k =
    let c = ap (map name_of) k.constants ∙ names_of n.constants g.constants-named in
    let p = ap (map name_of) k.predicates ∙ names_of n.predicates g.predicates-named in
    λ i. record { constants = c i; predicates = p i }
