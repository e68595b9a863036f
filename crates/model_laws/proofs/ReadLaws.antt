-- The diagram on a line of a good session, its words read and built.
use Rattle.std.specs.Prelude.{◌≡◌, List, [], ℕ, ◌≤◌, length}
use Rattle.std.proofs.Common.{ap, sym, ◌∙◌, arith}
use Rattle.label.specs.Limits.{parameter_count}
use Rattle.words.specs.declared.Key.{Key}
use Rattle.forms.specs.Tree as T
use Rattle.diagram.specs.Diagram.{Diagram}
use Rattle.refusal.specs.Outcome.{ok}
use Rattle.events.specs.Events.{diagram_events}
use Rattle.reading.specs.declared.Binding.{Binding}
use Rattle.reading.specs.Reading.{Met, Written, reading}
use Rattle.reading.specs.Inner.{reach, NamesFit}
use Rattle.reading.specs.GoodLaws.{reading-sound}
use Rattle.build.specs.Machine.{most_tests, built, built_closed}
use Rattle.session.specs.Session.{Names}
use Rattle.session.specs.ModelLines.{names_for}
use Rattle.session.specs.Good.{GoodTables, GoodValue}
use Rattle.model_laws.proofs.DrawnLaws.{Read, built-read, built-good}

module _ (n : Names) (ar : List ℕ) (good : GoodTables n ar) where
  names-fit : (b : Binding) (ps : List Key) → length ps ≤ parameter_count → NamesFit (names_for n ar b ps)
  names-fit b ps few = record { constants-few = good.constants; predicates-few = good.predicates; parameters-few = few; arity-list = good.arities }

  module _ (d : T.Diagram) (shallow : T.brackets d ≤ most_tests) (b : Binding) (vs : Met) (w : Written) (x : Diagram) where
    -- a weight or a truth diagram
    pub line_read : (ps : List Key) → length ps ≤ parameter_count → reading (names_for n ar b ps) (diagram_events d) vs ≡ ok w → built w.operations ≡ ok x
        → Read ar (length ps) (reach b vs) x
    line_read ps few e m =
        let s = reading-sound (names_for n ar b ps) (names-fit b ps few) d vs w e in
        built-read ar good.arities (length ps) (reach b vs) s.tree s.good (omega (arith, s.shallow)) x (ap built (sym s.operations) ∙ m)

    -- a reward, which has no parameters
    pub line-reward : reading (names_for n ar b []) (diagram_events d) vs ≡ ok w → built_closed ar w.operations ≡ ok x → GoodValue ar x
    line-reward e m =
        let s = reading-sound (names_for n ar b []) (names-fit b [] (omega arith)) d vs w e in
        built-good ar good.arities (reach b vs) s.tree s.good (omega (arith, s.shallow)) x (ap (built_closed ar) (sym s.operations) ∙ m)
