-- What a caller of `read_words` has where the words are those of a diagram: operations of a good diagram in the lent words.
use Rattle.std.specs.Prelude.{ℕ, ◌+◌, ◌*◌, ◌≤◌, ◌<◌, ◌≡◌, List, length, get_or}
use Rattle.std.proofs.Common.{sym, ap, subst, ◌∙◌}
use Rattle.label.specs.Limits.{constant_count, parameter_count, predicate_count, leaf_mark}
use Rattle.diagram.specs.Sizes.{highest_value}
use Rattle.forms.specs.Tree as T
use Rattle.names.specs.KeyLaws.{length-keys}
use Rattle.names.specs.Layout.{constants_at, declared_at, parameters_at}
use Rattle.events.specs.declared.Event.{Event}
use Rattle.events.specs.Events.{diagram_events}
use Rattle.reading.specs.Reading.{Environment, Met, Written, reading}
use Rattle.reading.specs.Inner.{depth, Named, reach, GoodReading, NamesFit}
use Rattle.reading.specs.Tree.{Reading, ops_of}
use Rattle.reading.specs.GoodLaws.{reading-sound}
use Rattle.reader.specs.declared.Scope.{Scope}
use Rattle.reader.specs.declared.Known.{Known}
use Rattle.reader.specs.OperationWords.{ops_in}
use Rattle.reader.specs.OperationLaws.{InRange, operations-range, leaf-range, label-range}
use Rattle.reader.specs.Callers.{names_of, met_in, Tables, Reads}
use Rattle.std.specs.Prelude.{Ok}

pub tables-fit : (ns ar : List ℕ) (s : Scope) → Tables ns ar s → NamesFit (names_of ns ar s)
tables-fit ns ar s t = record {
  constants-few = subst (λ n. n ≤ constant_count) (sym (length-keys ns constants_at s.constants)) t.constants-fit;
  predicates-few = subst (λ n. n < predicate_count) (sym (length-keys ns declared_at s.predicates)) t.predicates-fit;
  parameters-few = subst (λ n. n ≤ parameter_count) (sym (length-keys ns parameters_at s.parameters)) t.parameters-fit;
  arity-list = t.arities-fit;
}

-- n operations in the words os are those of a good diagram
pub record Diagrammed (σ : Environment) (vs : Met) (d : T.Diagram) (n : ℕ) (os : List ℕ) : Type 0 where
  pub tree : Reading
  pub operations : ops_in os n ≡ ops_of tree
  pub good : GoodReading σ.arities (Named (length σ.parameters) (reach σ.binding vs)) tree
  pub shallow : depth tree ≤ T.brackets d
  pub values : (k : ℕ) → k < n → get_or os (k * 2) 0 ≡ 0 → get_or os (k * 2 + 1) 0 ≤ highest_value
  pub labels : (k : ℕ) → k < n → get_or os (k * 2) 0 ≡ 1 → get_or os (k * 2 + 1) 0 < leaf_mark

module _ (σ : Environment) (f : NamesFit σ) (d : T.Diagram) (es : List Event) (e : es ≡ diagram_events d) (ks : Met) {vs os : List ℕ} where
  pub read-diagram : {n : ℕ} {m : Known} → Reads (reading σ es ks) (Ok (n, m)) vs os → Diagrammed σ ks d n os
  read-diagram {n} {m} g =
      let w : Written = record { met = met_in vs m; operations = ops_in os n } in
      let s = reading-sound σ f d ks w (ap (λ x. reading σ x ks) (sym e) ∙ sym g.answer) in
      let a = operations-range σ.arities (Named (length σ.parameters) (reach σ.binding ks)) s.tree s.good in
      let b = subst (T.All InRange) (sym s.operations) a in
      record {
        tree = s.tree;
        operations = s.operations;
        good = s.good;
        shallow = s.shallow;
        values = λ k h. leaf-range os n b k h;
        labels = λ k h. label-range os n b k h;
      }
