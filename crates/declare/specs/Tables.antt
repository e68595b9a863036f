-- A session's names in lent words, and what a declaration does to them.
use Rattle.std.specs.Prelude.{◌≡◌, true, List, ℕ, ◌+◌, ◌*◌, ◌<◌, ◌≤◌, length}
use Rattle.label.specs.Limits.{constant_count, predicate_count, parameter_count}
use Rattle.label.specs.Labels.{are_arities}
use Rattle.names.specs.Keys.{keys_at}
use Rattle.names.specs.Layout.{constants_at, declared_at, actions_at, parameters_at, variants_at, name_words}
use Rattle.mdp.specs.Model.{most_actions, most_variants}
use Rattle.session.specs.Session.{Names}
use Rattle.session.specs.Good.{most_variant_names}
use Rattle.declare.specs.declared.Counts.{Counts}

unfoldable pub names_of : List ℕ → Counts → Names
names_of s n = record {
  constants = keys_at s constants_at n.constants;
  predicates = keys_at s declared_at n.predicates;
  actions = keys_at s actions_at n.actions;
  parameters = keys_at s parameters_at n.parameters;
  variants = keys_at s (variants_at + n.earlier * 2) n.variants;
  earlier = keys_at s variants_at n.earlier;
}

pub record GoodNames (s : List ℕ) (n : Counts) : Type 0 where
  pub room : name_words ≤ length s
  pub constants : n.constants ≤ constant_count
  pub predicates : n.predicates < predicate_count
  pub actions : n.actions ≤ most_actions
  pub parameters : n.parameters ≤ parameter_count
  pub variants : n.variants ≤ most_variants
  pub earlier : n.earlier + n.variants ≤ most_variant_names

-- the names, and an arity list
pub record GoodVocabulary (s ar : List ℕ) (n : Counts) : Type 0 where
  pub names : GoodNames s n
  pub arities : are_arities ar ≡ true
