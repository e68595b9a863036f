-- What holds of a session from line to line.
use Rattle.std.specs.Prelude.{◌≡◌, true, List, [], ◌∷◌, ℕ, ◌+◌, ◌*◌, ◌≤◌, ◌<◌, length, get_or}
use Rattle.label.specs.Limits.{constant_count, predicate_count, parameter_count}
use Rattle.label.specs.Labels.{are_arities}
use Rattle.diagram.specs.Sizes.{highest_value}
use Rattle.diagram.specs.Diagram.{Diagram}
use Rattle.diagram.specs.Listing.{Good}
use Rattle.diagram.specs.Variables.{closed}
use Rattle.state.specs.State.{meaning}
use Rattle.state.specs.Max.{sum_of}
use Rattle.state.specs.Lent.{is_state, most_objects}
use Rattle.regression.specs.Parameters.{Within}
use Rattle.mdp.specs.Model.{Action, Model, Every, GoodAction, GoodModel, most_total, most_denominator, most_actions, most_variants}
use Rattle.session.specs.declared.Part.TheVariants.{Model as ModelPart, Run}
use Rattle.session.specs.Session.{Names, Singles, Live, Session}
use Rattle.session.specs.ModelLines.{most_model_rows}

-- names of variants, of all actions together
abbrev pub most_variant_names : ℕ
most_variant_names = most_actions * most_variants

-- names within their limits; a predicate that is not declared has arity 0
pub record GoodTables (n : Names) (ar : List ℕ) : Type 0 where
  pub constants : length n.constants ≤ constant_count
  pub predicates : length n.predicates < predicate_count
  pub actions : length n.actions ≤ most_actions
  pub parameters : length n.parameters ≤ parameter_count
  pub variants : length n.variants ≤ most_variants
  pub earlier : length n.earlier + length n.variants ≤ most_variant_names
  pub arities : are_arities ar ≡ true
  pub undeclared : (p : ℕ) → length n.predicates < p → get_or ar p 0 ≡ 0

-- the last of the actions has c parameters and v variants
abbrev pub LastAction : List Action → ℕ → ℕ → Type 0
LastAction [] c v = v ≡ 0
LastAction (a ∷ []) c v = (a.count ≡ c) × (length a.variants ≡ v)
LastAction (a ∷ b ∷ l) c v = LastAction (b ∷ l) c v

-- the variants of all actions
unfoldable pub variant_count : List Action → ℕ
unfolding sum_of
variant_count l = sum_of l (λ a. length a.variants)

-- names and actions agree: as many actions, the last one's parameters and variants, the variants of all
pub record Agreeing (n : Names) (l : List Action) : Type 0 where
  pub count : length n.actions ≡ length l
  pub last : LastAction l (length n.parameters) (length n.variants)
  pub all : length n.earlier + length n.variants ≡ variant_count l

-- a reward that is read, or a value diagram: it has a listing, is closed up and has no parameter
pub record GoodValue (ar : List ℕ) (d : Diagram) : Type 0 where
  pub listed : Good ar d
  pub is-closed : closed ar d ≡ d
  pub within : Within 0 (meaning ar d)

-- a model while its lines are read
pub record GoodParts (s : Singles) (m : Model) : Type 0 where
  pub total-some : 1 ≤ m.total
  pub total-few : m.total ≤ most_total
  pub denominator-some : 1 ≤ m.denominator
  pub denominator-few : m.denominator ≤ most_denominator
  pub numerator-few : m.numerator ≤ m.denominator
  pub reward : s.reward ≡ true → GoodValue m.arities m.reward
  pub actions : Every (GoodAction m.arities) m.actions

-- count and total of the (did ..) lines: 'the count or the total passes 10^18' is refused; no reward is met before the first (document 02, L10)
pub record GoodLog (l : Live) : Type 0 where
  pub count : l.count ≤ highest_value
  pub total : l.total ≤ highest_value
  pub none : l.count ≡ 0 → l.total ≡ 0

-- the run has begun: the model has an action, and it and the value diagram are good
pub record Begun (σ : Session) : Type 0 where
  pub some : 1 ≤ length σ.model.actions
  pub good : GoodModel σ.model
  pub value : GoodValue σ.model.arities σ.held.diagram

-- all of it can be told from the session alone
pub record GoodSession (σ : Session) : Type 0 where
  pub tables : GoodTables σ.names σ.model.arities
  pub agreeing : Agreeing σ.names σ.model.actions
  pub parts : GoodParts σ.singles σ.model
  pub few : σ.rows ≤ most_model_rows
  pub state : 1 ≤ σ.live.objects → is_state σ.model.arities σ.live.objects σ.live.constants σ.live.facts ≡ true
  pub most : σ.live.objects ≤ most_objects
  pub log : GoodLog σ.live
  pub quiet : σ.part ≡ ModelPart → σ.live.objects ≡ 0
  pub begun : σ.part ≡ Run → Begun σ
