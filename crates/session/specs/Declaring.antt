-- Lines that declare names and numbers: their checks in order, and what an accepted one does (document 01, sections 'Text' and 'Refusals by trade word').
use Rattle.std.specs.Prelude.{Bool, true, false, not, ◌||◌, ◌&&◌, List, [], ◌∷◌, ◌++◌, ℕ, suc, length, set, ltb, leb}
use Rattle.refusal.specs.declared.Refusal.TheVariants.{Name, Range, Space}
use Rattle.label.specs.Limits.{constant_count, predicate_count, parameter_count, most_places}
use Rattle.words.specs.declared.Key.{Key}
use Rattle.names.specs.Keys.{is_among}
use Rattle.refusal.specs.Outcome.{Outcome, ok}
use Rattle.mdp.specs.Model.{most_total, most_denominator, most_actions}
use Rattle.session.specs.Session.{Names, Session, with_actions, with_model, with_names, refuse_if}

-- constants and predicates share one set of names
unfoldable pub is_declared : Names → Key → Bool
unfolding is_among
is_declared n k = is_among k n.constants || is_among k n.predicates

-- (constant n): 2 at its name; 16 constants
unfoldable pub constant_line : Names → Key → Outcome Names
unfolding is_declared
constant_line n k =
    refuse_if (is_declared n k) Name
    (refuse_if (leb constant_count (length n.constants)) Space
    (ok (record {
      constants = n.constants ++ (k ∷ []);
      predicates = n.predicates;
      actions = n.actions;
      parameters = n.parameters;
      variants = n.variants;
      earlier = n.earlier;
    })))

-- the names and the arity list
pub record Vocabulary : Type 0 where
  pub names : Names
  pub arities : List ℕ

-- (predicate n arity): 2 at its name, 4 at its arity; predicates 1 to 31
unfoldable pub predicate_line : Vocabulary → Key → ℕ → Outcome Vocabulary
unfolding is_declared
predicate_line v k a =
    refuse_if (is_declared v.names k) Name
    (refuse_if (ltb most_places a) Range
    (refuse_if (leb predicate_count (suc (length v.names.predicates))) Space
    (ok (record {
      names = record {
        constants = v.names.constants;
        predicates = v.names.predicates ++ (k ∷ []);
        actions = v.names.actions;
        parameters = v.names.parameters;
        variants = v.names.variants;
        earlier = v.names.earlier;
      };
      arities = set v.arities (suc (length v.names.predicates)) a;
    }))))

unfoldable pub with_vocabulary : Session → Vocabulary → Session
with_vocabulary σ v =
    with_names (with_model σ σ.singles (record {
      arities = v.arities;
      total = σ.model.total;
      numerator = σ.model.numerator;
      denominator = σ.model.denominator;
      reward = σ.model.reward;
      actions = σ.model.actions;
    })) v.names

-- (total W): 1 to 1,000,000
unfoldable pub is_total : ℕ → Bool
is_total w = leb 1 w && leb w most_total

unfoldable pub total_line : ℕ → Outcome ℕ
unfolding is_total
total_line w = refuse_if (not (is_total w)) Range (ok w)

unfoldable pub with_total : Session → ℕ → Session
with_total σ w =
    with_model σ (record { total = true; discount = σ.singles.discount; reward = σ.singles.reward }) (record {
      arities = σ.model.arities;
      total = w;
      numerator = σ.model.numerator;
      denominator = σ.model.denominator;
      reward = σ.model.reward;
      actions = σ.model.actions;
    })

-- (discount G D): D 1 to 1,000,000, G 0 to D
unfoldable pub is_discount : ℕ → ℕ → Bool
is_discount g d = leb 1 d && (leb d most_denominator && leb g d)

unfoldable pub discount_line : ℕ → ℕ → Outcome (ℕ × ℕ)
unfolding is_discount
discount_line g d = refuse_if (not (is_discount g d)) Range (ok (g, d))

unfoldable pub with_discount : Session → ℕ × ℕ → Session
with_discount σ q =
    with_model σ (record { total = σ.singles.total; discount = true; reward = σ.singles.reward }) (record {
      arities = σ.model.arities;
      total = σ.model.total;
      numerator = q.0;
      denominator = q.1;
      reward = σ.model.reward;
      actions = σ.model.actions;
    })

-- one of the names ks is among those before it, the names vs first
unfoldable pub repeated : List Key → List Key → Bool
unfolding is_among
repeated vs [] = false
repeated vs (k ∷ ks) = is_among k vs || repeated (vs ++ (k ∷ [])) ks

-- (action n !p ..): 2 at its name and at a repeated parameter; last 9 for 4 parameters and 8 actions. It has no variant yet.
unfoldable pub action_line : Names → Key → List Key → Outcome Names
unfolding is_among repeated
action_line n k ps =
    refuse_if (is_among k n.actions || repeated [] ps) Name
    (refuse_if (ltb parameter_count (length ps) || leb most_actions (length n.actions)) Space
    (ok (record {
      constants = n.constants;
      predicates = n.predicates;
      actions = n.actions ++ (k ∷ []);
      parameters = ps;
      variants = [];
      earlier = n.earlier ++ n.variants;
    })))

-- one action more: it has the parameters that the line names and no variant
unfoldable pub with_action : Session → Names → Session
with_action σ n =
    with_names (with_model σ σ.singles (with_actions σ.model (σ.model.actions ++ (record { count = length n.parameters; variants = [] } ∷ [])))) n
