-- What an accepted line that declares makes: a property of the names with the one more holds of what it answers. And the kinds of line that change the actions of the model.
use Rattle.std.specs.Prelude.{◌≡◌, ◌||◌, ℕ, suc, length, ltb}
use mathlib.Core.List.{List, [], ◌∷◌, ◌++◌}
use Rattle.std.proofs.Math.Dec.{leb}
use Rattle.refusal.specs.declared.Refusal.TheVariants.{Name, Range, Space}
use Rattle.refusal.specs.Outcome.{ok}
use Rattle.refusal.specs.OutcomeLaws.{accepted-ok, accepted-cond}
use Rattle.label.specs.Limits.{constant_count, predicate_count, parameter_count, most_places}
use Rattle.mdp.specs.Model.{most_actions}
use Rattle.words.specs.declared.Key.{Key}
use Rattle.names.specs.Keys.{is_among}
use Rattle.text.specs.declared.Kind.{Kind}
use Rattle.text.specs.declared.Kind.TheVariants as K
use Rattle.session.specs.Session.{Names}
use Rattle.session.specs.Declaring.{is_declared, Vocabulary, constant_line, predicate_line, repeated, action_line}

abbrev pub more_constants : Names → Key → Names
more_constants n k = record {
  constants = n.constants ++ (k ∷ []);
  predicates = n.predicates;
  actions = n.actions;
  parameters = n.parameters;
  variants = n.variants;
  earlier = n.earlier;
}

abbrev pub more_predicates : Names → Key → Names
more_predicates n k = record {
  constants = n.constants;
  predicates = n.predicates ++ (k ∷ []);
  actions = n.actions;
  parameters = n.parameters;
  variants = n.variants;
  earlier = n.earlier;
}

abbrev pub more_actions : Names → Key → List Key → Names
more_actions n k ps = record {
  constants = n.constants;
  predicates = n.predicates;
  actions = n.actions ++ (k ∷ []);
  parameters = ps;
  variants = [];
  earlier = n.earlier ++ n.variants;
}

module _ (P : Names → Type 0) where
  pub constant_by : (n : Names) (k : Key) → P (more_constants n k) → (m : Names) → constant_line n k ≡ ok m → P m
  unfolding constant_line
  constant_by n k h m e =
      (accepted-cond {P = P} (is_declared n k) Name _ (λ a.
      accepted-cond (leb constant_count (length n.constants)) Space _ (λ b.
      accepted-ok h))).given m e

  pub predicate-by : (v : Vocabulary) (k : Key) (a : ℕ) → P (more_predicates v.names k) → (w : Vocabulary) → predicate_line v k a ≡ ok w → P w.names
  unfolding predicate_line
  predicate-by v k a h w e =
      (accepted-cond {P = λ (z : Vocabulary). P z.names} (is_declared v.names k) Name _ (λ b.
      accepted-cond (ltb most_places a) Range _ (λ c.
      accepted-cond (leb predicate_count (suc (length v.names.predicates))) Space _ (λ d.
      accepted-ok h)))).given w e

  pub action-by : (n : Names) (k : Key) (ps : List Key) → P (more_actions n k ps) → (m : Names) → action_line n k ps ≡ ok m → P m
  unfolding action_line
  action-by n k ps h m e =
      (accepted-cond {P = P} (is_among k n.actions || repeated [] ps) Name _ (λ a.
      accepted-cond (ltb parameter_count (length ps) || leb most_actions (length n.actions)) Space _ (λ b.
      accepted-ok h))).given m e

-- what a line changes of the actions of the model, if accepted: 0 nothing; 1 an action more, 2 a variant more, 3 a truth diagram more
abbrev pub change_of : Kind → ℕ
change_of K.Constant = 0
change_of K.Predicate = 0
change_of K.Total = 0
change_of K.Discount = 0
change_of K.Reward = 0
change_of K.Action = 1
change_of K.Variant = 2
change_of K.Becomes = 3
change_of K.Start = 0
change_of K.Objects = 0
change_of K.Is = 0
change_of K.True = 0
change_of K.Value = 0
change_of K.Backup = 0
change_of K.Cut = 0
change_of K.Show = 0
change_of K.Reduce = 0
change_of K.Text = 0
change_of K.Best = 0
change_of K.Count = 0
change_of K.Did = 0
change_of K.Bad = 0
