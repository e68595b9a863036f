-- Lines that declare constants, numbers and actions keep a session good.
use Rattle.std.specs.Prelude.{◌≡◌, not, ◌||◌, ltb, leb}
use mathlib.Core.List.{List, [], ◌∷◌, ◌++◌}
use Prim.Native.Nat.{ℕ}
use Rattle.std.proofs.Common.{arith, length-append}
use Rattle.std.proofs.Math.ListN.{length}
use borrow.Author.Tests.{leb-true, leb-false, ltb-false, not-false}
use Rattle.basics.specs.Tests.{and_left, and_right, neither}
use Rattle.refusal.specs.declared.Refusal.TheVariants.{Name, Range, Space}
use Rattle.label.specs.Limits.{constant_count, parameter_count}
use Rattle.words.specs.declared.Key.{Key}
use Rattle.names.specs.Keys.{is_among}
use Rattle.refusal.specs.Outcome.{ok, Accepted}
use Rattle.refusal.specs.OutcomeLaws.{accepted-ok, accepted-cond}
use Rattle.mdp.specs.Model.{Action, GoodAction, most_total, most_denominator, most_actions}
use Rattle.session.specs.declared.Part.TheVariants.{Model as ModelPart}
use Rattle.session.specs.Session.{Names, Session, with_names}
use Rattle.session.specs.Declaring.{is_declared, constant_line, is_total, total_line, with_total, is_discount, discount_line, with_discount, repeated, action_line, with_action}
use Rattle.session.specs.Good.{GoodTables, GoodParts, GoodSession}
use Rattle.model_laws.proofs.SessionLaws.{while-model, parts-with}
use Rattle.model_laws.proofs.ActionLaws.{length_more, every_more, last_more, variants-more}

module _ (σ : Session) (good : GoodSession σ) (part : σ.part ≡ ModelPart) where
  tables : GoodTables σ.names σ.model.arities
  tables = good.tables

  parts : GoodParts σ.singles σ.model
  parts = good.parts

  pub constant-good : (k : Key) (n : Names) → constant_line σ.names k ≡ ok n → GoodSession (with_names σ n)
  unfolding constant_line
  constant-good k = accepted.given
    where
      accepted : Accepted (λ (n : Names). GoodSession (with_names σ n)) (constant_line σ.names k)
      accepted =
          accepted-cond (is_declared σ.names k) Name _ (λ new.
          accepted-cond (leb constant_count (length σ.names.constants)) Space _ (λ room.
          accepted-ok
          (while-model _ part (good.quiet part) good.log
          (record {
            constants = omega (arith, length_more σ.names.constants k, leb-false constant_count (length σ.names.constants) room);
            predicates = tables.predicates;
            actions = tables.actions;
            parameters = tables.parameters;
            variants = tables.variants;
            earlier = tables.earlier;
            arities = tables.arities;
            undeclared = tables.undeclared;
          })
          (record { count = good.agreeing.count; last = good.agreeing.last; all = good.agreeing.all })
          parts
          good.few)))

  pub total-good : (w x : ℕ) → total_line w ≡ ok x → GoodSession (with_total σ x)
  unfolding total_line is_total with_total
  total-good w = accepted.given
    where
      accepted : Accepted (λ (x : ℕ). GoodSession (with_total σ x)) (total_line w)
      accepted =
          accepted-cond (not (is_total w)) Range _ (λ e.
          let q = not-false (is_total w) e in
          accepted-ok
          (while-model _ part (good.quiet part) good.log tables good.agreeing
          (record {
            total-some = leb-true 1 w (and_left (leb 1 w) _ q);
            total-few = leb-true w most_total (and_right (leb 1 w) _ q);
            denominator-some = parts.denominator-some;
            denominator-few = parts.denominator-few;
            numerator-few = parts.numerator-few;
            reward = parts.reward;
            actions = parts.actions;
          })
          good.few))

  pub discount-good : (g d : ℕ) (q : ℕ × ℕ) → discount_line g d ≡ ok q → GoodSession (with_discount σ q)
  unfolding discount_line is_discount with_discount
  discount-good g d = accepted.given
    where
      accepted : Accepted (λ (q : ℕ × ℕ). GoodSession (with_discount σ q)) (discount_line g d)
      accepted =
          accepted-cond (not (is_discount g d)) Range _ (λ e.
          let q = not-false (is_discount g d) e in
          let r = and_right (leb 1 d) _ q in
          accepted-ok
          (while-model _ part (good.quiet part) good.log tables good.agreeing
          (record {
            total-some = parts.total-some;
            total-few = parts.total-few;
            denominator-some = leb-true 1 d (and_left (leb 1 d) _ q);
            denominator-few = leb-true d most_denominator (and_left (leb d most_denominator) _ r);
            numerator-few = leb-true g d (and_right (leb d most_denominator) _ r);
            reward = parts.reward;
            actions = parts.actions;
          })
          good.few))

  pub action-good : (k : Key) (ps : List Key) (n : Names) → action_line σ.names k ps ≡ ok n → GoodSession (with_action σ n)
  unfolding action_line with_action
  action-good k ps = accepted.given
    where
      a : Action
      a = record { count = length ps; variants = [] }

      accepted : Accepted (λ (n : Names). GoodSession (with_action σ n)) (action_line σ.names k ps)
      accepted =
          accepted-cond (is_among k σ.names.actions || repeated [] ps) Name _ (λ new.
          accepted-cond (ltb parameter_count (length ps) || leb most_actions (length σ.names.actions)) Space _ (λ e.
          let q = neither (ltb parameter_count (length ps)) _ e in
          let few = ltb-false parameter_count (length ps) q.0 in
          accepted-ok
          (while-model _ part (good.quiet part) good.log
          (record {
            constants = tables.constants;
            predicates = tables.predicates;
            actions = omega (arith, length_more σ.names.actions k, leb-false most_actions (length σ.names.actions) q.1);
            parameters = few;
            variants = omega arith;
            earlier = omega (arith, tables.earlier, length-append σ.names.earlier σ.names.variants);
            arities = tables.arities;
            undeclared = tables.undeclared;
          })
          (record {
            count = omega (arith, length_more σ.names.actions k, length_more σ.model.actions a, good.agreeing.count);
            last = last_more σ.model.actions a;
            all = omega (arith, good.agreeing.all, length-append σ.names.earlier σ.names.variants, variants-more σ.model.actions a);
          })
          (parts-with _ σ.singles σ.model σ.model.arities σ.model.reward (σ.model.actions ++ (a ∷ [])) parts parts.reward
          (every_more (GoodAction σ.model.arities) σ.model.actions a parts.actions (record { few = few; variants-few = omega arith; variants = tt })))
          good.few)))
