-- A line that declares a predicate keeps a session good.
use Rattle.std.specs.Prelude.{◌≡◌, length, set, ltb, leb}
use Rattle.std.proofs.Common.{◌∙◌, arith, get_or-set_other, leb-false, ltb-false}
use mathlib.Core.List.{List}
use Prim.Native.Nat.{ℕ, suc, ◌≤◌}
use Rattle.refusal.specs.declared.Refusal.TheVariants.{Name, Range, Space}
use Rattle.label.specs.Limits.{predicate_count, most_places}
use Rattle.words.specs.declared.Key.{Key}
use Rattle.refusal.specs.Outcome.{ok, Accepted}
use Rattle.refusal.specs.OutcomeLaws.{accepted-ok, accepted-cond}
use Rattle.session.specs.declared.Part.TheVariants.{Model as ModelPart}
use Rattle.session.specs.Session.{Session}
use Rattle.session.specs.Declaring.{is_declared, Vocabulary, predicate_line, with_vocabulary}
use Rattle.session.specs.Good.{GoodTables, GoodSession}
use Rattle.model_laws.proofs.SessionLaws.{while-model, parts-with}
use Rattle.model_laws.proofs.ActionLaws.{length_more}
use Rattle.model_laws.proofs.ArityLaws.{AritiesGrown, grown-set}
use Rattle.model_laws.proofs.GrowthLaws.{reward-grown, actions-grown}

module _ (σ : Session) (good : GoodSession σ) (part : σ.part ≡ ModelPart) where
  pub predicate-good : (k : Key) (a : ℕ) (v : Vocabulary) → predicate_line (record { names = σ.names; arities = σ.model.arities }) k a ≡ ok v
      → GoodSession (with_vocabulary σ v)
  unfolding predicate_line with_vocabulary
  predicate-good k a = accepted.given
    where
      ar : List ℕ
      ar = σ.model.arities

      -- the number of the predicate
      p : ℕ
      p = suc (length σ.names.predicates)

      tables : GoodTables σ.names ar
      tables = good.tables

      grown : a ≤ most_places → AritiesGrown ar (set ar p a)
      grown h = grown-set ar p a tables.arities (omega arith) (tables.undeclared p (omega arith)) h

      accepted : Accepted (λ (v : Vocabulary). GoodSession (with_vocabulary σ v)) (predicate_line (record { names = σ.names; arities = ar }) k a)
      accepted =
          accepted-cond (is_declared σ.names k) Name _ (λ new.
          accepted-cond (ltb most_places a) Range _ (λ e.
          accepted-cond (leb predicate_count p) Space _ (λ room.
          let g = grown (ltb-false most_places a e) in
          let l = length_more σ.names.predicates k in
          accepted-ok
          (while-model _ part (good.quiet part) good.log
          (record {
            constants = tables.constants;
            predicates = omega (arith, l, leb-false predicate_count p room);
            actions = tables.actions;
            parameters = tables.parameters;
            variants = tables.variants;
            earlier = tables.earlier;
            arities = g.arities;
            undeclared = λ q h. get_or-set_other ar p q a 0 (λ z. omega arith) ∙ tables.undeclared q (omega arith);
          })
          (record { count = good.agreeing.count; last = good.agreeing.last; all = good.agreeing.all })
          (parts-with _ σ.singles σ.model (set ar p a) σ.model.reward σ.model.actions good.parts
          (λ s. reward-grown ar (set ar p a) g σ.model.reward (good.parts.reward s)) (actions-grown ar (set ar p a) g σ.model.actions good.parts.actions))
          good.few))))
