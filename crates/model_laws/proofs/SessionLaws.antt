-- A session while its model is read: no state is lent and no run has begun, so names, model and rows are all that has to be good.
use Rattle.std.specs.Prelude.{◌≡◌, true, List, ℕ, ◌≤◌}
use Rattle.std.proofs.Common.{sym, ◌∙◌, arith}
use Rattle.diagram.specs.Diagram.{Diagram}
use Rattle.mdp.specs.Model.{Action, Model, Every, GoodAction}
use Rattle.session.specs.declared.Part.TheVariants.{Model as ModelPart, Run}
use Rattle.session.specs.Session.{Singles, Session}
use Rattle.session.specs.ModelLines.{most_model_rows}
use Rattle.session.specs.Good.{GoodTables, Agreeing, GoodValue, GoodParts, GoodLog, GoodSession}

pub while-model : (σ : Session) → σ.part ≡ ModelPart → σ.live.objects ≡ 0 → GoodLog σ.live → GoodTables σ.names σ.model.arities
    → Agreeing σ.names σ.model.actions → GoodParts σ.singles σ.model → σ.rows ≤ most_model_rows → GoodSession σ
while-model σ part none log tables agreeing parts few = record {
  tables = tables;
  agreeing = agreeing;
  parts = parts;
  few = few;
  state = λ some. absurd (omega arith);
  most = omega arith;
  log = log;
  quiet = λ e. none;
  begun = λ run. absurd (let z : ModelPart ≡ Run = sym part ∙ run in let y : ◌≡◌ {A = ℕ} 0 1 = cc in omega arith);
}

-- a model with other arities, reward and actions: its numbers stay good
pub parts-with : (s t : Singles) (m : Model) (ar : List ℕ) (r : Diagram) (l : List Action) → GoodParts s m → (t.reward ≡ true → GoodValue ar r) → Every (GoodAction ar) l
    → GoodParts t (record { arities = ar; total = m.total; numerator = m.numerator; denominator = m.denominator; reward = r; actions = l })
parts-with s t m ar r l g reward actions = record {
  total-some = g.total-some;
  total-few = g.total-few;
  denominator-some = g.denominator-some;
  denominator-few = g.denominator-few;
  numerator-few = g.numerator-few;
  reward = reward;
  actions = actions;
}
