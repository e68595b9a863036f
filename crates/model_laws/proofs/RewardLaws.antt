-- (reward DIAGRAM): an accepted one keeps a session good.
use Rattle.std.specs.Prelude.{◌≡◌, ℕ, ◌≤◌, ltb}
use Rattle.std.proofs.Common.{sym, ltb-false}
use Rattle.std.proofs.Math.Path.{subst}
use mathlib.Core.List.{List, []}
use Rattle.refusal.specs.declared.Refusal.TheVariants.{Space}
use Rattle.forms.specs.Tree as T
use Rattle.diagram.specs.Diagram.{Diagram}
use Rattle.refusal.specs.Outcome.{ok, Accepted}
use Rattle.refusal.specs.OutcomeLaws.{accepted-ok, accepted-then, accepted-cond, accepted-next}
use Rattle.events.specs.declared.Event.{Event}
use Rattle.events.specs.Events.{diagram_events}
use Rattle.reading.specs.declared.Binding.TheVariants.{Any}
use Rattle.reading.specs.Reading.{reading}
use Rattle.reading.specs.Numbering.{met_first, reward_reading}
use Rattle.build.specs.Machine.{most_tests, built_closed}
use Rattle.session.specs.declared.Part.TheVariants.{Model as ModelPart}
use Rattle.session.specs.Session.{Names, Session}
use Rattle.session.specs.ModelLines.{most_model_rows, names_for, rows_with, with_reward, reward_read, reward_line}
use Rattle.session.specs.Good.{GoodTables, GoodValue, GoodSession}
use Rattle.model_laws.proofs.SessionLaws.{while-model, parts-with}
use Rattle.model_laws.proofs.ReadLaws.{line-reward}

-- an accepted reward
record Rewarded (ar : List ℕ) (r : ℕ) (d : Diagram) : Type 0 where
  good : GoodValue ar d
  few : rows_with r d ≤ most_model_rows

rewarded : (n : Names) (ar : List ℕ) → GoodTables n ar → (r : ℕ) (w : T.Diagram) → T.brackets w ≤ most_tests → Accepted (Rewarded ar r) (reward_read n ar r (diagram_events w))
unfolding reward_read reward_reading
rewarded n ar tables r w shallow =
    let vs = met_first (diagram_events w) in
    accepted-next (reading (names_for n ar Any []) (diagram_events w) vs) _ (λ u e.
    accepted-next (built_closed ar u.operations) _ (λ d m.
    accepted-cond (ltb most_model_rows (rows_with r d)) Space _ (λ few.
    accepted-ok (record { good = line-reward n ar tables w shallow Any vs u d e m; few = ltb-false most_model_rows (rows_with r d) few }))))

module _ (σ : Session) (good : GoodSession σ) (part : σ.part ≡ ModelPart) where
  pub reward-good : (w : T.Diagram) → T.brackets w ≤ most_tests → (es : List Event) → es ≡ diagram_events w → (τ : Session) → reward_line σ es ≡ ok τ → GoodSession τ
  unfolding reward_line with_reward
  reward-good w shallow es words = subst (λ (us : List Event). (τ : Session) → reward_line σ us ≡ ok τ → GoodSession τ) (sym words) accepted.given
    where
      accepted : Accepted GoodSession (reward_line σ (diagram_events w))
      accepted =
          accepted-then (reward_read σ.names σ.model.arities σ.rows (diagram_events w))
          (rewarded σ.names σ.model.arities good.tables σ.rows w shallow) (λ d x.
          accepted-ok
          (while-model _ part (good.quiet part) good.log good.tables good.agreeing
          (parts-with _ _ σ.model σ.model.arities d σ.model.actions good.parts (λ s. x.good) good.parts.actions) x.few))
