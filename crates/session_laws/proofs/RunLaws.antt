-- (start), (backup), (cut) and (reduce) keep a session good (document 01, sections 'Text', 'Backup' and 'Cut'; document 02, L13).
use Rattle.std.specs.Prelude.{◌≡◌, true, ◌≤◌, length}
use Rattle.std.proofs.Common.{sym, arith, leb-true}
use Rattle.basics.specs.Tests.{and_left, and_right}
use Rattle.refusal.specs.Outcome.{Outcome, ok, and_then}
use Rattle.refusal.specs.OutcomeLaws.{accepted-ok, accepted-then}
use Rattle.mdp.specs.Model.{Model, GoodModel}
use Rattle.mdp.specs.Runs.{Call, Held, call, begin}
use Rattle.text.specs.declared.Kind.TheVariants as K
use Rattle.session.specs.declared.Part.TheVariants.{Model as ModelPart, Run}
use Rattle.session.specs.Place.{rule_of}
use Rattle.session.specs.Session.{Session, with_held}
use Rattle.session.specs.ModelLines.{weighed}
use Rattle.session.specs.Running.{start_line}
use Rattle.session.specs.Replies.{is_whole, allowed}
use Rattle.session.specs.Good.{GoodValue, Begun, GoodSession}
use Rattle.session_laws.proofs.PlaceLaws.{model-run, start-model}
use Rattle.session_laws.proofs.HeldLaws.{call-good}

-- ===== (start) =====

model-good : (σ : Session) → GoodSession σ → is_whole σ ≡ true → GoodModel σ.model
model-good σ g w =
    let r = g.parts.reward (and_left σ.singles.reward _ w) in
    record {
      arities = g.tables.arities;
      total-some = g.parts.total-some;
      total-few = g.parts.total-few;
      denominator-some = g.parts.denominator-some;
      denominator-few = g.parts.denominator-few;
      numerator-few = g.parts.numerator-few;
      reward-listed = r.listed;
      reward-closed = r.is-closed;
      reward = r.within;
      actions-few = omega (arith, g.agreeing.count, g.tables.actions);
      actions = g.parts.actions;
    }

-- a whole model has an action
some-action : (σ : Session) → GoodSession σ → is_whole σ ≡ true → 1 ≤ length σ.model.actions
some-action σ g w =
    let n = leb-true 1 (length σ.names.actions) (and_left _ _ (and_right σ.singles.reward _ w)) in
    omega (arith, g.agreeing.count)

-- the value diagram starts as the reward
reward-value : (m : Model) → GoodModel m → GoodValue m.arities m.reward
reward-value m g = record { listed = g.reward-listed; is-closed = g.reward-closed; within = g.reward }

-- another value diagram, in the run
held-good : (σ : Session) → GoodSession σ → (h : Held) → Begun (with_held σ Run h) → GoodSession (with_held σ Run h)
held-good σ g h b = record {
  tables = g.tables;
  agreeing = g.agreeing;
  parts = g.parts;
  few = g.few;
  state = g.state;
  most = g.most;
  log = g.log;
  quiet = λ e. model-run (sym e);
  begun = λ e. b;
}

-- a session made from what a line reads
pub made_by : {A : Type 0} (Q : Session → Type 0) (o : Outcome A) (f : A → Session) → ((a : A) → Q (f a)) → (τ : Session) → and_then o (λ a. ok (f a)) ≡ ok τ
    → Q τ
made_by Q o f h τ e = (accepted-then {P = λ a. Unit {0}} {Q = Q} o (record { given = λ a q. tt }) (λ a q. accepted-ok (h a))).given τ e

pub start-good : (σ : Session) → GoodSession σ → σ.part ≡ ModelPart → allowed σ (rule_of K.Start σ.part) ≡ ok tt → (τ : Session)
    → start_line σ ≡ ok τ → GoodSession τ
unfolding start_line begin
start-good σ g p a τ e =
    let w = start-model σ p a in
    let m = model-good σ g w in
    made_by GoodSession (weighed σ.model.arities σ.model.total σ.model.actions) (λ u. with_held σ Run (begin σ.model))
    (λ u. held-good σ g (begin σ.model) (record { some = some-action σ g w; good = m; value = reward-value σ.model m })) τ e

-- ===== (backup), (cut) and (reduce): one call more =====

pub called-good : (σ : Session) → GoodSession σ → (c : Call) (h : Held) → call σ.model c σ.held ≡ ok h → GoodSession (with_held σ σ.part h)
called-good σ g c h e = record {
  tables = g.tables;
  agreeing = g.agreeing;
  parts = g.parts;
  few = g.few;
  state = g.state;
  most = g.most;
  log = g.log;
  quiet = g.quiet;
  begun = λ r. let b = g.begun r in record { some = b.some; good = b.good; value = (call-good σ.model b.good c σ.held b.value).given h e };
}
