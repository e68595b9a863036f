-- A backup, a cut or a reduction leaves a good value diagram (document 01, sections 'Backup' and 'Cut'; document 02, L13).
use Rattle.std.specs.Prelude.{List, [], ℕ}
use Rattle.diagram.specs.Diagram.{Diagram}
use Rattle.refusal.specs.Outcome.{Outcome, Accepted}
use Rattle.state.specs.State.{State, meaning}
use Rattle.minimum.specs.Number.{number}
use Rattle.minimum.proofs.NumberLaws.{number_is}
use Rattle.reduction.specs.Reduction.{reduce_answer}
use Rattle.reduction.specs.Claims.{Values}
use Rattle.reduction.proofs.ReductionLaws.{reduce-is}
use Rattle.mdp.specs.Model.{Model, GoodModel}
use Rattle.mdp.specs.Backup.{backup}
use Rattle.mdp.specs.Runs.{Call, a_backup, a_cut, a_reduce, Held, cut_outcome, held_with, call}
use Rattle.mdp.proofs.StepLaws.{held_with_lem}
use Rattle.mdp.proofs.BackupLaws.{bound-none, backup-steps}
use Rattle.mdp.proofs.CutLaws.{cut-is}
use Rattle.session.specs.Good.{GoodValue}

-- the values that it has are its own numbers
own-values : (ar : List ℕ) (d : Diagram) → GoodValue ar d → Values ar (λ s. number s [] (meaning ar d)) d
own-values ar d g = record {
  listed = g.listed;
  is-closed = g.is-closed;
  within = g.within;
  numbers = λ s h. number_is s [] h (bound-none s h) (meaning ar d);
}

values-good : (ar : List ℕ) (x : State → ℕ) (d : Diagram) → Values ar x d → GoodValue ar d
values-good ar x d v = record { listed = v.listed; is-closed = v.is-closed; within = v.within }

held-good : (ar : List ℕ) (k : ℕ) (o : Outcome Diagram) {x : State → ℕ} → Accepted (Values ar x) o → Accepted (λ (h : Held). GoodValue ar h.diagram) (held_with k o)
held-good ar k o {x} a = record { given = λ h e. values-good ar x h.diagram (a.given h.diagram (held_with_lem k o e).0) }

pub call-good : (m : Model) → GoodModel m → (c : Call) (h : Held) → GoodValue m.arities h.diagram
    → Accepted (λ (g : Held). GoodValue m.arities g.diagram) (call m c h)
unfolding call
call-good m gm a_backup h g =
    held-good m.arities _ (backup m h.steps h.diagram) (backup-steps m gm h.steps _ h.diagram (own-values m.arities h.diagram g))
call-good m gm a_cut h g =
    held-good m.arities _ (cut_outcome m.arities h.diagram) (cut-is m.arities _ h.diagram (own-values m.arities h.diagram g))
call-good m gm a_reduce h g =
    held-good m.arities _ (reduce_answer m.arities h.diagram) (reduce-is m.arities _ h.diagram (own-values m.arities h.diagram g))
