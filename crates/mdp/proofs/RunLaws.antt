-- Demand 3, whole: after every list of backups, cuts and reductions, refused ones among them, the number of the value diagram is Mk, in every state.
use Rattle.std.specs.Prelude.{◌≡◌, refl, ℕ, suc}
use mathlib.Core.List.{List, [], ◌∷◌}
use Rattle.refusal.specs.Outcome.{Outcome, ok, refused, Accepted}
use Rattle.diagram.specs.Diagram.{Diagram}
use Rattle.state.specs.State.{meaning, State, Good}
use Rattle.minimum.specs.Number.{number}
use Rattle.minimum.proofs.NumberLaws.{number_is, number-equal}
use Rattle.reduction.specs.Claims.{Values}
use Rattle.reduction.specs.Reduction.{reduce_answer}
use Rattle.reduction.proofs.ReductionLaws.{reduce-is}
use Rattle.mdp.specs.Model.{Model, GoodModel}
use Rattle.mdp.specs.Bellman.{reward_in, bellman}
use Rattle.mdp.specs.Backup.{backup}
use Rattle.mdp.specs.Runs.{Call, a_backup, a_cut, a_reduce, Held, cut_outcome, held_with, call, taken, run_from, begin, run}
use Rattle.mdp.proofs.BackupLaws.{bound-none, backup-is}
use Rattle.mdp.proofs.CutLaws.{cut-is}

-- the value diagram has a listing, is closed up, has no parameter, and its number in every state is Mk
abbrev pub Right : Model → Held → Type 0
Right m h = Values m.arities (bellman m h.steps) h.diagram

taken-right : (m : Model) (h : Held) (o : Outcome Diagram) (k : ℕ) → Right m h → Accepted (Values m.arities (bellman m k)) o → Right m (taken h (held_with k o))
taken-right m h (ok d) k r a = a.given d refl
taken-right m h (refused e) k r a = r

module _ (m : Model) (good : GoodModel m) where
  pub call-right : (c : Call) (h : Held) → Right m h → Right m (taken h (call m c h))
  unfolding call
  call-right a_backup h r = taken-right m h (backup m h.steps h.diagram) (suc h.steps) r (backup-is m good h.steps h.diagram r)
  call-right a_cut h r = taken-right m h (cut_outcome m.arities h.diagram) h.steps r (cut-is m.arities (bellman m h.steps) h.diagram r)
  call-right a_reduce h r = taken-right m h (reduce_answer m.arities h.diagram) h.steps r (reduce-is m.arities (bellman m h.steps) h.diagram r)

  pub run_from-right : (l : List Call) (h : Held) → Right m h → Right m (run_from m l h)
  unfolding run_from
  run_from-right [] h r = r
  run_from-right (c ∷ l) h r = run_from-right l (taken h (call m c h)) (call-right c h r)

  pub begin-right : Right m (begin m)
  unfolding begin bellman reward_in
  begin-right = record {
    listed = good.reward-listed;
    is-closed = good.reward-closed;
    within = good.reward;
    numbers = λ s g. number_is s [] g (bound-none s g) (meaning m.arities m.reward);
  }

  pub run-right : (l : List Call) → Right m (run m l)
  unfolding run
  run-right l = run_from-right l (begin m) begin-right

-- for every model that reading can accept, every list of backups, cuts and reductions, every state of one object or more
pub demand-3 : (m : Model) → GoodModel m → (l : List Call) (s : State) → Good s
    → number s [] (meaning m.arities (run m l).diagram) ≡ bellman m (run m l).steps s
demand-3 m good l s g =
    number-equal s [] g (bound-none s g) (meaning m.arities (run m l).diagram) _ ((run-right m good l).numbers s g)
