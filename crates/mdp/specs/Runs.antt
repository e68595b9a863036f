-- Runs of backups, cuts and reductions on one model (document 01, sections 'Backup' and 'Cut'; document 02, L13).
use Rattle.std.specs.Prelude.{List, [], ◌∷◌, ℕ, suc}
use Rattle.refusal.specs.Outcome.{Outcome, ok, refused, and_then}
use Rattle.diagram.specs.Diagram.{Diagram}
use Rattle.cutting.specs.declared.Cut.{Cut}
use Rattle.cutting.specs.declared.Cut.TheVariants.{Done, Refused}
use Rattle.cutting.specs.Cut.{diagram_answer, cut_diagram, is_true_edge}
use Rattle.reduction.specs.Reduction.{reduce_answer}
use Rattle.mdp.specs.Model.{Model}
use Rattle.mdp.specs.Backup.{backup}

pub data Call : Type 0 where
  a_backup : Call
  a_cut : Call
  a_reduce : Call

-- the value diagram, and k
pub record Held : Type 0 where
  pub diagram : Diagram
  pub steps : ℕ

-- a cut that is answered leaves its diagram; a minimum variable is 25, over 256 paths 17, no edge 16
abbrev pub leaves : List ℕ → Diagram → Cut → Outcome Diagram
leaves ar d (Done k e n) = ok (cut_diagram ar d k (is_true_edge e))
leaves ar d (Refused r) = refused r

unfoldable pub cut_outcome : List ℕ → Diagram → Outcome Diagram
unfolding diagram_answer cut_diagram
cut_outcome ar d = leaves ar d (diagram_answer ar d)

-- a call's result, with k behind it
abbrev pub held_with : ℕ → Outcome Diagram → Outcome Held
held_with k o = and_then o (λ d. ok (record { diagram = d; steps = k }))

-- an accepted backup adds 1 to k, an accepted cut or reduction leaves it (document 02, L13; a reduction may be refused with 17, 26, 27, 28)
unfoldable pub call : Model → Call → Held → Outcome Held
unfolding backup cut_outcome reduce_answer
call m a_backup h = held_with (suc h.steps) (backup m h.steps h.diagram)
call m a_cut h = held_with h.steps (cut_outcome m.arities h.diagram)
call m a_reduce h = held_with h.steps (reduce_answer m.arities h.diagram)

-- an accepted call leaves the value diagram and k that it gives; a refused one leaves both as they were
abbrev pub taken : Held → Outcome Held → Held
taken h (ok g) = g
taken h (refused r) = h

unfoldable pub run_from : Model → List Call → Held → Held
unfolding call
run_from m [] h = h
run_from m (c ∷ l) h = run_from m l (taken h (call m c h))

-- the value diagram starts as the reward read, k as 0
unfoldable pub begin : Model → Held
begin m = record { diagram = m.reward; steps = 0 }

unfoldable pub run : Model → List Call → Held
unfolding run_from begin
run m l = run_from m l (begin m)
