-- The run behind the lines of a text: the backups, cuts and reductions that they ask for, and the model accepted at (start) (document 01, sections 'Text' and 'Backup';
-- document 02, L13).
use Rattle.std.specs.Prelude.{◌≡◌, Bool, true, false, cond, List, [], ◌∷◌, ◌++◌, ℕ, suc, ◌+◌, length}
use Rattle.std.proofs.Math.Option.{Option, some, none}
use Rattle.refusal.specs.Outcome.{ok}
use Rattle.diagram.specs.Listing.{listing}
use Rattle.state.specs.State.{State, Good, meaning}
use Rattle.minimum.specs.Number.{number}
use Rattle.elimination.specs.Answer.{is_too_large}
use Rattle.mdp.specs.Bellman.{bellman}
use Rattle.mdp.specs.Runs.{Call, a_backup, a_cut, a_reduce, begin, run}
use Rattle.text.specs.declared.Kind.{Kind}
use Rattle.text.specs.declared.Kind.TheVariants as K
use Rattle.text.specs.LineForm.{line_kind}
use Rattle.answers.specs.declared.Answer.{Answer}
use Rattle.answers.specs.declared.Answer.TheVariants as A
use Rattle.session.specs.declared.Part.TheVariants.{Run}
use Rattle.session.specs.Session.{Session, opening, with_held}
use Rattle.session.specs.ModelLines.{weighed}
use Rattle.session.specs.Running.{state_in}
use Rattle.session.specs.Replies.{Reply, silent, reply}
use Rattle.session.specs.Texts.{after_lines, beginning}
use Rattle.session_laws.specs.TextReplies.{replies}

-- ===== What lines ask for =====

-- (backup) asks for a backup, (cut) for a cut, (reduce) for a reduction, no other line for any
abbrev pub call_of : Kind → Option Call
call_of K.Constant = none
call_of K.Predicate = none
call_of K.Total = none
call_of K.Discount = none
call_of K.Reward = none
call_of K.Action = none
call_of K.Variant = none
call_of K.Becomes = none
call_of K.Start = none
call_of K.Objects = none
call_of K.Is = none
call_of K.True = none
call_of K.Value = none
call_of K.Backup = some a_backup
call_of K.Cut = some a_cut
call_of K.Show = none
call_of K.Reduce = some a_reduce
call_of K.Text = none
call_of K.Best = none
call_of K.Count = none
call_of K.Did = none
call_of K.Bad = none

abbrev pub call_then : Option Call → List Call → List Call
call_then none l = l
call_then (some c) l = c ∷ l

-- the backups, cuts and reductions that lines ask for, in order, whether they are accepted or refused
unfoldable pub calls_of : List (List ℕ) → List Call
unfolding line_kind
calls_of [] = []
calls_of (s ∷ ls) = call_then (call_of (line_kind s)) (calls_of ls)

-- ===== Accepted (backup) lines =====

abbrev pub is_refused : Answer → Bool
is_refused (A.Value v k w) = false
is_refused (A.Backup k n) = false
is_refused (A.Cut r e n) = false
is_refused (A.Reduce n) = false
is_refused (A.Show n) = false
is_refused (A.Text n) = false
is_refused (A.Best k n a b c d) = false
is_refused (A.Count n m) = false
is_refused (A.Did n t) = false
is_refused (A.Refused r line) = true
is_refused A.Nothing = false

abbrev pub one_if_backup : Option Call → ℕ
one_if_backup none = 0
one_if_backup (some a_backup) = 1
one_if_backup (some a_cut) = 0
one_if_backup (some a_reduce) = 0

-- 1 for an accepted (backup) line, 0 for any other
unfoldable pub accepted_backup : Kind → Answer → ℕ
accepted_backup k a = cond (is_refused a) 0 (one_if_backup (call_of k))

-- how many of the lines, with their replies, are accepted (backup) lines; there are as many replies as lines
unfoldable pub accepted_backups : List (List ℕ) → List Reply → ℕ
unfolding line_kind accepted_backup
accepted_backups [] ys = 0
accepted_backups (s ∷ ls) [] = 0
accepted_backups (s ∷ ls) (y ∷ ys) = accepted_backup (line_kind s) y.answer + accepted_backups ls ys

-- ===== The run =====

-- no way of working may be taken for the value diagram in the state in hand (15; document 02, L6 and L12)
abbrev pub too_large : Session → Bool
too_large σ = is_too_large σ.model.arities (state_in σ.model.arities σ.live) [] (listing σ.held.diagram)

-- in every state the number of the value diagram is Mk
pub record HoldsValues (σ : Session) : Type 0 where
  pub each : (s : State) → Good s → number s [] (meaning σ.model.arities σ.held.diagram) ≡ bellman σ.model σ.held.steps s

-- the session σ behind the lines ls, one of which, `start`, is the accepted (start), and no other is: a second (start) is 5. Its model is the one that stands
-- before that line, and so its sums of weights passed; its value diagram and k are those that a run of this model leads to, of the very backups, cuts and
-- reductions that the lines behind it ask for; k is the number of accepted (backup) lines; and in every state the number of the value diagram is Mk
pub record RunOf (ls : List (List ℕ)) (σ : Session) : Type 0 where
  pub before : List (List ℕ)
  pub start : List ℕ
  pub behind : List (List ℕ)
  pub lines : ls ≡ before ++ (start ∷ behind)
  pub is-start : line_kind start ≡ K.Start
  pub accepted : reply (after_lines beginning before).session (suc (length before)) start
      ≡ silent (with_held (after_lines beginning before).session Run (begin (after_lines beginning before).session.model))
  pub model : σ.model ≡ (after_lines beginning before).session.model
  pub weights : weighed σ.model.arities σ.model.total σ.model.actions ≡ ok tt
  pub held : σ.held ≡ run σ.model (calls_of behind)
  pub steps : σ.held.steps ≡ accepted_backups ls (replies opening 0 ls)
  pub values : HoldsValues σ
