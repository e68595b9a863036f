-- (best), (backup) and (value) in texts, one behind the other: the value printed is what the move says (document 02, L9).
use Rattle.std.specs.Prelude.{◌≡◌, List, [], ◌∷◌, ◌++◌, ℕ, suc, ◌+◌, ◌*◌, ◌^◌, length}
use Rattle.std.proofs.Common.{sym, ap, ap₂, ◌∙◌, subst}
use Rattle.mdp.specs.Model.{Model, scale}
use Rattle.mdp.specs.Bellman.{reward_in}
use Rattle.best.specs.Moves.{Move, move_sum}
use Rattle.answers.specs.declared.Answer.TheVariants as A
use Rattle.session.specs.Session.{Live, Session}
use Rattle.session.specs.Running.{state_in}
use Rattle.session.specs.Replies.{reply}
use Rattle.session.specs.Texts.{after_lines, beginning}
use Rattle.session_laws.specs.LineAnswers.{value_line, IsValue}
use Rattle.session_laws.specs.Inner.{moves_state, NoStateLine}
use Rattle.session_laws.proofs.TextLaws.{text-bellman}
use Rattle.text_moves.specs.Claims.{best_line, backup_line, in_hand, MovesBy}
use Rattle.text_moves.specs.LineLaws.{best-kind, backup-kind}
use Rattle.text_moves.specs.TextMoveLaws.{model-stays, state-stays, text-follows, backup-steps, two-lines}

-- the three lines behind the lines ls: a move is printed, the backup is accepted, and a value is printed
pub best-backup-value : (ls : List (List ℕ)) (σ τ : Session) → σ ≡ (after_lines beginning ls).session → τ ≡ (reply σ (suc (suc (length ls))) backup_line).session
    → (x : Move) → MovesBy σ x (reply σ (suc (length ls)) best_line) → (k rows : ℕ) → (reply σ (suc (suc (length ls))) backup_line).answer ≡ A.Backup k rows
    → (v i w : ℕ) → (reply τ (suc (suc (suc (length ls)))) value_line).answer ≡ A.Value v i w
    → v ≡ scale σ.model ^ suc σ.held.steps * reward_in σ.model (in_hand σ) + move_sum σ.model σ.held.steps (in_hand σ) x
best-backup-value ls σ τ q u x h k rows b v i w e =
    let ms = best_line ∷ backup_line ∷ [] in
    let there : τ ≡ (after_lines beginning (ls ++ ms)).session = u ∙ two-lines ls σ q best_line backup_line h.session in
    let none : NoStateLine ms = (ap moves_state best-kind, (ap moves_state backup-kind, tt)) in
    let value = subst (λ (ρ : Session). (reply ρ (suc (suc (suc (length ls)))) value_line).answer ≡ A.Value v i w → IsValue ρ v i w) (sym there)
    (text-bellman (ls ++ ms) (suc (suc (suc (length ls)))) value_line v i w) e in
    let one : i ≡ suc σ.held.steps = value.steps ∙ ap (λ (ρ : Session). ρ.held.steps) u ∙ backup-steps σ (suc (suc (length ls))) backup_line k rows b in
    let same : in_hand τ ≡ in_hand σ =
    ap₂ (λ (m : Model) (l : Live). state_in m.arities l) (model-stays ls σ q h.run ms τ there) (state-stays ls σ q h.run ms none τ there) in
    text-follows ls σ q x (reply σ (suc (length ls)) best_line) h ms τ there same
    (suc (suc (suc (length ls)))) value_line v w (e ∙ ap (λ j. A.Value v j w) one)
