-- What the theorems on (best) in texts say, in types (document 02, L9).
use Rattle.std.specs.Prelude.{◌≡◌, true, false, List, [], ◌∷◌, ◌++◌, ℕ, ◌<◌, length, get_or}
use Rattle.state.specs.State.{State}
use Rattle.words.specs.declared.Key.{Key}
use Rattle.best.specs.Moves.{Move}
use Rattle.best.specs.Claims.{StepsBy}
use Rattle.text.specs.declared.Kind.TheVariants as K
use Rattle.text.specs.Line.{Words, line_bytes, GoodLine}
use Rattle.text.specs.Line.Line.{line}
use Rattle.answers.specs.Answers.{best_head, name_field, fields, line_end}
use Rattle.session.specs.declared.Part.TheVariants.{Run}
use Rattle.session.specs.Session.{Session, opening}
use Rattle.session.specs.Running.{state_in, no_key}
use Rattle.session.specs.Replies.{Reply, is_placed}
use Rattle.session.specs.Texts.{reply_bytes}
use Rattle.session_laws.specs.TextReplies.{replies}
use Rattle.session_laws.specs.TextRuns.{is_refused}

-- the lines (best) and (backup), in bytes
abbrev pub best_line : List ℕ
best_line = line_bytes (line K.Best tt)

abbrev pub backup_line : List ℕ
backup_line = line_bytes (line K.Backup tt)

-- 'the state in hand'
abbrev pub in_hand : Session → State
in_hand σ = state_in σ.model.arities σ.live

-- the name declared of the action of a move
abbrev pub name_in : Session → Move → Key
name_in σ x = get_or σ.names.actions x.action no_key

-- ===== The move =====

-- the reply y to (best) in the session σ is the move x: 'print (best action object ..)' with the name declared of its action and its objects; the session stays; x is the first
-- move whose sum is highest, with k and the state in hand, and M(k+1) is S^(k+1) · M0 plus that sum
pub record MovesBy (σ : Session) (x : Move) (y : Reply) : Type 0 where
  pub run : σ.part ≡ Run
  pub placed : is_placed σ ≡ true
  pub session : y.session ≡ σ
  pub bytes : reply_bytes y ≡ best_head ++ name_field (name_in σ x) ++ fields x.objects ++ line_end
  pub declared : x.action < length σ.names.actions
  pub steps : StepsBy σ.model σ.held.steps (in_hand σ) x

-- ===== The name declared =====

-- ws are the accepted (action n !p ..) lines among the lines, with their replies, in order: the name and the parameters of each
pub data Declares : List (List ℕ) → List Reply → List (Words K.Action) → Type 0 where
  none : Declares [] [] []
  action : {s : List ℕ} {ls : List (List ℕ)} {y : Reply} {ys : List Reply} {ws : List (Words K.Action)} (w : Words K.Action) → GoodLine (line K.Action w)
      → s ≡ line_bytes (line K.Action w) → is_refused y.answer ≡ false → Declares ls ys ws → Declares (s ∷ ls) (y ∷ ys) (w ∷ ws)
  other : {s : List ℕ} {ls : List (List ℕ)} {y : Reply} {ys : List Reply} {ws : List (Words K.Action)}
      → ((w : Words K.Action) → GoodLine (line K.Action w) → s ≡ line_bytes (line K.Action w) → is_refused y.answer ≡ true)
      → Declares ls ys ws → Declares (s ∷ ls) (y ∷ ys) ws

-- the bytes bs name the move x, behind the lines ls: they are `(best NAME o ..)`, NAME the one written in the accepted (action ..) line with the number of its action, counted
-- from 0, and its objects, as many as that line has parameters
pub record NamesMove (ls : List (List ℕ)) (x : Move) (bs : List ℕ) : Type 0 where
  pub lines : List (Words K.Action)
  pub declared : Declares ls (replies opening 0 ls) lines
  pub place : x.action < length lines
  pub bytes : bs ≡ best_head ++ (32 ∷ (get_or lines x.action ([], [])).0) ++ fields x.objects ++ line_end
  pub objects : length x.objects ≡ length (get_or lines x.action ([], [])).1
