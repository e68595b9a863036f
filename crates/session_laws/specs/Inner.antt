-- What contracts of inner functions and proofs cite. Nothing here has to be believed.
use Rattle.std.specs.Prelude.{◌≡◌, true, false, Bool, List, [], ◌∷◌, ◌++◌, ℕ, ◌+◌, ◌*◌, ◌≤◌, ◌<◌, length, get_or}
use Rattle.diagram.specs.Rows.{rows}
use Rattle.diagram.specs.Sizes.{most_rows}
use Rattle.refusal.specs.Outcome.{ok}
use Rattle.state.specs.Max.{Tuple}
use Rattle.best.specs.Moves.{Move, action_at}
use Rattle.text.specs.declared.Kind.{Kind}
use Rattle.text.specs.declared.Kind.TheVariants as K
use Rattle.text.specs.Line.{most_line_bytes}
use Rattle.diagram_form.specs.Form.{is_too_long}
use Rattle.events.specs.declared.Event.{Event}
use Rattle.answers.specs.declared.Answer.TheVariants as A
use Rattle.answers.specs.Answers.{field, fields, name_field, line_feed, line_end, best_head, did_head}
use Rattle.answers.specs.Writing.{IsWord}
use Rattle.session.specs.declared.Part.TheVariants.{Run}
use Rattle.session.specs.Session.{Live, Session, with_live}
use Rattle.session.specs.Running.{tables_in, best_read, no_key, best_is, entries_in, count_read}
use Rattle.session.specs.Replies.{Reply, is_placed}
use Rattle.session.specs.Texts.{value_form, table_of, reply_bytes}
use Rattle.text.specs.LineForm.{line_kind}
use Rattle.session_laws.specs.LineAnswers.{did_read, entry_lines}

-- the reply y to an accepted (show): it stands in the run, answers the n rows of the value diagram, and leaves the session as it was
pub record Shows (σ : Session) (n : ℕ) (y : Reply) : Type 0 where
  pub run : σ.part ≡ Run
  pub session : y.session ≡ σ
  pub count : n ≡ length (rows σ.held.diagram)

-- the reply y to an accepted (text): it stands in the run, prints the value as a form and a line feed, n bytes and one, and leaves the session as it was; the
-- form has at most 4,086 bytes, and is not too long to be a reward (19)
pub record Prints (σ : Session) (n : ℕ) (y : Reply) : Type 0 where
  pub run : σ.part ≡ Run
  pub session : y.session ≡ σ
  pub bytes : reply_bytes y ≡ value_form σ ++ line_feed
  pub count : n ≡ length (value_form σ)
  pub short : 9 + n ≤ most_line_bytes
  pub fits : is_too_long σ.model.arities (tables_in σ.names) σ.held.diagram ≡ false

-- the reply y to an accepted (best): it stands in the run, with every constant placed, answers the move x, which has an object of the state in hand for each
-- parameter of its action, prints `(best NAME o ..)`, the action's name as declared and these objects, and leaves the session as it was
pub record PrintsMove (σ : Session) (x : Move) (y : Reply) : Type 0 where
  pub run : σ.part ≡ Run
  pub placed : is_placed σ ≡ true
  pub read : best_read σ.model σ.live σ.held.diagram ≡ ok x
  pub session : y.session ≡ σ
  pub answer : y.answer ≡ best_is σ.names x
  pub objects : Tuple σ.live.objects (action_at σ.model x.action).count x.objects
  pub bytes : reply_bytes y ≡ best_head ++ name_field (get_or σ.names.actions x.action no_key) ++ fields x.objects ++ line_end

-- the reply y to an accepted (count n): it stands in the run, prints `(count value states)` for each of the m entries, at most 1,023, and leaves the session as it
-- was; the entries' words are machine words
pub record PrintsCounts (σ : Session) (n m : ℕ) (y : Reply) : Type 0 where
  pub run : σ.part ≡ Run
  pub read : count_read σ.model σ.names σ.live σ.held.diagram n ≡ ok (entries_in σ.model σ.names σ.live σ.held.diagram n)
  pub session : y.session ≡ σ
  pub bytes : reply_bytes y ≡ entry_lines (entries_in σ.model σ.names σ.live σ.held.diagram n)
  pub count : m ≡ length (entries_in σ.model σ.names σ.live σ.held.diagram n)
  pub few : m < most_rows
  pub table : length (table_of σ (A.Count n m)) ≡ m * 2
  pub words : (i : ℕ) → IsWord (get_or (table_of σ (A.Count n m)) i 0)

-- the reply y to an accepted (did ..) with the words es: it stands in the run, with every constant placed, moves the state in hand to l and leaves all else of the
-- session as it was, and prints `(did count total)` of l, two machine words
pub record PrintsReplay (σ : Session) (es : List Event) (l : Live) (y : Reply) : Type 0 where
  pub run : σ.part ≡ Run
  pub placed : is_placed σ ≡ true
  pub read : did_read σ es ≡ ok l
  pub session : y.session ≡ with_live σ l
  pub answer : y.answer ≡ A.Did l.count l.total
  pub bytes : reply_bytes y ≡ did_head ++ field l.count ++ field l.total ++ line_end
  pub words : IsWord l.count × IsWord l.total

-- ===== What lines leave as it was =====

-- (objects n), (is c o), (true p o ..) and (did action variant o ..) change the state in hand, and no other line does (document 02, L10 for the last)
abbrev pub moves_state : Kind → Bool
moves_state K.Constant = false
moves_state K.Predicate = false
moves_state K.Total = false
moves_state K.Discount = false
moves_state K.Reward = false
moves_state K.Action = false
moves_state K.Variant = false
moves_state K.Becomes = false
moves_state K.Start = false
moves_state K.Objects = true
moves_state K.Is = true
moves_state K.True = true
moves_state K.Value = false
moves_state K.Backup = false
moves_state K.Cut = false
moves_state K.Show = false
moves_state K.Reduce = false
moves_state K.Text = false
moves_state K.Best = false
moves_state K.Count = false
moves_state K.Did = true
moves_state K.Bad = false

-- none of the lines changes the state in hand
abbrev pub NoStateLine : List (List ℕ) → Type 0
NoStateLine [] = Unit {0}
NoStateLine (s ∷ ls) = (moves_state (line_kind s) ≡ false) × NoStateLine ls
