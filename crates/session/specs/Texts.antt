-- The answers of a whole text: a fold over its lines (document 01, sections 'Text' and 'A run, whole').
use Rattle.std.specs.Prelude.{Bool, true, false, cond, ◌||◌, List, [], ◌∷◌, ◌++◌, ℕ, suc, eqb}
use Rattle.refusal.specs.declared.Refusal.TheVariants.{Form, Place}
use Rattle.diagram.specs.Listing.{listing}
use Rattle.diagram_form.specs.Form.{form_bytes}
use Rattle.spread.specs.Spread.{entry_words}
use Rattle.answers.specs.declared.Answer.{Answer}
use Rattle.answers.specs.declared.Answer.TheVariants as A
use Rattle.answers.specs.Answers.{answer_bytes, answer_line}
use Rattle.session.specs.declared.Part.{Part}
use Rattle.session.specs.declared.Part.TheVariants.{Model, Run}
use Rattle.session.specs.Session.{Session, opening}
use Rattle.session.specs.Running.{tables_in, entries_in}
use Rattle.session.specs.Replies.{Reply, reply, refusal}

-- 'line feed at the end'
abbrev pub line_feed : ℕ
line_feed = 10

-- the lines of a text, each without its line feed, and the bytes behind the last line feed
pub record Lines : Type 0 where
  pub whole : List (List ℕ)
  pub rest : List ℕ

-- one byte more in front of the first line
abbrev pub behind_byte : ℕ → List (List ℕ) → List ℕ → Lines
behind_byte b [] rest = record { whole = []; rest = b ∷ rest }
behind_byte b (l ∷ ls) rest = record { whole = (b ∷ l) ∷ ls; rest = rest }

unfoldable pub lines_of : List ℕ → Lines
lines_of [] = record { whole = []; rest = [] }
lines_of (b ∷ s) =
    cond (eqb b line_feed)
    (record { whole = [] ∷ (lines_of s).whole; rest = (lines_of s).rest })
    (behind_byte b (lines_of s).whole (lines_of s).rest)

-- the line is not blank
abbrev pub has_bytes : List ℕ → Bool
has_bytes [] = false
has_bytes (b ∷ s) = true

-- how far a text is read: the session, how many lines were answered, whether a line with bytes was met, and the bytes of the answers
pub record Progress : Type 0 where
  pub session : Session
  pub lines : ℕ
  pub met : Bool
  pub bytes : List ℕ

-- the value diagram as one nested form (document 02, L2)
unfoldable pub value_form : Session → List ℕ
value_form σ = form_bytes σ.model.arities (tables_in σ.names) σ.held.diagram

-- the values of all states of n objects and their numbers of states, as words, where the answer is that they were counted (document 02, L11)
unfoldable pub table_of : Session → Answer → List ℕ
unfolding entry_words
table_of σ (A.Value v k s) = []
table_of σ (A.Backup k n) = []
table_of σ (A.Cut i e n) = []
table_of σ (A.Reduce n) = []
table_of σ (A.Refused r line) = []
table_of σ (A.Show n) = []
table_of σ (A.Text n) = []
table_of σ (A.Best k n a b c d) = []
table_of σ (A.Did count total) = []
table_of σ (A.Count n m) = entry_words (entries_in σ.model σ.names σ.live σ.held.diagram n)
table_of σ A.Nothing = []

-- the bytes of a reply; (show) shows the value diagram's listing, (text) prints its form, (count n) the values of all states of n objects
unfoldable pub reply_bytes : Reply → List ℕ
unfolding answer_bytes listing value_form table_of
reply_bytes r = answer_bytes (listing r.session.held.diagram) (value_form r.session) (table_of r.session r.answer) r.answer

-- one reply more, to a line with bytes or to a blank one
abbrev pub replied : Progress → Bool → Reply → Progress
replied p written r = record { session = r.session; lines = suc p.lines; met = p.met || written; bytes = p.bytes ++ reply_bytes r }

-- lines are numbered from 1, blank ones too
unfoldable pub after_line : Progress → List ℕ → Progress
unfolding reply reply_bytes
after_line p s = replied p (has_bytes s) (reply p.session (suc p.lines) s)

unfoldable pub after_lines : Progress → List (List ℕ) → Progress
unfolding after_line
after_lines p [] = p
after_lines p (l ∷ ls) = after_lines (after_line p l) ls

-- a last line without a line feed is 1
unfoldable pub after_rest : Progress → List ℕ → Progress
unfolding reply_bytes
after_rest p [] = p
after_rest p (b ∷ s) = replied p true (refusal p.session (suc p.lines) Form)

-- no (start) was accepted, and a line with bytes was met
abbrev pub unfinished : Part → Bool → Bool
unfinished Model met = met
unfinished Run met = false

-- 'Input ending without an accepted (start) prints a last (refused 5 0)'; but a text of blank lines only, or of no bytes, 'is an empty order and prints
-- nothing' (document 02, L1)
unfoldable pub closing : Part → Bool → List ℕ
unfolding answer_line
closing part met = cond (unfinished part met) (answer_line (A.Refused Place 0)) []

unfoldable pub beginning : Progress
unfolding opening
beginning = record { session = opening; lines = 0; met = false; bytes = [] }

-- the whole text read, but for the closing line
unfoldable pub text_read : List ℕ → Progress
unfolding lines_of after_lines after_rest beginning
text_read s = after_rest (after_lines beginning (lines_of s).whole) (lines_of s).rest

-- all answers of a text
unfoldable pub text_answers : List ℕ → List ℕ
unfolding text_read closing
text_answers s = (text_read s).bytes ++ closing (text_read s).session.part (text_read s).met
