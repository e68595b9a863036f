-- The replies of a text one after another, and the same text without its blank lines (document 01, sections 'Text' and 'A run, whole'; document 02, L1).
use Rattle.std.specs.Prelude.{◌≡◌, Bool, true, false, cond, List, [], ◌∷◌, ◌++◌, ℕ, suc, length, eqb}
use Rattle.refusal.specs.declared.Refusal.TheVariants.{Form}
use Rattle.answers.specs.declared.Answer.{Answer}
use Rattle.answers.specs.declared.Answer.TheVariants as A
use Rattle.answers.specs.Answers.{answer_line}
use Rattle.session.specs.Session.{Session}
use Rattle.session.specs.Replies.{Reply, reply}
use Rattle.session.specs.Texts.{line_feed, lines_of, has_bytes, reply_bytes, text_answers}

-- the replies to lines, of which n stand before them
unfoldable pub replies : Session → ℕ → List (List ℕ) → List Reply
unfolding reply
replies σ n [] = []
replies σ n (s ∷ ls) = reply σ (suc n) s ∷ replies (reply σ (suc n) s).session (suc n) ls

unfoldable pub replies_bytes : List Reply → List ℕ
unfolding reply_bytes
replies_bytes [] = []
replies_bytes (y ∷ ys) = reply_bytes y ++ replies_bytes ys

-- what the bytes behind the last line feed, n lines before them, are answered
unfoldable pub rest_bytes : ℕ → List ℕ → List ℕ
unfolding answer_line
rest_bytes n [] = []
rest_bytes n (b ∷ s) = answer_line (A.Refused Form (suc n))

-- ===== Without blank lines =====

-- the lines with bytes
abbrev pub unspaced : List (List ℕ) → List (List ℕ)
unspaced [] = []
unspaced (l ∷ ls) = cond (has_bytes l) (l ∷ unspaced ls) (unspaced ls)

-- a text without its blank lines; the first byte begins a line, or not
abbrev pub squeezed : Bool → List ℕ → List ℕ
squeezed begins [] = []
squeezed begins (b ∷ s) = cond (eqb b line_feed) (cond begins (squeezed true s) (b ∷ squeezed true s)) (b ∷ squeezed false s)

-- the numbers of the lines with bytes, n lines before them
abbrev pub numbers_from : ℕ → List (List ℕ) → List ℕ
numbers_from n [] = []
numbers_from n (l ∷ ls) = cond (has_bytes l) (suc n ∷ numbers_from (suc n) ls) (numbers_from (suc n) ls)

-- a refusal under another line number
abbrev pub under : ℕ → Answer → Answer
under i (A.Value v k w) = A.Value v k w
under i (A.Backup k n) = A.Backup k n
under i (A.Cut r e n) = A.Cut r e n
under i (A.Reduce n) = A.Reduce n
under i (A.Show n) = A.Show n
under i (A.Text n) = A.Text n
under i (A.Best k n a b c d) = A.Best k n a b c d
under i (A.Count n m) = A.Count n m
under i (A.Did n t) = A.Did n t
under i (A.Refused r line) = A.Refused r i
under i A.Nothing = A.Nothing

abbrev pub reply_under : ℕ → Reply → Reply
reply_under i y = record { session = y.session; answer = under i y.answer }

-- each reply under the line number that stands in its place
abbrev pub renumbered : List ℕ → List Reply → List Reply
renumbered [] ys = []
renumbered (i ∷ is) [] = []
renumbered (i ∷ is) (y ∷ ys) = reply_under i y ∷ renumbered is ys

-- the answers of a text and of the same text without its blank lines: ys are the replies to the lines with bytes
pub record Spacing (s : List ℕ) (ys : List Reply) (end : List ℕ) : Type 0 where
  pub spaced : text_answers s ≡ (replies_bytes (renumbered (numbers_from 0 (lines_of s).whole) ys) ++ rest_bytes (length (lines_of s).whole) (lines_of s).rest) ++ end
  pub plain : text_answers (squeezed true s) ≡ (replies_bytes ys ++ rest_bytes (length (unspaced (lines_of s).whole)) (lines_of s).rest) ++ end
