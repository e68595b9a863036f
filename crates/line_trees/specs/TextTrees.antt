-- The answers of a text by the trees of its lines (document 01, sections 'Text' and 'A run, whole').
use Rattle.std.specs.Prelude.{◌≡◌, ◌≢◌, List, [], ◌∷◌, ◌++◌, ℕ, suc}
use Rattle.refusal.specs.declared.Refusal.TheVariants.{Form}
use Rattle.text.specs.Line.{Line, line_bytes, GoodLine}
use Rattle.session.specs.Session.{Session}
use Rattle.session.specs.Replies.{Reply, refusal, silent}
use Rattle.session.specs.Texts.{lines_of, has_bytes, Progress, replied, after_rest, closing, beginning}
use Rattle.line_trees.specs.TreeReplies.{tree_reply}

-- the reply to line `number` of a text, in bytes: one of no bytes passes without effect; what a well-formed tree writes is answered as the tree says; bytes that no
-- tree writes are 1
pub data TreeAnswer (σ : Session) (number : ℕ) : List ℕ → Reply → Type 0 where
  blank : TreeAnswer σ number [] (silent σ)
  written : (l : Line) → GoodLine l → TreeAnswer σ number (line_bytes l) (tree_reply σ number l)
  unwritten : (s : List ℕ) → s ≢ [] → ((l : Line) → GoodLine l → s ≢ line_bytes l) → TreeAnswer σ number s (refusal σ number Form)

-- from how far a text is read to how far it is read some lines later, each answered so
pub data TreeAnswers : Progress → List (List ℕ) → Progress → Type 0 where
  none : (p : Progress) → TreeAnswers p [] p
  next : (p q : Progress) (s : List ℕ) (ls : List (List ℕ)) (y : Reply) → TreeAnswer p.session (suc p.lines) s y
      → TreeAnswers (replied p (has_bytes s) y) ls q → TreeAnswers p (s ∷ ls) q

-- bs are the answers of the text s: those of its lines, of the bytes behind the last line feed, and the closing one
pub record TextTrees (s bs : List ℕ) : Type 0 where
  pub read : Progress
  pub lines : TreeAnswers beginning (lines_of s).whole read
  pub end : Progress
  pub rest : end ≡ after_rest read (lines_of s).rest
  pub answers : bs ≡ end.bytes ++ closing end.session.part end.met
