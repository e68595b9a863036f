-- Every line of a text is answered by its tree, and the answers of a text are those of the trees of its lines and no others.
use Rattle.std.specs.Prelude.{◌≡◌, ◌≢◌, true, ℕ, suc}
use Rattle.std.proofs.Math.Path.{refl, sym, ap}
use Rattle.std.proofs.Common.{◌∙◌, subst, true≢false, arith}
use mathlib.Core.List.{List, [], ◌∷◌, ◌++◌}
use Rattle.std.proofs.Math.ListN.{length}
use Rattle.basics.specs.Tests.{Flag, is_true, is_false, flag}
use Rattle.text.specs.declared.Kind.{Kind}
use Rattle.text.specs.Line.{is_bad, Words, Line, line_bytes, GoodLine}
use Rattle.text.specs.Line.Line.{line}
use Rattle.text.specs.LineForm.{line_kind}
use Rattle.text.specs.LineUnique.{line-exact}
use Rattle.session.specs.Session.{Session}
use Rattle.session.specs.Replies.{Reply, reply}
use Rattle.session.specs.Texts.{lines_of, has_bytes, Progress, replied, after_line, after_lines, after_rest, closing, beginning, text_read, text_answers}
use Rattle.line_trees.specs.TextTrees.{TreeAnswer, TreeAnswers, TextTrees}
use Rattle.line_trees.specs.TextTrees.TreeAnswer.{blank, written, unwritten}
use Rattle.line_trees.specs.TextTrees.TreeAnswers.{none, next}
use Rattle.line_trees.proofs.TreeReplyLaws.{reply-tree, only-bad, reply-unwritten}

-- ===== A line =====

-- no tree is of the kind of what is not the grammar
no-bad : (k : Kind) → Words k → is_bad k ≡ true → ⊥
no-bad k w h = subst Words (only-bad k (λ z. true≢false (sym h ∙ z))) w

module _ (σ : Session) (number : ℕ) where
  -- the reply to a line in bytes is that of the tree that writes it
  pub reply-answers : (s : List ℕ) → TreeAnswer σ number s (reply σ number s)
  unfolding reply
  reply-answers [] = blank
  reply-answers (b ∷ s) = go (flag (is_bad (line_kind (b ∷ s))))
    where
      some : b ∷ s ≢ []
      some e = omega (arith, ap length e)

      -- a tree that writes the bytes is of their kind
      other : is_bad (line_kind (b ∷ s)) ≡ true → (l : Line) → GoodLine l → b ∷ s ≢ line_bytes l
      other h (line k w) g e = no-bad k w (ap is_bad ((line-exact (b ∷ s)).only (line k w) g e) ∙ h)

      go : Flag (is_bad (line_kind (b ∷ s))) → TreeAnswer σ number (b ∷ s) (reply σ number (b ∷ s))
      go (is_true h) = subst (TreeAnswer σ number (b ∷ s)) (sym (reply-unwritten σ number (b ∷ s) some (other h))) (unwritten (b ∷ s) some (other h))
      go (is_false h) =
          let x = (line-exact (b ∷ s)).written h in
          let l : Line = line (line_kind (b ∷ s)) x.0 in
          subst (λ (t : List ℕ). TreeAnswer σ number t (reply σ number t)) (sym x.2)
          (subst (TreeAnswer σ number (line_bytes l)) (sym (reply-tree σ number l x.1)) (written l x.1))

  -- and there is no other
  pub reply-only : {s : List ℕ} {y : Reply} → TreeAnswer σ number s y → y ≡ reply σ number s
  unfolding reply
  reply-only blank = refl
  reply-only (written l g) = sym (reply-tree σ number l g)
  reply-only (unwritten s some other) = sym (reply-unwritten σ number s some other)

-- ===== Lines =====

lines-answers : (p : Progress) (ls : List (List ℕ)) → TreeAnswers p ls (after_lines p ls)
unfolding after_lines after_line
lines-answers p [] = none p
lines-answers p (s ∷ ls) =
    let y = reply p.session (suc p.lines) s in
    let r : Progress = replied p (has_bytes s) y in
    next p (after_lines r ls) s ls y (reply-answers p.session (suc p.lines) s) (lines-answers r ls)

lines-only : {p q : Progress} {ls : List (List ℕ)} → TreeAnswers p ls q → q ≡ after_lines p ls
unfolding after_lines after_line
lines-only (none p) = refl
lines-only (next p q s ls y a rest) =
    lines-only rest ∙ ap (λ (z : Reply). after_lines (replied p (has_bytes s) z) ls) (reply-only p.session (suc p.lines) a)

-- ===== A whole text =====

-- the answers of a text are those of the trees of its lines
pub text-trees : (s : List ℕ) → TextTrees s (text_answers s)
unfolding text_answers text_read
text-trees s = record {
  read = after_lines beginning (lines_of s).whole;
  lines = lines-answers beginning (lines_of s).whole;
  end = text_read s;
  rest = refl;
  answers = refl;
}

-- and no others
pub trees-only : (s bs : List ℕ) → TextTrees s bs → bs ≡ text_answers s
unfolding text_answers text_read
trees-only s bs t =
    let e : t.end ≡ text_read s = t.rest ∙ ap (λ (p : Progress). after_rest p (lines_of s).rest) (lines-only t.lines) in
    t.answers ∙ ap (λ (p : Progress). p.bytes ++ closing p.session.part p.met) e
