-- Demand 1 for texts: each line of a text has exactly one reply, and the answers are those of the replies in order (document 01, sections 'Text' and
-- 'A run, whole').
use Rattle.std.specs.Prelude.{◌≡◌, refl, Bool, true, false, cond, List, [], ◌∷◌, ◌++◌, ℕ, suc, ◌+◌, length, eqb}
use Rattle.std.proofs.Common.{sym, ap, ap₂, ◌∙◌, append-nil, append_assoc, arith, zero-add}
use Rattle.answers.specs.Answers.{answer_bytes}
use Rattle.session.specs.Session.{Session, opening}
use Rattle.session.specs.Replies.{reply}
use Rattle.session.specs.Texts.{line_feed, Lines, behind_byte, lines_of, has_bytes, Progress, reply_bytes, replied, after_line, after_lines, after_rest, beginning, text_read}
use Rattle.session_laws.specs.TextReplies.{replies, replies_bytes, rest_bytes}

-- one for each line
pub replies-count : (σ : Session) (n : ℕ) (ls : List (List ℕ)) → length (replies σ n ls) ≡ length ls
unfolding replies
replies-count σ n [] = refl
replies-count σ n (s ∷ ls) = ap suc (replies-count (reply σ (suc n) s).session (suc n) ls)

-- and nothing else is printed
pub lines-bytes : (p : Progress) (ls : List (List ℕ)) → (after_lines p ls).bytes ≡ p.bytes ++ replies_bytes (replies p.session p.lines ls)
unfolding after_lines after_line replies replies_bytes
lines-bytes p [] = sym (append-nil p.bytes)
lines-bytes p (s ∷ ls) =
    let y = reply p.session (suc p.lines) s in
    lines-bytes (replied p (has_bytes s) y) ls ∙ append_assoc p.bytes (reply_bytes y) (replies_bytes (replies y.session (suc p.lines) ls))

pub lines-count : (p : Progress) (ls : List (List ℕ)) → (after_lines p ls).lines ≡ p.lines + length ls
unfolding after_lines after_line
lines-count p [] = omega arith
lines-count p (s ∷ ls) = omega (arith, lines-count (replied p (has_bytes s) (reply p.session (suc p.lines) s)) ls)

-- the replies to the lines behind ls are those of the session that ls leads to, numbered on
pub replies-then : (p : Progress) (ls ms : List (List ℕ))
    → replies p.session p.lines (ls ++ ms)
    ≡ replies p.session p.lines ls ++ replies (after_lines p ls).session (after_lines p ls).lines ms
unfolding replies after_lines after_line
replies-then p [] ms = refl
replies-then p (s ∷ ls) ms =
    let y = reply p.session (suc p.lines) s in
    ap (λ ys. y ∷ ys) (replies-then (replied p (has_bytes s) y) ls ms)

-- ===== A whole text =====

rest-bytes : (p : Progress) (s : List ℕ) → (after_rest p s).bytes ≡ p.bytes ++ rest_bytes p.lines s
unfolding after_rest rest_bytes reply_bytes answer_bytes
rest-bytes p [] = sym (append-nil p.bytes)
rest-bytes p (b ∷ s) = refl

pub text-bytes : (s : List ℕ)
    → (text_read s).bytes ≡ replies_bytes (replies opening 0 (lines_of s).whole) ++ rest_bytes (length (lines_of s).whole) (lines_of s).rest
unfolding text_read beginning
text-bytes s =
    let ls = (lines_of s).whole in
    rest-bytes (after_lines beginning ls) (lines_of s).rest
    ∙ ap₂ (λ bs n. bs ++ rest_bytes n (lines_of s).rest) (lines-bytes beginning ls) (lines-count beginning ls ∙ zero-add (length ls))

-- the line behind ls: its reply is that of the session that ls leads to, and it has the line's own number
pub text-line : (ls : List (List ℕ)) (s : List ℕ)
    → replies opening 0 (ls ++ (s ∷ [])) ≡ replies opening 0 ls ++ (reply (after_lines beginning ls).session (suc (length ls)) s ∷ [])
unfolding replies beginning
text-line ls s =
    replies-then beginning ls (s ∷ [])
    ∙ ap (λ n. replies opening 0 ls ++ (reply (after_lines beginning ls).session (suc n) s ∷ [])) (lines-count beginning ls ∙ zero-add (length ls))

-- ===== One text behind another =====

-- a text that ends with a line feed, or has no bytes, and more behind it: the lines of both
pub lines_then : (t u : List ℕ) → (lines_of t).rest ≡ [] → lines_of (t ++ u) ≡ record { whole = (lines_of t).whole ++ (lines_of u).whole; rest = (lines_of u).rest }
unfolding lines_of
lines_then [] u e = refl
lines_then (b ∷ t) u e = go (eqb b line_feed) (lines_of t).whole (lines_of t).rest e (lines_then t u)
  where
    -- one byte more in front of lines
    more : Bool → List (List ℕ) → List ℕ → Lines
    more x ls r = cond x (record { whole = [] ∷ ls; rest = r }) (behind_byte b ls r)

    go : (x : Bool) (ls : List (List ℕ)) (r : List ℕ) → (more x ls r).rest ≡ []
        → (r ≡ [] → lines_of (t ++ u) ≡ record { whole = ls ++ (lines_of u).whole; rest = (lines_of u).rest })
        → more x (lines_of (t ++ u)).whole (lines_of (t ++ u)).rest ≡ record { whole = (more x ls r).whole ++ (lines_of u).whole; rest = (lines_of u).rest }
    go true ls r e ih = ap (λ (y : Lines). record { whole = [] ∷ y.whole; rest = y.rest }) (ih e)
    go false [] r e ih = absurd (omega (arith, ap length e))
    go false (l ∷ ls) r e ih = ap (λ (y : Lines). behind_byte b y.whole y.rest) (ih e)

pub after_then : (p : Progress) (ls ms : List (List ℕ)) → after_lines p (ls ++ ms) ≡ after_lines (after_lines p ls) ms
unfolding after_lines
after_then p [] ms = refl
after_then p (l ∷ ls) ms = after_then (after_line p l) ls ms

-- so they are read one after another
pub read-then : (t u : List ℕ) → (lines_of t).rest ≡ [] → text_read (t ++ u) ≡ after_rest (after_lines (text_read t) (lines_of u).whole) (lines_of u).rest
unfolding text_read after_rest
read-then t u e =
    let read = after_lines beginning (lines_of t).whole in
    ap (λ (ls : Lines). after_rest (after_lines beginning ls.whole) ls.rest) (lines_then t u e)
    ∙ ap (λ (p : Progress). after_rest p (lines_of u).rest)
    (after_then beginning (lines_of t).whole (lines_of u).whole ∙ ap (λ (r : List ℕ). after_lines (after_rest read r) (lines_of u).whole) (sym e))
