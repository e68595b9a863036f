-- Lines of a text behind others: their session, and their replies.
use Rattle.std.specs.Prelude.{◌≡◌, List, [], ◌∷◌, ◌++◌, ℕ, suc, length}
use Rattle.std.proofs.Common.{sym, ap, ap₂, ◌∙◌, zero-add}
use Rattle.session.specs.Replies.{Reply, reply}
use Rattle.session.specs.Texts.{Progress, after_line, after_lines, beginning}
use Rattle.session.specs.Good.{GoodSession}
use Rattle.session_laws.specs.TextReplies.{replies}
use Rattle.session_laws.specs.FoldLaws.{lines-count, replies-then, after_then}
use Rattle.session_laws.proofs.TextLaws.{text-sound}
use Rattle.text_replays.specs.Claims.{reached, replies_after}

-- the number of the next line
pub lines_are : (ls : List (List ℕ)) → (after_lines beginning ls).lines ≡ length ls
unfolding beginning
lines_are ls = lines-count beginning ls ∙ zero-add (length ls)

pub behind-both : (ls ms : List (List ℕ)) → reached (ls ++ ms) ≡ (after_lines (after_lines beginning ls) ms).session
behind-both ls ms = ap (λ (p : Progress). p.session) (after_then beginning ls ms)

-- one line more
pub behind-line : (ls : List (List ℕ)) (s : List ℕ) → reached (ls ++ (s ∷ [])) ≡ (reply (reached ls) (suc (length ls)) s).session
unfolding after_lines after_line
behind-line ls s = behind-both ls (s ∷ []) ∙ ap (λ (n : ℕ). (reply (reached ls) (suc n) s).session) (lines_are ls)

-- the replies as they are numbered from a progress on
pub replies-are : (ls ms : List (List ℕ)) → replies (reached ls) (after_lines beginning ls).lines ms ≡ replies_after ls ms
replies-are ls ms = ap (λ (n : ℕ). replies (reached ls) n ms) (lines_are ls)

pub replies-line : (ls ms : List (List ℕ)) (s : List ℕ)
    → replies_after ls (ms ++ (s ∷ [])) ≡ replies_after ls ms ++ (reply (reached (ls ++ ms)) (suc (length (ls ++ ms))) s ∷ [])
unfolding replies
replies-line ls ms s =
    let q = after_lines beginning ls in
    sym (replies-are ls (ms ++ (s ∷ [])))
    ∙ replies-then q ms (s ∷ [])
    ∙ ap₂ (λ (ys : List Reply) (p : Progress). ys ++ (reply p.session (suc p.lines) s ∷ [])) (replies-are ls ms) (sym (after_then beginning ls ms))
    ∙ ap (λ (n : ℕ). replies_after ls ms ++ (reply (reached (ls ++ ms)) (suc n) s ∷ [])) (lines_are (ls ++ ms))

-- behind whatever lines a session is good, and behind those that follow
abbrev pub Goods : Progress → Type 0
Goods q = (ls : List (List ℕ)) → GoodSession (after_lines q ls).session

pub text-goods : (ls : List (List ℕ)) → Goods (after_lines beginning ls)
text-goods ls ms = rw (← after_then beginning ls ms) (text-sound (ls ++ ms)).good
