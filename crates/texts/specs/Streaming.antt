-- A text while it comes in: a fold over its bytes (document 01, sections 'Text' and 'A run, whole').
use Rattle.std.specs.Prelude.{cond, List, [], ◌∷◌, ◌++◌, ℕ, take, eqb}
use Rattle.session.specs.Texts.{line_feed, Progress, after_line, after_rest, beginning}
use Rattle.texts.specs.Running.{all_bytes}

-- the bytes of a line that are kept: one more than a line may have. A longer line is refused with 1, whatever its bytes are.
abbrev pub line_room : ℕ
line_room = 4096

-- how far the text is read, and the bytes kept of the line that has begun
pub record Stream : Type 0 where
  pub progress : Progress
  pub partial : List ℕ

-- no line has begun
abbrev pub fresh : Progress → Stream
fresh q = record { progress = q; partial = [] }

-- one byte more: a line feed ends the line
unfoldable pub on_byte : Stream → ℕ → Stream
unfolding after_line
on_byte t b =
    cond (eqb b line_feed)
    (fresh (after_line t.progress t.partial))
    (record { progress = t.progress; partial = take line_room (t.partial ++ (b ∷ [])) })

unfoldable pub on_bytes : Stream → List ℕ → Stream
unfolding on_byte
on_bytes t [] = t
on_bytes t (b ∷ s) = on_bytes (on_byte t b) s

-- block by block
unfoldable pub on_blocks : Stream → List (List ℕ) → Stream
unfolding on_bytes
on_blocks t [] = t
on_blocks t (b ∷ bs) = on_blocks (on_bytes t b) bs

-- one list of all blocks
abbrev pub joined : List (List ℕ) → List ℕ
joined [] = []
joined (b ∷ bs) = b ++ joined bs

unfoldable pub stream_start : Stream
unfolding beginning
stream_start = fresh beginning

-- all answers, where the text ends here
unfoldable pub on_end : Stream → List ℕ
unfolding after_rest
on_end t = all_bytes (after_rest t.progress t.partial)
