-- Whole lines of a block answered in a buffer, one after another, as long as there is room (document 01, section 'A run, whole').
use Rattle.std.specs.Prelude.{Bool, true, false, cond, List, [], ◌∷◌, ℕ, ◌+◌, length, leb}
use Rattle.session.specs.Texts.{Progress, after_line}
use Rattle.model_entry.specs.Starts.{SlotStarts, starts_behind}
use Rattle.texts.specs.Running.{fits}

-- the line has its reply, and the answer is not written
abbrev pub unwritten : Progress → List ℕ → Progress
unwritten p l = record { session = (after_line p l).session; lines = p.lines; met = p.met; bytes = p.bytes }

-- how far lines are answered: the progress, the lines left, and whether the answer of the first of them had no room
pub record Whole : Type 0 where
  pub progress : Progress
  pub left : List (List ℕ)
  pub full : Bool

-- line by line, as long as so many bytes of the buffer are free
unfoldable pub whole_from : ℕ → ℕ → Progress → List (List ℕ) → Whole
unfolding after_line
whole_from free room p [] = record { progress = p; left = []; full = false }
whole_from free room p (l ∷ ls) =
    cond (leb (length p.bytes + free) room)
    (cond (fits room (after_line p l).bytes) (whole_from free room (after_line p l) ls) (record { progress = unwritten p l; left = l ∷ ls; full = true }))
    (record { progress = p; left = l ∷ ls; full = false })

-- where the model's listings begin behind the lines that have their reply, written or not
unfoldable pub starts_from : ℕ → ℕ → Progress → List (List ℕ) → SlotStarts → SlotStarts
unfolding after_line starts_behind
starts_from free room p [] at = at
starts_from free room p (l ∷ ls) at =
    cond (leb (length p.bytes + free) room)
    (cond (fits room (after_line p l).bytes)
    (starts_from free room (after_line p l) ls (starts_behind p.session (after_line p l).session at))
    (starts_behind p.session (after_line p l).session at))
    at
