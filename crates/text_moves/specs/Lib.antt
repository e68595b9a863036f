-- Which move (best) prints, of every text (document 02, L9). What a move and its sum are stands in best, what a session replies in session.
--
-- Definitions: what the theorems say
--   best_line, backup_line == these lines in bytes
--   in_hand, name_in == the state in hand; the name declared of a move's action
--   MovesBy == the reply is `(best NAME o ..)` of the move and leaves the session; the move is the first whose sum is highest, with k and the state in hand, and M(k+1)
--              is S^(k+1) · M0 plus that sum
--   RefusesBest == what refuses (best): 5 in the model part; 20 where (value) is answered 5; then as the first action that does not pass stops
--   Declares == the accepted (action n !p ..) lines of a text, in order
--   NamesMove == the bytes are `(best NAME o ..)`, NAME as written in the accepted (action ..) line with the number of the move's action, as many objects as it has parameters
--
-- Theorems: the move
--   text-moves: after whatever lines, backups, cuts and reductions, refused ones too, whatever line is answered by a move: MovesBy
--   text-names: and NamesMove
--   text-follows: and where some lines later the state is the same, k is one more and a value is printed, it is S^(k+1) · M0 plus the sum of the move printed
--   state-stays: the state is the same where no line between is an (objects n), an (is c o), a (true p o ..) or a (did action variant o ..)
--   best-backup-value: so for the three lines (best), (backup) and (value), the backup accepted
--
-- Theorems: what refuses it, in every session
--   refuses-best, best-refuses: it is refused with r exactly if RefusesBest says r
--   passes-best, best-passes: where the place is right, it is answered by a move exactly if every action passes
--   backup-best: where (backup) is accepted, it is refused by 20 or 15 or not at all
--   never-scale: never by 12
--   best-only: no bytes but `(best)` are a line of its kind

-- definitions
pub mod Claims
pub mod Inner
-- laws
pub mod LineLaws
pub mod MoveLaws
pub mod TextMoveLaws
pub mod NameLaws
