-- Which move to make (document 02, L9). Its line stands in session, its code in best_move.
--
-- Definitions: moves
--   Move, move == an action by its number, and an object for each of its parameters
--   action_at == the action with a number
--   action_sum, move_sum == the sum over variants of G · weight · Mk(next state), as it stands inside the Bellman step from k to k + 1
--   first_move == the first action with object 0 for each parameter
--
-- Definitions: the choice, and what refuses it
--   Rated, rated == a move with its sum
--   better == a move takes the place of the best so far where its sum is higher
--   binding_value == the value of a regressed sum with a tuple for the parameters, or 15
--   bindings_best, moves_best == the bindings of an action one after the other; action by action, the calls of its sum first
--   best_answer == the move, or the first refusal met
--
-- Definitions: what the theorems say
--   IsMove, Earlier == a move of the model in a state; an earlier action, or the same one with lower objects
--   FirstHighest == no move has a higher sum, and every earlier one has a lower
--   StepsBy == so chosen, with the highest sum of the Bellman step, so that M(k+1) is S^(k+1) · M0 plus it
--   sum_calls, HasSum, Passes, Stops, Stopped == an action's calls; they are accepted; it passes; it stops with a refusal; the first action that does not pass stops with it
--   Refuses, OfCall, OfBest == whatever refuses has a property; the numbers 8 to 11; these and 15
--
-- Definitions for proofs
--   From == the actions from a number on
--   moves_from == their moves: action by action, lowest objects first, the first parameter changing slowest
--   lead, Won == the choice without its refusals; what it has chosen
--   hub_at_one, wait_model == a state and a model for the table
--
-- Theorems
--   best-run: behind any list of backups, cuts and reductions, the move answered is the first whose sum is highest, and M(k+1) is S^(k+1) · M0 plus that sum
--   best-steps: so with any value diagram of the values Mk
--   best-backup: and that is the value that the next backup states, if it is accepted
--   first_one: no two moves are the first whose sum is highest
--   passes-answered, answered-passes: a move is answered exactly if every action passes
--   stopped-refused, refused-stopped: it is refused exactly as the first action that does not pass stops: by its calls, or by 15 of a binding
--   backup-calls, backup-large: where the next backup is accepted, so are the calls of every action's sum, and only 15 refuses
--   best-numbers, best-not-scale: so by 8 to 11 or 15 only, never by 12
--   step-highest: a first move whose sum is highest has the highest sum of the Bellman step
--   moves_from-in, in-moves_from, moves_from-order: the row of moves has every move, and no other, in order
--   table-best: moves in document 01's run, by computation

-- definitions
pub mod Moves
pub mod Best
pub mod Claims
pub mod Inner
pub mod Lead
