-- Replay of logged lines (document 02, L10). The line and its code are in session and desk_lines.
--
-- Definitions: one line
--   Did, action_of, variant_of == (did action variant object ..), its names found; the action and the variant that it names
--   no_action, no_variant == what stands for a number that names none
--   Replay, in_hand, begun == the state as it is lent, count and total; the state in hand; count 0 and total 0
--   rows_at, fact_rows, flat, facts_of == the facts of a state as rows, predicate by predicate, lowest objects first
--   state_next, moved_by == the state that the variant's truth diagrams give; it, in hand
--   reward_here, is_first, reward_met == the reward in hand; no line was accepted yet; reward before and after on the first line, later the reward after
--   reward_ends, counted == 15 of the reward, here; the state moved, one more, the rewards met
--   has_no_weight, has_many_facts, has_valuations, is_too_high == the conditions of 21, 22, 15, 23
--   did == one line: its checks in order, then it is counted
--   behind, replay, if_accepted, accepted_of == what is in hand behind an answer, behind a list of lines; the lines that were accepted
--
-- Definitions: what a list comes to
--   states, state_behind, rewards_along == the states that lines lead through, the last of them, the sum of their rewards
--   Alike == two states that no diagram under the arity list tells apart
--   Checked == names and counts of a line are checked
--   Comes == count, state and total are as document 02 says of the accepted lines
--   Verdict == each answer exactly under its condition, in order
--
-- Theorems
--   replay-is: after every list of lines begun at count 0, refused ones among them, with one accepted or more, count is how many were accepted, the
--       state is the one that their truth diagrams give in that order, and total is the sum of rewards along it
--   verdict: each refusal exactly under its condition, in the order 21, 22, 15, 23
--   facts-said: the facts of a state, listed as rows and lent again, are its facts
--   facts-once, facts-count: none is listed twice, and they are as many as the rows that 22 counts
--   facts-whole, facts-lent: they are whole rows, and can be lent in place of the facts of a state of as many objects
--   reward-alike, next-alike: states that are alike have one reward, and their next states are alike
--   large-alike: they meet 15 for the same listings

-- definitions
pub mod Replay
pub mod Along
pub mod Inner
