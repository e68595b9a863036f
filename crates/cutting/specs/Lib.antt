-- Cuts (document 01, section 'Cut'; of diagrams without minimum variables, document 02, L12).
--
-- Definitions: when an edge may go, in document 01's words
--   Matched == under a replacement a literal is one of the first path's, or is t = t true
--   Replacement == of the variables of one path by terms of both, under which each of its literals is matched
--   Cover == a path that avoids the edge, with a leaf at least as high and a replacement
--   target, MayGo == the edge does not go to leaf 0 yet, and each path through it to a leaf above 0 has a cover
--
-- Definitions: the same as a test that computes
--   Partial, start, assign == a replacement as far as it is known; at the start only variables are open; t becomes u
--   agree, bind_term, then_bind, bind_terms == terms are to become others: known ones have to agree
--   turned, ways, ways_to, ways_among == what terms become so that their literal is one of the others; an equality either way round
--   twice, plain_ways, targets == what they become so that it is t = t true; all ways of a literal
--   some_of, go_on, matches == each literal in turn, and back when one has no match
--   covers, is_cover == a replacement takes one path's literals to the other's; and the path is a cover
--   some_path, every_path, is_free, may_go == the edge may go
--
-- Definitions: which edge goes, and what is left
--   Choice, choice_below, choice == the highest row, true edge first, whose edge may go; or none
--   reduced, cut_at == a diagram reduced; the edge of the row r on the side b led to leaf 0, wherever r stands
--   cut_diagram == the edge of row k led to leaf 0, then reduced and closed up
--
-- Definitions: truths
--   says, Follows == the truth of what a label says, where each term has its object; truths that follow a path
--
-- Definitions: the call
--   Edge, edge_of, is_true_edge == the true edge or the false one
--   Cut, chosen_answer, diagram_answer == row, edge and rows left, or the refusal: 25, 17, then 16
--   cut_answer == the call on lent words: 14, 18, then its own
--   written, answer_buffer, cut_buffer == the result buffer then
--
-- Theorems
--   minimum-first: with a minimum variable the answer is 25; done_plain: so a cut that is done had none
--   cut_keeps: a cut leaves the number in every state
--   may_go-sound: the test says no more than document 01's condition; may_go-complete: and no less
--   matches-sound: what the search finds is a replacement; matches-complete: and it finds one where there is one
--   matches-order: whatever the order of the literals
--   chosen: the edge that goes is the highest that may go, true edge first; 16 is said exactly where there is none
--   path-plain: no place of a label on its paths has a minimum variable
--   cut-good: with at most 256 paths what is left is a good diagram, of few rows (cut-few), so that a cut never meets 9
--
-- Searchable is for proofs: what laws of the search suppose, and what a replacement that it finds solves (Solves).

pub mod Match
pub mod Cut
pub mod Truth
-- what laws of the search suppose, and what it solves
pub mod Searchable
