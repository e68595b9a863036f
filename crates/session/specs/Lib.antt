-- Sessions: what a text's lines declare and ask for (document 01, sections 'Text' and 'A run, whole').
--
-- Definitions: a session
--   Names == the names declared: constants, predicates, actions; parameters and variants of the last action, variants of those before it
--   Singles, Live == which single forms were accepted; the state as it is lent: objects, constants placed, facts; count and total of (did ..) lines
--   Session, opening == part, names, single forms, model, model rows, state, value diagram and k; before the first line
--   default_total, default_numerator, default_denominator == W is 100 and the discount 19 20 where no line gives them (document 02, L7)
--   rewarded, with_actions, with_model, with_names, with_rows, with_live, with_held == a model with another reward, with other actions; a session with something new
--   refuse_if == refused if true, else what follows
--
-- Definitions: where a line may stand
--   Part, Rule, rule_of == model or run; what each kind of line asks for in each part
--   each_varied, is_whole == a reward, an action, and a variant of each
--   each_placed, has_objects, is_placed == an accepted (objects n), and every declared constant placed
--   unless, allowed == what a rule asks for is there, or 5, for (best) 20
--
-- Definitions: lines of the model
--   is_declared, constant_line == (constant n)
--   Vocabulary, predicate_line, with_vocabulary == (predicate n arity), with the arity list
--   is_total, total_line, with_total, is_discount, discount_line, with_discount == (total W), (discount G D)
--   repeated, action_line, with_action == (action n !p ..)
--   most_model_rows, rows_with == all model listings together have 2,048 rows
--   names_for == the names that a diagram of the line may have
--   reward_read, with_reward, reward_line == (reward DIAGRAM)
--   weight_read, add_variant, no_truths, with_variant, variant_line == (variant n WEIGHT), of the last action
--   truth_read, is_some, with_truth_at, last_truths, last_variant, truths_of_last, truths_now, with_truth, becomes_line == (becomes (p ?a ..) DIAGRAM)
--   weights_sum, weighed, start_line == (start): 17 if an action's summed weights have over 256 paths; 13 unless each of their paths with a leaf other than W
--       contradicts itself by equality (document 02, L5); then the run begins
--
-- Definitions: lines of the run
--   cleared, objects_line == (objects n)
--   placed, is_line == (is c o): a constant has its object
--   with_fact, begun_again, same_word, row_is, is_fact, fact_line, predicate_of, true_line == (true p o ..)
--   state_in, value_read == (value): the state in hand, and the value diagram's number in it, or 15
--   backup_is, cut_is, reduce_is == what an accepted (backup), (cut) or (reduce) is answered: k, rows; row, edge, rows left; rows (document 02, L13). Each is a call of mdp's run
--   tables_in, form_read == (text): the names declared; how many bytes the value has as a form, or 19 (document 02, L2)
--   best_read, no_key, best_is == (best): the move, or what refuses it; the action's name and its objects (document 02, L9)
--   variant_names_from, variant_names, did_of, replay_in, replayed, did_to, did_line == (did action variant object ..): names found, 2, 3, 2, 4, then what replay says (document 02, L10)
--   entries_in, count_read == (count n): the entries of all states of n objects; 4, 24 and 15 before them (document 02, L11)
--
-- Definitions: replies
--   Reply == the session behind a line, and what the line is answered
--   refusal, silent == a refused line leaves the session as it was; nothing is printed
--   answered, quietly == an accepted line is answered by its outcome, a refused one leaves the session as it was; a line that prints nothing unless it is refused
--   value_says, call_says, text_says, best_says, count_says, did_says == value, k, S^k; a call of the run; the bytes of the form; action and objects; objects and
--       values; count and total
--   done == what each kind of line does and is answered, where it stands where it may
--   at_place == what follows once the place of a line is judged
--   reply_to, words_of, reply == 1, 5 or 20, then the line's own checks; a line in bytes, of which one of none passes (document 02, L1)
--
-- Definitions: texts
--   line_feed, Lines, behind_byte, lines_of == the lines of a text, and the bytes behind the last line feed
--   value_form, table_of == the value diagram as one nested form (document 02, L2); the values of all states as words (L11)
--   has_bytes, Progress, reply_bytes, replied, after_line, after_lines == how far a text is read, from line to line, numbered from 1, blank ones too
--   after_rest, unfinished, closing == a last line without a line feed is 1; without an accepted (start) a last (refused 5 0), if a line with bytes was met
--   beginning, text_read, text_answers == all answers of a text
--
-- Definitions: what holds from line to line
--   most_variant_names, GoodTables, LastAction, variant_count, Agreeing, GoodValue, GoodParts, GoodLog == names within limits, names and actions agree, what is read of a model is good, count and
--       total are at most 10^18
--   Begun, GoodSession == the run has begun with a good model that has an action, and a good value diagram; what can be told of a good session from itself alone
--
-- The theorems are in model_laws and session_laws.

pub mod Place
pub mod Session
pub mod Declaring
pub mod Facts
pub mod ModelLines
pub mod Running
pub mod Replaying
pub mod Replies
pub mod Texts
pub mod Good
