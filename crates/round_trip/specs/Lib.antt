-- A diagram's form read again as a reward (document 02, L2 and L12): by ascending N its variables of each kind have their own numbers, and the reward is the very
-- diagram.
--
-- Definitions: variables by ascending N (which are, and how the reader sorts them: reading Numbering)
--   every == each name is so
--   inserted, sorted == numbers ascending, each once
--
-- Definitions: the round trip
--   Different, AreNames, Declared == no two names alike; each a name; tables as declarations leave them
--   Covers == every constant and every predicate of a diagram is declared
--   reward_names, words_read == the names on a reward line under these tables; the words of the form as a reward line's
--   reading_of == a diagram as it is written
--   KeysOf == a session's keys are those of the names in a table
--   RoundTrip == the form's line is well formed and within its limits, its words are accepted, and the reward built from them is the very diagram, with its
--     listing; 11 is not met
--
-- Theorems
--   numbered-exact: a name is written in that way only if it is v and its N in decimal; ascending-place, ascending-count: a variable's place is how many different N on
--     the line are below its own, and there are as many variables as different N; form-variables: so the variables of a closed diagram's form have their own numbers,
--     kind by kind
--   form-good: a form is a well-formed diagram by the grammar; form-resolved: resolved, it is the diagram row for row
--   reward-no-value: a reward that is read from words never meets 11 when it is built
--   round_trip: for a value diagram (session `GoodValue`) under tables that declare what it names, where 19 is not given: RoundTrip
--   tables-of: the names that a session's keys stand for are printed as declared; value-round-trip: the round trip of a session's value diagram after (start)
--   names-written, variables-written, kinds-written, forms-printed: cases of the requests on the definitions
--
-- That building the reward is accepted stands in acceptance; that every session has names for its keys and that they cover its value diagram, and the round trip of texts, in declared.

-- definitions
pub mod Numbering
pub mod RoundTrip
pub mod KeyNames
