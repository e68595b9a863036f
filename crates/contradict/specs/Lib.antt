-- Whether the paths of a listing lead to one leaf but where they contradict themselves by equality (document 02, L5).
--
-- Definitions
--   lead_answer == what the call answers: too many paths, one leaf only, or others
--
-- The rest has inner contracts: Representing for the table of representatives and the literals, Leading for the paths.

pub mod Representing
pub mod Leading
