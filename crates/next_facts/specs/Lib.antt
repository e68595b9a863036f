-- The facts of the next state, in code (document 02, L10): what its functions keep and answer. What they are stands in replay.
pub mod Reach
pub mod Filling
pub mod Keeping
pub mod NextCall
-- laws
pub mod FillingLaws
pub mod ReachLaws
pub mod UnderLaws
pub mod OwnLaws
pub mod KeepingLaws
pub mod NextLaws
