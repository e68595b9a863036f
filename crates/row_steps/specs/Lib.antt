-- The row step in a working space: what its functions take and give.
pub mod Running
-- laws
pub mod RunLaws
