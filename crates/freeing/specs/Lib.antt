-- Freeing: what its functions take and give.
pub mod FreeTasks
-- laws
pub mod MarkLaws
