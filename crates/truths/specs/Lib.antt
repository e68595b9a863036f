-- Lent truth diagrams: what the functions that read and check them take and give.
pub mod TruthChecks
-- laws
pub mod TruthCheckLaws
