-- A session in lent words.
pub mod Memory
pub mod Inner
pub mod Saving
-- laws
pub mod WordLaws
pub mod CarriedLaws
pub mod QuietLaws
pub mod StoredLaws
pub mod SlotLaws
pub mod RunLaws
pub mod SavingLaws
