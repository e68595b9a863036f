-- The laws of the definitions in specs/, and what the proofs cite.
pub mod AcceptLaws
pub mod ByteLaws
pub mod FormedRowLaws
pub mod PairCountLaws
pub mod RoomLaws
pub mod RowStepLaws
pub mod SessionLaws
