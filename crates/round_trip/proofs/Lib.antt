-- The laws of the definitions in specs/, and what the proofs cite.
pub mod BuildLaws
pub mod ExampleLaws
pub mod KeyNameLaws
pub mod NameLaws
pub mod NumberingLaws
pub mod PlaceLaws
pub mod RoundTripLaws
pub mod SessionLaws
pub mod WrittenLaws
