-- The public call of a cut.
pub mod Calls
pub mod Choosing
pub mod ChoosingLaws
