pub mod PassedLaws
pub mod FactLaws
pub mod SearchLaws
pub mod StartLaws
pub mod CheckLaws
mod RisingLaws
mod TablesLaws
mod ClimbLaws
