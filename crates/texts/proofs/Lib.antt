pub mod PutLaws
pub mod SendLaws
pub mod MoveLaws
pub mod RunLaws
pub mod CarriedLaws
pub mod KeepLaws
