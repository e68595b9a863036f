-- Laws of the code.
pub mod FollowLaws
pub mod FreeLaws
pub mod HeldLaws
pub mod PowerLaws
pub mod SumLaws
pub mod ValueLaws
pub mod VariantLaws
