-- What the check of listings and the count of their terms ensure.
pub mod Check
pub mod Inner
pub mod Used
pub mod UsedLaws
