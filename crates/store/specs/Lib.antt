-- The working space (document 01, section 'Combination').
pub mod Space
pub mod Load
pub mod AddLaws
