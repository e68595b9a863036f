-- Lines of the state.
pub mod Lines
pub mod LineLaws
