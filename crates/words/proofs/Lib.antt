pub mod KeyCode
pub mod RunCode
