-- Laws of the code.
pub mod StackLaws
pub mod RunningLaws
pub mod RegularLaws
pub mod BuiltLaws
pub mod PartLaws
pub mod LabelLaws
pub mod DrawLaws
