pub mod LeafLaws
pub mod FormLaws
