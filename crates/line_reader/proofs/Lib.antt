pub mod KeywordCode
pub mod LineCode
