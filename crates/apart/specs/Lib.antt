-- Combination with names apart (document 01, section 'Combination').
pub mod Operands
pub mod Results
