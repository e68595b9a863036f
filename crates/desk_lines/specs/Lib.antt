-- (best), (count n) and (did ..): what their functions require and promise (Lines), what the parts of (count n) and (did ..) do, which nobody must believe (Counting,
-- Doing), and what holds where the lines stand where they may (ReadyLaws).
pub mod Lines
pub mod Counting
pub mod Doing
-- laws
pub mod ReadyLaws
