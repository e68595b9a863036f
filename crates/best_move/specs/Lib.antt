-- What the code of (best) requires and answers; and what its parts keep and answer, which nobody must believe (Inside).
pub mod Chosen
pub mod Inside
