-- What the code of a (did ..) line, behind its names and counts, requires and answers; and what its parts do, which nobody must believe (Inside).
pub mod Stepped
pub mod Inside
