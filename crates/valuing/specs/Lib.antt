-- What the value call's parts keep and answer: what it asks of the index of facts, its search, its search with minimum variables, its second way of
-- working, and values with objects for the parameters.
pub mod Asking
pub mod Search
pub mod Rising
pub mod Tables
pub mod Walks
-- laws
pub mod WalkLaws
