-- The walk of pairs, the plan that it writes, and their laws.
pub mod Walk
pub mod Plan
pub mod WalkLaws
pub mod PlanLaws
