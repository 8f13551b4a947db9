pub mod Loops
pub mod Examples
pub mod FewestLaws
pub mod PlanLaws
