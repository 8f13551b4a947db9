pub mod Plans
pub mod PlanLaws
