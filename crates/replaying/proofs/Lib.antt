pub mod Examples
pub mod ReplayLaws
