pub mod Replays
pub mod ReplayLaws
pub mod Examples
