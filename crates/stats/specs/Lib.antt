pub mod Unix
pub mod Stats
pub mod Following
pub mod Appending
pub mod StatLaws
