pub mod Names
pub mod PathLaws
pub mod Paths
pub mod PlaceLaws
pub mod ReadLaws
pub mod Sound
