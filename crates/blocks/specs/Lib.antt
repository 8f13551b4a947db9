pub mod Blocks
pub mod Views
pub mod PackLaws
pub mod ListingLaws
pub mod StepLaws
pub mod Back
