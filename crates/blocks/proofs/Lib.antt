pub mod Back
pub mod ListingLaws
pub mod PackLaws
pub mod StepLaws
pub mod Views
