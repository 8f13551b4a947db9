pub mod Loops
pub mod Numbers
pub mod PlaceLaws
pub mod ReadingLaws
pub mod Refusals
