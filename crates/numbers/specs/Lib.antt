pub mod Refusals
pub mod Numbers
pub mod Reading
pub mod ReadingLaws
pub mod Place
pub mod Places
pub mod PlaceLaws
