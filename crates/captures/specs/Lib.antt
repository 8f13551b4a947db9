pub mod Captures
pub mod Steps
pub mod FileLaws
pub mod StretchLaws
pub mod FrameLaws
pub mod ReadLaws
pub mod Round
