pub mod Answers
pub mod Elements
pub mod Walks
pub mod Steps
pub mod Frames
pub mod FrameReading
pub mod FrameWriting
