-- Written by tools/messages from crates/frames/specs/Lib.antt.
pub mod Views
pub mod FrameLaws
pub mod RequestLaws
pub mod One
