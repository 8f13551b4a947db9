pub mod Views
pub mod FrameLaws
pub mod RequestLaws
pub mod One
