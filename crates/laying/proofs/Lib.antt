pub mod Lays
pub mod BoxLaws
pub mod ElementLaws
pub mod LayingLaws
pub mod WritingLaws
