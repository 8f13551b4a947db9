pub mod Views
pub mod Made
pub mod Built
