-- Written by tools/messages from crates/replies/specs/Lib.antt.
pub mod Views
pub mod Made
pub mod Built
