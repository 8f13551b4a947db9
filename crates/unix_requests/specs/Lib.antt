-- Written by tools/messages from crates/requests/specs/Lib.antt.
pub mod Views
pub mod Made
pub mod Built
