pub mod Rows
pub mod Rules
pub mod About
pub mod Keys
pub mod Sound
pub mod Words
pub mod Own
