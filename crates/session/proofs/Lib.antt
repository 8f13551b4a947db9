pub mod Ways
pub mod Keys
pub mod Own
pub mod Rows
pub mod Sound
pub mod Steady
pub mod Words
