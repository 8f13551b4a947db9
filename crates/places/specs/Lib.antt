pub mod Places
pub mod Sound
pub mod Paths
pub mod Reads
