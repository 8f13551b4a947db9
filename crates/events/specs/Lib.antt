pub mod Events
pub mod Traces
