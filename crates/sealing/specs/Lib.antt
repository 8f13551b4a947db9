pub mod Trailers
pub mod TrailerLaws
