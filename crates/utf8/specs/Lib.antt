pub mod Utf8
pub mod Utf8Laws
pub mod Plain
