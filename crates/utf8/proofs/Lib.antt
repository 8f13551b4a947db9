pub mod Rows
pub mod Texts
pub mod Longest
pub mod Plain
pub mod StartLaws
pub mod Utf8Laws
