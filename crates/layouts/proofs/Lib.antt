pub mod BodyLaws
pub mod TableLaws
