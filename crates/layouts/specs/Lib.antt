pub mod Tables
pub mod Plain
pub mod TableLaws
pub mod Records
pub mod Bodies
pub mod BodyLaws
