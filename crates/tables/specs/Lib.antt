pub mod Tables
pub mod TableLaws
pub mod Qids
pub mod QidLaws
