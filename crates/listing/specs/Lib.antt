pub mod Text
pub mod TextLaws
pub mod AnswerLaws
pub mod ListLaws
pub mod RoomLaws
pub mod Lines
pub mod Inputs
pub mod Examples
