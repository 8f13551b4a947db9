pub mod Loops
pub mod Taking
pub mod QuestionLaws
