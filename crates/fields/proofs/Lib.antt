pub mod Ways
pub mod Names
pub mod BoxLaws
pub mod FieldLaws
pub mod LayoutLaws
pub mod ValueLaws
