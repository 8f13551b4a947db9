pub mod Layouts
pub mod LayoutLaws
pub mod Values
pub mod Fields
pub mod Runs
pub mod FieldLaws
pub mod BoxLaws
