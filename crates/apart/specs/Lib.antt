pub mod Apart
pub mod ApartLaws
pub mod SecondLaws
