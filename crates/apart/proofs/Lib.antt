pub mod ApartLaws
pub mod SecondLaws
