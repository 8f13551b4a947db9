pub mod Laying
pub mod LayingLaws
pub mod BoxLaws
pub mod Elements
pub mod ElementLaws
