pub mod Examples
pub mod PairLaws
