pub mod Strings
pub mod Spans
pub mod SpanLaws
