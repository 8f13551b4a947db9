pub mod Ways
pub mod SpanLaws
pub mod StringLaws
