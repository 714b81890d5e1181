pub mod Channel
pub mod Kind
