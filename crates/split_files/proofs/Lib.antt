pub mod PlainFields
pub mod ReadBack
