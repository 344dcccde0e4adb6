pub mod Axes
pub mod Boxes
pub mod Far
pub mod Gaps
