pub mod EdgeLines
pub mod Extent
pub mod InnerIndices
pub mod Lanes
pub mod Totals
