pub mod Pieces
pub mod PointList
pub mod RisingPoints
pub mod Shelf
