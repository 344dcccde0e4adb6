pub mod Joins
pub mod PieceCuts
pub mod PieceIndices
pub mod Shelves
