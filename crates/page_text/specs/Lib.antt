pub mod Cells
pub mod Figures
pub mod Laws
pub mod Shown
pub mod Styled
