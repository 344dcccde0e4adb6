pub mod Influence
pub mod Laws
pub mod Layers
