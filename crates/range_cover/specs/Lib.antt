pub mod CoverCache
pub mod Laws
