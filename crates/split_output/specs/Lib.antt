pub mod Files
pub mod Left
pub mod Record
pub mod Write
