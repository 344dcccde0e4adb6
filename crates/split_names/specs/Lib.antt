pub mod Clean
pub mod Cut
pub mod Device
pub mod Laws
pub mod Names
