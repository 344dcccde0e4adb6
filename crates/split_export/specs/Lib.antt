pub mod Export
pub mod Files
pub mod Laws
pub mod Rules
pub mod Text
