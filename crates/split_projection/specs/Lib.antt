pub mod Grid
pub mod Place
pub mod Zone
