pub mod Alike
pub mod Blanks
