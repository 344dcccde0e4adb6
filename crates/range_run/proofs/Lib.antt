pub mod Parted
pub mod Written
