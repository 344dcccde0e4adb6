pub mod Decimal
pub mod Digits
pub mod Laws
pub mod Same
