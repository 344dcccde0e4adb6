pub mod DigitWeights
pub mod Digits
pub mod Long
pub mod Pairs
pub mod Small
