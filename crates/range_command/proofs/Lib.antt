pub mod Failures
pub mod OneLine
pub mod RunSources
pub mod Sayings
