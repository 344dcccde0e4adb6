pub mod FaultText
pub mod Run
pub mod Status
pub mod WrittenPrefix
