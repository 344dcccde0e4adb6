pub mod ForCallers
pub mod Orderly
pub mod RuleSteps
pub mod Passes
pub mod Files
pub mod EndFacts
pub mod MessageFacts
pub mod Streams
