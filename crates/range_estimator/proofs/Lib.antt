pub mod EmptyTable
pub mod FlaggedBlocks
pub mod Sets
pub mod TableSteps
