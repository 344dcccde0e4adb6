pub mod Deals
pub mod EstimatorStates
pub mod LineResults
pub mod Results
