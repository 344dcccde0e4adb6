pub mod Follow
pub mod Fresh
pub mod LineFiles
pub mod Results
pub mod Shares
pub mod Work
