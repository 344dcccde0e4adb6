pub mod FateFacts
pub mod FitTracks
