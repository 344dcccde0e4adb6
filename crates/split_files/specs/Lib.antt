pub mod Laws
pub mod TrackText
