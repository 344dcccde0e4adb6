pub mod FirstEntries
pub mod Firsts
pub mod RankIndices
pub mod RankedMembers
pub mod Selected
