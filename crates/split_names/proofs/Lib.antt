pub mod Different
pub mod EachName
pub mod FileNames
pub mod Keys
pub mod Lists
pub mod MetTexts
pub mod Naming
pub mod Utf8Names
