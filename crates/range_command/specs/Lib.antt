pub mod Command
pub mod Opener
pub mod Outlet
pub mod RefusalText
pub mod SaidLine
pub mod Status
