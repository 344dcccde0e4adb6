pub mod ForCallers
mod OneLines
mod Printable
mod ReadBack
