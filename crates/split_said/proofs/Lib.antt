pub mod Firsts
pub mod MetAnimals
