pub mod Bools
pub mod Firsts
pub mod Searches
pub mod Decided
pub mod Tested
pub mod Tables
