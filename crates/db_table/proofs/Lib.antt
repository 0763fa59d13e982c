pub mod EntryPlaces
pub mod Steps
pub mod Places
pub mod Removals
