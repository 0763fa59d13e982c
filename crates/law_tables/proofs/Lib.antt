pub mod Entries
pub mod OnePageChains
pub mod CreatedObjects
pub mod DroppedObjects
