pub mod NetChanges
pub mod Takes
pub mod Views
pub mod Words
pub mod Tables
pub mod Orders
pub mod Heaps
