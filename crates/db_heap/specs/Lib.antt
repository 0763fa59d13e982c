pub mod Counts
pub mod Selects
pub mod Inserts
pub mod InsertPlans
