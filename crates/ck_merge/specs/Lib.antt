pub mod Filing
pub mod Runs
pub mod Shown
pub mod ParentErrors
pub mod Buckets
pub mod Sides
pub mod Held
