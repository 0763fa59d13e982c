pub mod SystemPlaces
pub mod SystemMaps
pub mod Held
pub mod ExtentRules
pub mod PageRules
pub mod MapRules
pub mod ChainsRead
