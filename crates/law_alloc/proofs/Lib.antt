pub mod Computed
pub mod Searches
pub mod Singles
pub mod Freed
pub mod Chains
pub mod Objects
pub mod GivenBack
pub mod Unheld
