pub mod Known
pub mod Parents
pub mod ParentRules
pub mod NeighbourRules
pub mod Trees
