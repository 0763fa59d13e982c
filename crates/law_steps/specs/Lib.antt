pub mod Laws
pub mod AllocatedPages
pub mod LeftParts
