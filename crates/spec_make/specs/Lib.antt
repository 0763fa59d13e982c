pub mod Rules
pub mod NewMaps
pub mod NewPages
