pub mod Files
pub mod Plans
pub mod NetLaw
pub mod Touched
pub mod GoodViews
pub mod Reading
pub mod Examples
