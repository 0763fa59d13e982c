pub mod Parts
pub mod Started
pub mod FirstPage
pub mod MapBytes
pub mod PfsBytes
