pub mod Known
pub mod Scans
pub mod Laws
pub mod Examples
