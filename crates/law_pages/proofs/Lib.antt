pub mod Sessions
pub mod Agreement
pub mod Bytes
