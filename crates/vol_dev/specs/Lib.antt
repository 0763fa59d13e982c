pub mod Devices
pub mod Files
pub mod Output
pub mod Memory
