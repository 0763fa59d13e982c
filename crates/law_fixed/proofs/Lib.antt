pub mod Numbers
pub mod Resources
pub mod Forms
pub mod Items
pub mod Logs
pub mod Due
pub mod Steps
pub mod Fixed
