pub mod Puts
pub mod Filled
pub mod Written
pub mod Marked
