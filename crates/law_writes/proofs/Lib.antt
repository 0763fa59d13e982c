pub mod MapPages
pub mod WritesAtMost
pub mod Puts
pub mod SingleWrites
