pub mod Seen
pub mod Heads
pub mod KnownPages
pub mod PageRules
pub mod Lines
pub mod Written
