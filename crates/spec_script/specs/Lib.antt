pub mod Lines
pub mod Texts
pub mod Refusals
pub mod Replies
pub mod PageText
