pub mod Encoded
pub mod Texts
pub mod Closing
