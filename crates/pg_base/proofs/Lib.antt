pub mod FaultLaws
pub mod FirstBytes
pub mod Written
pub mod HeaderLaws
pub mod NumberLaws
pub mod ReadingLaws
