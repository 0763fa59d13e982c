pub mod Endings
pub mod AllocEnds
pub mod StatementEnds
pub mod ObjectKeeps
pub mod ObjectTakes
pub mod Statements
pub mod Replies
pub mod Computed
