pub mod RowSteps
pub mod EntrySteps
pub mod Places
pub mod Ids
pub mod ChangeSteps
