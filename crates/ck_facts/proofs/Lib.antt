pub mod Orders
pub mod PageErrors
pub mod Filtering
pub mod OwnerLists
pub mod OwnerLaws
pub mod Between
pub mod MapLaws
pub mod Places
