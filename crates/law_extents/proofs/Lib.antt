pub mod GoodChanges
pub mod GoodKinds
pub mod Listed
pub mod Locality
pub mod WholeFile
