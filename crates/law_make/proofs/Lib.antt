pub mod MapPages
pub mod NewBytes
pub mod Empty
pub mod FirstPage
pub mod WholeFile
pub mod Clean
pub mod Computed
