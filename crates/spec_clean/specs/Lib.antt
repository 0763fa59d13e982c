pub mod CleanExtents
pub mod CleanTables
pub mod KnownOfObject
pub mod CleanFiles
