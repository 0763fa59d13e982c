pub mod ReportLaw
pub mod RowReading
pub mod SlotReading
