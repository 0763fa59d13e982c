pub mod ApartLaws
pub mod PartLaws
pub mod RowLaws
pub mod SlotLaws
pub mod TestLaws
pub mod WholeRows
pub mod OrderLaws
