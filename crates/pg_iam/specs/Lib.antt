pub mod Made
pub mod Views
