pub mod DeleteLaws
pub mod Examples
pub mod InsertLaws
pub mod RoomLaws
pub mod WayLaws
