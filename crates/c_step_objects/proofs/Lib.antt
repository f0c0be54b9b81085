pub mod ListLemmas
pub mod NameLemmas
pub mod ObjectLemmas
pub mod ReceiverLemmas
pub mod RoomLemmas
pub mod ShapeLemmas
pub mod StructLemmas
