pub mod ObjectSlots
