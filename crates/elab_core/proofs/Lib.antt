pub mod ByteLayouts
pub mod Bodies
pub mod Functions
pub mod PlainNames
