pub mod Numbers
pub mod CommandSet
pub mod Commands
