pub mod SameRun
pub mod Testing
pub mod Laws
