pub mod CompiledFile
pub mod Laws
