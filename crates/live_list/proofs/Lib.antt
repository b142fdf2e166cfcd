mod Growing
mod Sets
