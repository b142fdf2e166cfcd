mod Bits
mod Joins
mod Scanning
mod Marks
mod Going
mod Sweeping
mod Blanks
mod Stepping
