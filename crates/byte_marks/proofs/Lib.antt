mod Ending
mod Marking
mod Padded
