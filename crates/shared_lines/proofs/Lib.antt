mod Examples
mod Kept
mod Lengths
