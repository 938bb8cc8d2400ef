pub mod Runs
pub mod Bits
pub mod Writes
pub mod Order
pub mod Apart
