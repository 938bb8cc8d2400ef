pub mod Keys
pub mod Kept
pub mod Held
pub mod Dirty
mod Examples
